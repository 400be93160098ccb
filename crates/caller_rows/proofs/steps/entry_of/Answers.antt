use Rattle.caller_rows.proofs.Starting.{alone_belongs}
use Rattle.caller_rows.proofs.steps.entry_of.Goals as goal

pub returns : goal.returns
returns c =
    alone_belongs c.args.barred.now c.args.setting.now c.in_ok-entry.entry c.args.number c.args.room c.in_ok-entry.ensures.belongs c.kept.ensures c.requires.fits c.requires.number c.in_ok-entry.ensures.made
