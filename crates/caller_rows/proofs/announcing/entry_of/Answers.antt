use Rattle.core_ground.specs.Running.{bare_pair}
use Rattle.caller_rows.proofs.BareRows.{new_belongs}
use Rattle.caller_rows.proofs.announcing.entry_of.Goals as goal

pub returns : goal.returns
returns c =
    new_belongs (bare_pair c.args.row.now.0) c.args.row.now.1 c.in_ok-entry.entry c.args.number c.args.room c.in_ok-entry.ensures.belongs c.kept.ensures.may c.kept.ensures.fits c.requires
    c.in_ok-entry.ensures.made
