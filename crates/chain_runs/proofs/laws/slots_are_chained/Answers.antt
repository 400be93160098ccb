use Rattle.chain_runs.proofs.Law.{slots_are_chained}
use Rattle.chain_runs.proofs.laws.slots_are_chained.Goals as goal

pub returns : goal.returns
returns c = slots_are_chained c.args.barred.now c.args.setting.now c.kept.ensures c.kept-2.ensures c.requires.fits c.requires.optimistic
