use Rattle.oa_simulation.proofs.Barring.{quiet_steps_keep}
use Rattle.oa_simulation.proofs.laws.quiet_steps_keep.Goals as goal

pub returns : goal.returns
returns c = quiet_steps_keep c.args.barred.now c.args.setting.now c.kept.ensures c.kept-2.ensures c.requires.fits c.requires.optimistic
