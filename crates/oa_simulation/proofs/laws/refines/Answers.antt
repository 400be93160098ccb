use Rattle.oa_simulation.proofs.Barring.{refines}
use Rattle.oa_simulation.proofs.laws.refines.Goals as goal

pub returns : goal.returns
returns c = refines c.args.barred.now c.args.setting.now c.kept.ensures c.kept-2.ensures c.requires.fits c.requires.optimistic
