use Rattle.run_laws.proofs.stale_laws.Passing.{no_stale_pass}
use Rattle.run_laws.proofs.stale_laws.no_stale_pass.Goals as goal

pub returns : goal.returns
returns c = no_stale_pass c.args.barred.now c.args.setting.now c.kept.ensures c.kept-2.ensures c.requires.fits c.requires.optimistic
