use Rattle.run_laws.proofs.Following.{follows}
use Rattle.run_laws.proofs.laws.runs_follow_source.Goals as goal

pub returns : goal.returns
returns c = follows c.args.barred.now c.args.setting.now c.kept.ensures c.kept-2.ensures c.requires.fits c.requires.optimistic
