use Rattle.chain_runs.proofs.Law.{tops_have_stood}
use Rattle.chain_runs.proofs.laws.tops_have_stood.Goals as goal

pub returns : goal.returns
returns c = tops_have_stood c.args.barred.now c.args.setting.now c.kept.ensures c.kept-2.ensures c.requires.fits c.requires.optimistic
