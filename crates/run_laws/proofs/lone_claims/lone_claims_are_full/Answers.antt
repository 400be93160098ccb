use Rattle.run_laws.proofs.lone_claims.Together.{lone_claims}
use Rattle.run_laws.proofs.lone_claims.lone_claims_are_full.Goals as goal

pub returns : goal.returns
returns c = lone_claims c.args.barred.now c.args.setting.now c.kept.ensures c.kept-2.ensures c.requires.fits c.requires.optimistic
