use Rattle.run_laws.proofs.guarded_claims.Law.{no_guarded_claim}
use Rattle.run_laws.proofs.guarded_claims.no_guarded_claim.Goals as goal

pub returns : goal.returns
returns c = no_guarded_claim c.args.barred.now c.args.setting.now c.kept.ensures c.kept-2.ensures c.requires.fits c.requires.optimistic
