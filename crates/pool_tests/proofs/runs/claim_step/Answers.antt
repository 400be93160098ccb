use Rattle.pool_tests.proofs.Told.{claim_stands}
use Rattle.pool_tests.proofs.runs.claim_step.Goals as goal

pub returns : goal.returns
returns g c = claim_stands c.args.shape.now c.args.last_phase c.word_told-found.result c.args.claim.now c.accept.new.self c.accept.result c.requires.stands c.accept.ensures.same c.accept.ensures.stays
