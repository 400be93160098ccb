use Rattle.queue_source.proofs.Answered.{proper_answered}
use Rattle.queue_source.proofs.queue_text.Goals as goal

pub returns-clause-proper : goal.returns-clause-proper
returns-clause-proper c = proper_answered c.in_ok-text.text c.in_ok-text.ensures.text
