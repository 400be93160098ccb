use Rattle.messages.proofs.message.explain_read.Goals as goal

pub returns-clause-bytes : goal.returns-clause-bytes
returns-clause-bytes g c = (c.named_of-named.result, c.named_of-named.ensures, c.explain_named.ensures.bytes)
