use Rattle.messages.proofs.message.explain_turn.Goals as goal

pub returns-in-NoMemory-clause-bytes : goal.returns-in-NoMemory-clause-bytes
returns-in-NoMemory-clause-bytes g c = rw c.in-NoMemory.is c.write_unfound.ensures.bytes
