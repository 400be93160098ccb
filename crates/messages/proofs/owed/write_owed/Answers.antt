use Rattle.messages.proofs.owed.write_owed.Goals as goal

pub returns-clause-bytes : goal.returns-clause-bytes
returns-clause-bytes g c = rw (← c.trimmed.ensures, ← c.number.ensures) c.write_pieces.ensures.bytes
