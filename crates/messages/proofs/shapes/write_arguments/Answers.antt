use Rattle.messages.proofs.shapes.write_arguments.Goals as goal

pub returns-clause-bytes : goal.returns-clause-bytes
returns-clause-bytes g c = rw (← c.number.ensures, ← c.trimmed.ensures, ← c.trimmed-2.ensures, ← c.number-2.ensures) c.write_pieces.ensures.bytes
