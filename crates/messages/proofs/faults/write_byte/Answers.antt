use Rattle.messages.proofs.faults.write_byte.Goals as goal

pub returns-clause-bytes : goal.returns-clause-bytes
returns-clause-bytes g c = rw (← c.number.ensures, ← c.byte_words.ensures, ← c.byte_mend.ensures) c.write_pieces.ensures.bytes
