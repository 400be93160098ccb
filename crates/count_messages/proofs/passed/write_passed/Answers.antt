use Rattle.count_messages.proofs.passed.write_passed.Goals as goal

pub returns-clause-bytes : goal.returns-clause-bytes
returns-clause-bytes g c = rw (← c.trimmed.ensures, ← c.limit_passed.ensures, ← c.limit_words.ensures, ← c.number.ensures) c.write_pieces.ensures.bytes
