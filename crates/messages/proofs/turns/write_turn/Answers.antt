use Rattle.messages.proofs.turns.write_turn.Goals as goal

pub returns-clause-bytes : goal.returns-clause-bytes
returns-clause-bytes g c = rw (← c.trimmed.ensures, ← c.shape_words.ensures, ← c.number.ensures) c.write_pieces.ensures.bytes
