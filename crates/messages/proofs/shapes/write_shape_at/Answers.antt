use Rattle.messages.proofs.shapes.write_shape_at.Goals as goal

pub returns-clause-bytes : goal.returns-clause-bytes
returns-clause-bytes g c = rw (← c.trimmed.ensures, ← c.shape_words.ensures, ← c.shape_hint.ensures, ← c.number.ensures) c.write_pieces.ensures.bytes
