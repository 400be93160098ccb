use Rattle.statuses.proofs.explanation.explain_shape.Goals as goal

pub returns-clause-bytes : goal.returns-clause-bytes
returns-clause-bytes g c = rw (← c.place_before.ensures, ← c.place_number.ensures, ← c.place_after.ensures, ← c.shape_words.ensures) c.write_pieces.ensures.bytes
