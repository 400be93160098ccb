use Rattle.messages.proofs.turns.write_unfound.Goals as goal

pub returns-clause-bytes : goal.returns-clause-bytes
returns-clause-bytes g c = rw (← c.shape_words.ensures) c.write_pieces.ensures.bytes
