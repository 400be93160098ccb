use Rattle.statuses.proofs.explanation.explain_rejection.Goals as goal

pub returns-clause-bytes : goal.returns-clause-bytes
returns-clause-bytes g c = rw (← c.rejected_part.ensures, ← c.rejection_words.ensures) c.write_pieces.ensures.bytes
