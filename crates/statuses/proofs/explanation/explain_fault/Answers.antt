use Rattle.statuses.proofs.explanation.explain_fault.Goals as goal

pub returns-clause-bytes : goal.returns-clause-bytes
returns-clause-bytes g c = rw (← c.fault_words.ensures) c.write_pieces.ensures.bytes
