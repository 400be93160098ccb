use Rattle.statuses.proofs.explanation.explain_refusal.Goals as goal

pub returns-clause-bytes : goal.returns-clause-bytes
returns-clause-bytes g c = rw (← c.rule_words.ensures, ← c.method_words.ensures) c.write_pieces.ensures.bytes
