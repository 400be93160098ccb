use Rattle.refusal_messages.proofs.refused.write_refused.Goals as goal

pub returns-clause-bytes : goal.returns-clause-bytes
returns-clause-bytes g c = rw (← c.trimmed.ensures, ← c.method_words.ensures, ← c.word_at.ensures, ← c.register_before.ensures, ← c.register_number.ensures, ← c.rule_words.ensures, ← c.rule_mend.ensures, ← c.number.ensures) c.write_pieces.ensures.bytes
