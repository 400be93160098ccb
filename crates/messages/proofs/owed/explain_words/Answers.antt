use Rattle.messages.proofs.owed.explain_words.Goals as goal

pub returns-in-None-clause-bytes : goal.returns-in-None-clause-bytes
returns-in-None-clause-bytes g c = rw (c.in-None.ensures) c.explain_form.ensures.bytes
