use Rattle.messages.proofs.message.explain_unknown.Goals as goal

pub returns-in-Field-clause-bytes : goal.returns-in-Field-clause-bytes
returns-in-Field-clause-bytes g c = rw (c.in-Field.is, ← c.word_at.ensures) c.write_unknown.ensures.bytes

pub returns-in-Root-clause-bytes : goal.returns-in-Root-clause-bytes
returns-in-Root-clause-bytes g c = rw (c.in-Root.is, ← c.word_at-in-Root.ensures) c.write_unknown-in-Root.ensures.bytes

pub returns-in-Kind-clause-bytes : goal.returns-in-Kind-clause-bytes
returns-in-Kind-clause-bytes g c = rw (c.in-Kind.is, ← c.word_at-in-Kind.ensures) c.write_unknown-in-Kind.ensures.bytes

pub returns-in-Node-clause-bytes : goal.returns-in-Node-clause-bytes
returns-in-Node-clause-bytes g c = rw (c.in-Node.is, ← c.word_at-in-Node.ensures) c.write_unknown-in-Node.ensures.bytes

pub returns-in-Operation-clause-bytes : goal.returns-in-Operation-clause-bytes
returns-in-Operation-clause-bytes g c = rw (c.in-Operation.is, ← c.word_at-in-Operation.ensures) c.write_unknown-in-Operation.ensures.bytes
