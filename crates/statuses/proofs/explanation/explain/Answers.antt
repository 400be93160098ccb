use Rattle.statuses.proofs.explanation.explain.Goals as goal

pub returns-in-Partial-clause-bytes : goal.returns-in-Partial-clause-bytes
returns-in-Partial-clause-bytes g c = rw c.in-Partial.is c.write_all.ensures.bytes

pub returns-in-Usage-clause-bytes : goal.returns-in-Usage-clause-bytes
returns-in-Usage-clause-bytes g c = rw c.in-Usage.is c.write_all-in-Usage.ensures.bytes

pub returns-in-ReadFault-clause-bytes : goal.returns-in-ReadFault-clause-bytes
returns-in-ReadFault-clause-bytes g c = rw c.in-ReadFault.is c.write_all-in-ReadFault.ensures.bytes

pub returns-in-LongInput-clause-bytes : goal.returns-in-LongInput-clause-bytes
returns-in-LongInput-clause-bytes g c = rw c.in-LongInput.is c.write_all-in-LongInput.ensures.bytes

pub returns-in-Refused-clause-bytes : goal.returns-in-Refused-clause-bytes
returns-in-Refused-clause-bytes g c = rw c.in-Refused.is c.explain_refusal.ensures.bytes

pub returns-in-WriteFault-clause-bytes : goal.returns-in-WriteFault-clause-bytes
returns-in-WriteFault-clause-bytes g c = rw c.in-WriteFault.is c.write_all-in-WriteFault.ensures.bytes

pub returns-in-Memory-clause-bytes : goal.returns-in-Memory-clause-bytes
returns-in-Memory-clause-bytes g c = rw c.in-Memory.is c.write_all-in-Memory.ensures.bytes

pub returns-in-Rejected-clause-bytes : goal.returns-in-Rejected-clause-bytes
returns-in-Rejected-clause-bytes g c = rw c.in-Rejected.is c.explain_rejection.ensures.bytes
