use Rattle.messages.proofs.faults.write_unknown.Goals as goal

pub returns-clause-bytes : goal.returns-clause-bytes
returns-clause-bytes g c = rw (← c.number.ensures) c.write_pieces.ensures.bytes
