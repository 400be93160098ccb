use Rattle.oax_cli.proofs.telling.write_verdict.Goals as goal

pub returns-in-Proper-clause-bytes : goal.returns-in-Proper-clause-bytes
returns-in-Proper-clause-bytes g c = rw c.in-Proper.is c.write_pieces.ensures.bytes

pub returns-in-NotEnabled-clause-bytes : goal.returns-in-NotEnabled-clause-bytes
returns-in-NotEnabled-clause-bytes g c = rw c.in-NotEnabled.is c.write_stop.ensures.bytes

pub returns-in-Help-clause-bytes : goal.returns-in-Help-clause-bytes
returns-in-Help-clause-bytes g c = rw c.in-Help.is c.write_all.ensures.bytes

pub returns-in-ReadFault-clause-bytes : goal.returns-in-ReadFault-clause-bytes
returns-in-ReadFault-clause-bytes g c = rw c.in-ReadFault.is c.write_pieces-in-ReadFault.ensures.bytes

pub returns-in-LongInput-clause-bytes : goal.returns-in-LongInput-clause-bytes
returns-in-LongInput-clause-bytes g c = rw c.in-LongInput.is c.write_pieces-in-LongInput.ensures.bytes
