use Rattle.std.proofs.Common.{rules}
use Rattle.oa_cli.proofs.verdicts.telling.write_verdict.Goals as goal

pub returns-in-ReadFault-clause-bytes : goal.returns-in-ReadFault-clause-bytes
returns-in-ReadFault-clause-bytes g c = rw c.in-ReadFault.is c.write_pieces-in-ReadFault.ensures.bytes

pub returns-in-LongInput-clause-bytes : goal.returns-in-LongInput-clause-bytes
returns-in-LongInput-clause-bytes g c = rw c.in-LongInput.is c.write_pieces-in-LongInput.ensures.bytes

pub returns-in-Worked-clause-bytes : goal.returns-in-Worked-clause-bytes
returns-in-Worked-clause-bytes g c = rw c.in-Worked.is c.show_workload.ensures.bytes

pub returns-in-Usage-clause-bytes : goal.returns-in-Usage-clause-bytes
returns-in-Usage-clause-bytes g c = search rules

pub returns-in-Rejected-clause-bytes : goal.returns-in-Rejected-clause-bytes
returns-in-Rejected-clause-bytes g c = rw c.in-Rejected.is c.write_rejection.ensures.bytes
