use Rattle.std.proofs.Common.{arith, rules}
use Rattle.oa_text.proofs.Counts.{length-lines_of-le}
use Rattle.oa_cli.proofs.top.judge_bytes.Goals as goal

pub read_document-requires : goal.read_document-requires
read_document-requires g c = omega (arith, length-lines_of-le c.args.bytes.now, c.requires)

pub judge_document-requires : goal.judge_document-requires
judge_document-requires g c = search rules

pub returns-in-Ok : goal.returns-in-Ok
returns-in-Ok g c = search rules

pub returns-in-Err-Fault : goal.returns-in-Err-Fault
returns-in-Err-Fault g c = search rules

pub returns-in-Err-Memory : goal.returns-in-Err-Memory
returns-in-Err-Memory g c = search rules
