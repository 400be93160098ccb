use Rattle.std.proofs.Common.{rules}
use Rattle.oa_cli.proofs.top.fault_verdict.Goals as goal

pub returns-in-Memory : goal.returns-in-Memory
returns-in-Memory c = search rules

pub returns-in-Refused : goal.returns-in-Refused
returns-in-Refused c = search rules

pub returns-in-Shape : goal.returns-in-Shape
returns-in-Shape c = search rules
