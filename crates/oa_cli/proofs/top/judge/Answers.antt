use Rattle.std.proofs.Common.{rules}
use Rattle.oa_cli.proofs.top.judge.Goals as goal

pub returns-in-None : goal.returns-in-None
returns-in-None g c = search rules

pub returns-in-Some-OfDocument : goal.returns-in-Some-OfDocument
returns-in-Some-OfDocument g c = search rules

pub returns-in-Some-Workload : goal.returns-in-Some-Workload
returns-in-Some-Workload g c = search rules
