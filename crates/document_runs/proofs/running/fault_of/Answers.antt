use Rattle.std.proofs.Common.{rules}
use Rattle.document_runs.proofs.running.fault_of.Goals as goal

pub returns-in-StepOfNobody : goal.returns-in-StepOfNobody
returns-in-StepOfNobody c = search rules
