use Rattle.run_ahead.proofs.TypedRuns.{memory_is_typed, callers_are_typed}
use Rattle.run_ahead.proofs.laws.memory_is_typed.Goals as goal

pub returns-clause-memory : goal.returns-clause-memory
returns-clause-memory c = memory_is_typed

pub returns-clause-callers : goal.returns-clause-callers
returns-clause-callers c = callers_are_typed
