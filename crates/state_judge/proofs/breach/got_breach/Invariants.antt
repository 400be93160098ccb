use Rattle.std.proofs.Common.{◌≡◌, ◌<◌, ℕ, Some, None}
use Rattle.std.specs.Prelude.{slice_get}
use Rattle.source_machine.specs.declared.state.SourceCaller.{SourceCaller}
use Rattle.state_judge.specs.Breaches.{FoundOf}
use Rattle.state_judge.proofs.breach.got_breach.Given as goal

abbrev pub invariant-loop-c : goal.invariant-loop-c
invariant-loop-c l = (k : ℕ) (caller : SourceCaller) → k < l.c → slice_get l.machine.callers k ≡ Some caller → FoundOf l.machine.memory caller (slice_get l.runs k) None
