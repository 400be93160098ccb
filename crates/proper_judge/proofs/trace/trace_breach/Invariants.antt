use Rattle.source_machine.specs.Calls.{IsOfSourceRun}
use Rattle.proper_judge.proofs.trace.trace_breach.Given as goal

abbrev pub invariant-loop-place : goal.invariant-loop-place
invariant-loop-place l = IsOfSourceRun l.normal l.state
