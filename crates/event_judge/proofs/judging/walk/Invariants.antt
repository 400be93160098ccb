use Rattle.std.proofs.Common.{◌≡◌, drop, length}
use Rattle.source_machine.specs.Calls.{IsOfSourceRun}
use Rattle.event_judge.specs.Judging.{walked}
use Rattle.event_judge.proofs.judging.walk.Given as goal

abbrev pub invariant-loop-at : goal.invariant-loop-at
invariant-loop-at l = record {
  same : walked l.normal l.scripts l.at l.progress (drop l.at l.events) ≡ walked l.normal l.scripts 0 l.fn.first l.events;
  runs : IsOfSourceRun l.normal l.progress.state;
  callers : length l.progress.state.callers ≡ length l.fn.first.state.callers;
}
