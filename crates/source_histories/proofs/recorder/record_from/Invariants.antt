use Rattle.std.proofs.Common.{◌≡◌, length, take}
use Rattle.source_machine.specs.Calls.{IsOfSourceRun}
use Rattle.source_histories.proofs.Following.{Following}
use Rattle.source_histories.proofs.recorder.record_from.Given as goal

-- what is written down is the book of the events that were made
abbrev pub invariant-loop-at : goal.invariant-loop-at
invariant-loop-at g l = record {
  follows : Following l.normal (g.R.Reader.rules l.reader) l.callers (take l.at l.events) l.state l.slots l.notes;
  of_run : IsOfSourceRun l.normal l.state;
  many : length l.state.callers ≡ l.callers;
}
