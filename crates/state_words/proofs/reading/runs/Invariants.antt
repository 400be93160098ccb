use Rattle.std.proofs.Common.{◌≡◌, ◌+◌, ◌-◌, ◌*◌, ◌++◌, []}
use Rattle.std.specs.Prelude.{slice_index}
use Rattle.state_words.specs.Layout.{run_at, read_list}
use Rattle.state_words.proofs.reading.runs.Given as goal

abbrev pub invariant-loop-caller : goal.invariant-loop-caller
invariant-loop-caller l = l.runs ++ read_list (run_at l.cells l.start l.count) l.caller 1 (l.callers - l.caller) ≡ read_list (run_at l.cells l.start l.count) 0 1 l.callers
