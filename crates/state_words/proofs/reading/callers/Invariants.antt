use Rattle.std.proofs.Common.{◌≡◌, ◌+◌, ◌-◌, ◌*◌, ◌++◌, []}
use Rattle.std.specs.Prelude.{slice_index}
use Rattle.state_words.specs.Layout.{caller_at, read_list}
use Rattle.state_words.proofs.reading.callers.Given as goal

abbrev pub invariant-loop : goal.invariant-loop
invariant-loop l = record {
  at : l.at ≡ 2 + 41 * l.counter;
  read : l.callers.items ++ read_list (caller_at l.text l.cells) l.at 41 (l.count - l.counter) ≡ read_list (caller_at l.text l.cells) 2 41 l.count;
}
