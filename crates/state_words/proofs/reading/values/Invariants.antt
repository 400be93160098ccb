use Rattle.std.proofs.Common.{◌≡◌, ◌+◌, ◌-◌, ◌*◌, ◌++◌, []}
use Rattle.std.specs.Prelude.{slice_index}
use Rattle.state_words.specs.Layout.{value_at, read_list}
use Rattle.state_words.proofs.reading.values.Given as goal

abbrev pub invariant-loop : goal.invariant-loop
invariant-loop l = record {
  at : l.at ≡ l.start + 2 * l.counter;
  read : l.values ++ read_list (value_at l.cells) l.at 2 (l.count - l.counter) ≡ read_list (value_at l.cells) l.start 2 l.count;
}
