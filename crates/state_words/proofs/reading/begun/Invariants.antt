use Rattle.std.proofs.Common.{◌≡◌, ◌+◌, ◌-◌, ◌*◌, ◌++◌, []}
use Rattle.std.specs.Prelude.{slice_index}
use Rattle.state_words.specs.Layout.{read_list}
use Rattle.state_words.proofs.reading.begun.Given as goal

abbrev pub invariant-loop : goal.invariant-loop
invariant-loop l = record {
  at : l.at ≡ 2 + 41 * l.counter;
  read : l.begun ++ read_list (slice_index l.cells) l.at 41 (l.count - l.counter) ≡ read_list (slice_index l.cells) 2 41 l.count;
}
