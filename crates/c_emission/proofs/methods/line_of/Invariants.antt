use Rattle.std.proofs.Common.{◌≡◌, ◌≤◌, ◌+◌, ◌-◌, ◌*◌, map, drop}
use Rattle.c_emission.specs.Layout.{sum_first, block_size, method_sizes}
use Rattle.c_emission.proofs.methods.line_of.Given as goal

abbrev pub invariant-loop-place : goal.invariant-loop-place
invariant-loop-place l = record {
  same : l.line + sum_first (map (block_size l.kinds l.fields) (drop l.place l.code)) (l.at - l.place)
      ≡ l.first + sum_first (method_sizes l.kinds l.fields l.code) l.at;
  near : l.line ≤ l.first + 250 * l.place;
  before : l.place ≤ l.at;
}
