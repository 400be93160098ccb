use Rattle.std.proofs.Common.{◌≡◌, ◌≤◌, ◌+◌, ◌*◌, drop}
use Rattle.c_emission.specs.Exchanges.{commit_size}
use Rattle.c_emission.proofs.sizes.commit_size.Given as goal

-- an empty list has two lines
abbrev pub invariant-loop-exchange : goal.invariant-loop-exchange
invariant-loop-exchange l = record {
  same : l.size + commit_size l.kinds (drop l.exchange-index l.exchanges) ≡ 2 + commit_size l.kinds l.exchanges;
  few : l.size ≤ 2 + 62 * l.exchange-index;
}
