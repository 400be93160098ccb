use Rattle.std.proofs.Common.{◌≡◌, ◌-◌, ◌++◌, replicate}
use Rattle.norm_parser.proofs.draft.add_owners.Given as goal

abbrev pub invariant-loop : goal.invariant-loop
invariant-loop l = record {
  same : l.owners ++ replicate (l.count - l.counter) l.kind ≡ l.fn.owners ++ replicate l.count l.kind;
}
