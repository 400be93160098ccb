use Rattle.std.proofs.Common.{◌≡◌, ◌≤◌, ◌+◌, ◌*◌, ◌++◌, drop}
use Rattle.c_emission.specs.Exchanges.{commit_block}
use Rattle.c_emission.proofs.exchanges.add_commit.Given as goal

abbrev pub invariant-loop-made : goal.invariant-loop-made
invariant-loop-made l = record {
  same : l.lines.items ++ commit_block l.commit.fields.now l.commit.kinds l.commit.wrap_up l.line l.made (drop l.made l.exchanges)
      ≡ l.fn.lines.items ++ commit_block l.commit.fields.now l.commit.kinds l.commit.wrap_up l.base 0 l.exchanges;
  near : l.line ≤ l.base + 62 * l.made;
}
