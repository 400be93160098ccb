use Rattle.std.proofs.Common.{◌≡◌, ◌≤◌}
use Rattle.caller_parts.specs.Operands.{news_before}
use Rattle.c_emission.proofs.methods.news_before.Given as goal

abbrev pub invariant-loop-place : goal.invariant-loop-place
invariant-loop-place l = record { same : l.count ≡ news_before l.kind l.code l.place; few : l.count ≤ l.place }
