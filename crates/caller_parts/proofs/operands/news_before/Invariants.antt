use Rattle.std.proofs.Common.{◌≡◌, ◌≤◌, length}
use Rattle.caller_parts.specs.Codes.{code_shown}
use Rattle.caller_parts.specs.Operands.{news_before}
use Rattle.caller_parts.proofs.operands.news_before.Given as goal

abbrev pub invariant-loop-place : goal.invariant-loop-place
invariant-loop-place l = record { same : l.count ≡ news_before l.kind (code_shown l.code) l.place; few : l.count ≤ l.place; within : l.count ≤ length (code_shown l.code) }
