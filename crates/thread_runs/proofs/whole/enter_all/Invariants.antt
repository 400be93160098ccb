use Rattle.std.proofs.Common.{◌≡◌, ◌≤◌, ◌+◌, length, vec_len, vec_capacity}
use Rattle.thread_runs.specs.Whole.{AllBlank}
use Rattle.thread_runs.specs.Scripts.{AllFresh}
use Rattle.thread_runs.proofs.whole.enter_all.Given as goal

abbrev pub invariant-loop-blank : goal.invariant-loop-blank
invariant-loop-blank l = AllBlank l.arena l.room l.blanks.items × AllFresh l.arena l.scripts l.callers.items × (length l.callers.items + length l.blanks.items ≡ length l.fn.blanks.items) × (length l.fn.blanks.items ≤ vec_capacity l.callers) × (vec_len l.callers ≡ length l.callers.items)

abbrev pub decreases-loop-blank : goal.decreases-loop-blank
decreases-loop-blank l = vec_len l.blanks
