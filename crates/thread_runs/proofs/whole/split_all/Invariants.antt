use Rattle.std.proofs.Common.{◌≡◌, ◌≤◌, ◌+◌, length, vec_len, vec_capacity}
use Rattle.thread_runs.specs.Whole.{IsBlank, AllBlank}
use Rattle.thread_runs.proofs.whole.split_all.Given as goal

abbrev pub invariant-loop-left : goal.invariant-loop-left
invariant-loop-left l = AllBlank l.arena l.fn.first.room l.blanks.items × (length l.blanks.items + l.left + 1 ≡ l.count) × (l.count ≤ vec_capacity l.blanks) × IsBlank l.arena l.fn.first.room l.first × (vec_len l.blanks ≡ length l.blanks.items)

abbrev pub decreases-loop-left : goal.decreases-loop-left
decreases-loop-left l = l.left
