use Rattle.std.proofs.Common.{◌≡◌}
use Rattle.word_runner.specs.table_rule.Drives.{Driving}
use Rattle.word_runner.proofs.arena.drive.Given as goal

abbrev pub invariant-loop-left : goal.invariant-loop-left
invariant-loop-left l = (l.seat.table_id ≡ l.fn.seat.table_id) × Driving l.fn.arena.fixed l.fn.seat.me l.fn.entry l.budget l.left l.seat.me l.entry

abbrev pub decreases-loop-left : goal.decreases-loop-left
decreases-loop-left l = l.left
