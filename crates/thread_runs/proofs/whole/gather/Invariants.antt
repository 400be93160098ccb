use Rattle.std.proofs.Common.{◌≡◌, ◌+◌, length, vec_len}
use Rattle.word_runner.specs.Shown.{CameFrom}
use Rattle.thread_runs.specs.Whole.{AllEnded}
use Rattle.thread_runs.specs.Scripts.{AllFinished}
use Rattle.thread_runs.proofs.whole.gather.Given as goal

abbrev pub invariant-loop-caller : goal.invariant-loop-caller
invariant-loop-caller l = CameFrom l.arena l.rest.table l.rest.fixed × AllFinished l.arena l.scripts l.fuel l.callers.items × AllEnded l.arena.fixed l.scripts l.fuel l.rest.entries × (length l.rest.entries + length l.callers.items ≡ length l.fn.callers.items + 1)

abbrev pub decreases-loop-caller : goal.decreases-loop-caller
decreases-loop-caller l = vec_len l.callers
