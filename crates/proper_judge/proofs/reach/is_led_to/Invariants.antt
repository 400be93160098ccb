use Rattle.std.proofs.Common.{◌≤◌, length}
use Rattle.proper_judge.proofs.reach.is_led_to.Given as goal

abbrev pub invariant-back : goal.invariant-back
invariant-back l = l.left ≤ length l.names

abbrev pub decreases-back : goal.decreases-back
decreases-back l = l.left
