use Rattle.std.proofs.Common.{◌+◌, length}
use Rattle.state_judge.proofs.Reaching.{Search, weight}
use Rattle.state_judge.proofs.reach.reached.Given as goal

abbrev pub invariant-search : goal.invariant-search
invariant-search l = Search l.memory l.from l.bad l.rest.items l.work.items

abbrev pub decreases-search : goal.decreases-search
decreases-search l = length l.work.items + weight l.memory l.rest.items
