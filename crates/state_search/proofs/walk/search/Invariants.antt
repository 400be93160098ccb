use Rattle.std.proofs.Common.{◌-◌}
use Rattle.state_search.proofs.Searching.{Since}
use Rattle.state_search.proofs.walk.search.Given as goal

abbrev pub invariant-states : goal.invariant-states
invariant-states g l = Since (g.E.Explorer.seen l.fn.explorer) (g.E.Explorer.seen l.explorer) l.done

abbrev pub decreases-states : goal.decreases-states
decreases-states g l = l.limit - l.done
