use Rattle.std.proofs.Common.{◌≡◌, ◌≤◌, ◌-◌, []}
use Rattle.word_runner.specs.table_rule.Plays.{with_accesses, with_found}
use Rattle.word_runner.proofs.blank.find_place.Given as goal

abbrev pub invariant-loop-found : goal.invariant-loop-found
invariant-loop-found l = (l.place.table_id ≡ l.fn.place.table_id) × (l.fn.found ≤ l.found) × (l.found ≤ l.callers) × (l.place.me ≡ (with_accesses (with_found l.fn.place.me.0 l.found) (l.found - l.fn.found), []))

abbrev pub decreases-loop-found : goal.decreases-loop-found
decreases-loop-found l = l.callers - l.found
