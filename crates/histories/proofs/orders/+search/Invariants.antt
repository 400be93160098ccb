use Rattle.std.proofs.Common.{ℕ, ◌+◌, ◌*◌, ◌<◌, length}
use Rattle.histories.specs.Search.{BeginsAt}
use Rattle.histories.proofs.orders.+search.Given as goal

abbrev pub decreases-begins_at : goal.decreases-begins_at
decreases-begins_at l = 4 * length l.left.now + 2

abbrev pub decreases-goes_on : goal.decreases-goes_on
decreases-goes_on l = 4 * length l.rest.now + 5

abbrev pub decreases-goes_on_made : goal.decreases-goes_on_made
decreases-goes_on_made l = 4 * length l.rest.now + 4

abbrev pub decreases-goes_on_missing : goal.decreases-goes_on_missing
decreases-goes_on_missing l = 4 * length l.rest.now + 4

abbrev pub decreases-has_legal_order : goal.decreases-has_legal_order
decreases-has_legal_order l = 4 * length l.left.now + 3

-- no legal order begins with a call before this place
abbrev pub invariant-has_legal_order-loop-at : goal.invariant-has_legal_order-loop-at
invariant-has_legal_order-loop-at l = (place : ℕ) → place < l.at → BeginsAt l.shared l.left place → ⊥
