use Rattle.std.proofs.Common.{rules, arith, ◌≡◌, ◌<◌, ◌≤◌, true, false, length, refl}
use Rattle.std.proofs.lemmas.Grind.{common_steps}
use Rattle.histories.proofs.Beginnings.{begins_one, none_begins, none_more, some_left}
use Rattle.histories.proofs.orders.+search.Goals as goal

pub has_legal_order-returns-then-branch : goal.has_legal_order-returns-then-branch
has_legal_order-returns-then-branch t c =
    let yes : c.in_ok-begins_at.field-0 ≡ true = search rules in
    let lt : c.loop-at.at < length c.args.left.now = omega arith in
    (λ _. begins_one c.args.shared.now c.args.left.now c.loop-at.at lt (c.in_ok-begins_at.ensures.0 yes), λ _. refl)

pub has_legal_order-loop-at-preserved : goal.has_legal_order-loop-at-preserved
has_legal_order-loop-at-preserved t c =
    let missed : c.in_ok-begins_at.field-0 ≡ false = search rules in
    none_more c.args.shared.now c.args.left.now c.loop-at.at c.in_ok-begins_at.field-0 c.loop-at.invariant missed c.in_ok-begins_at.ensures

pub has_legal_order-returns : goal.has_legal_order-returns
has_legal_order-returns t c =
    let not_empty : c.is_empty.result ≡ false = search rules in
    let some : 0 < length c.args.left.now = some_left (length c.args.left.now) c.is_empty.result c.is_empty.ensures not_empty in
    let all : length c.args.left.now ≤ c.loop-at.at = omega arith in
    (λ yes. grind arith, λ order. absurd (none_begins c.args.shared.now c.args.left.now c.loop-at.at some all c.loop-at.invariant order))

pub has_legal_order-loop-at-init : goal.has_legal_order-loop-at-init
has_legal_order-loop-at-init t c = search rules

pub begins_at-returns : goal.begins_at-returns
begins_at-returns t c = grind (arith, common_steps)
