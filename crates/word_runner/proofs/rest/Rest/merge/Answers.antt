use Rattle.std.proofs.Common.{◌≡◌, vec_capacity, ℕ, ap, ◌∙◌, subst, sym, arith}
use Rattle.atomic_table.specs.Table.{Me}
use Rattle.word_runner.specs.table_rule.Seen.{Fixed, SeatView}
use Rattle.word_runner.specs.table_rule.Plays.{Apart}
use Rattle.word_runner.specs.table_rule.Seats.{cores, Resting}
use Rattle.word_runner.proofs.table_rule.Merged.{rested, rested_room}
use Rattle.word_runner.specs.Shown.{RestShown}
use Rattle.word_runner.proofs.rest.Rest.merge.Goals as goal

pub pour-requires : goal.pour-requires
pour-requires c =
    let both = rested c.self.inside.place.me c.other.inside.place.me c.join.new.seat.me c.look.new.seat.me c.self.inside.list.items c.other.inside.list.items (vec_capacity c.self.inside.list) (vec_capacity c.other.inside.list) (vec_capacity c.self.inside.list) c.self.invariant c.other.invariant c.join.ensures.1 c.look.ensures.1 (omega arith) in
    let few = rested_room c.look.new.seat.me c.self.inside.place.me c.self.inside.list.items c.other.inside.list.items (vec_capacity c.self.inside.list) (vec_capacity c.self.inside.list) both
    (ap (λ (m : Me ℕ SeatView). m.0.fixed) c.look.ensures.1.same ∙ ap (λ (m : Me ℕ SeatView). m.0.fixed) c.join.ensures.1) c.self.invariant in
    few

pub invariant_of-result : goal.invariant_of-result
invariant_of-result c = subst (λ xs. Resting c.look.new.seat.me xs (vec_capacity c.pour.new.list)) (sym c.pour.ensures.items)
    (rested c.self.inside.place.me c.other.inside.place.me c.join.new.seat.me c.look.new.seat.me c.self.inside.list.items c.other.inside.list.items (vec_capacity c.self.inside.list) (vec_capacity c.other.inside.list) (vec_capacity c.pour.new.list) c.self.invariant c.other.invariant c.join.ensures.1 c.look.ensures.1 c.pour.ensures.room)

pub returns-clause-apart : goal.returns-clause-apart
returns-clause-apart c =
    let end : Me ℕ SeatView = c.look.new.seat.me in
    let resting : Resting end c.pour.new.list.items (vec_capacity c.pour.new.list) = invariant_of-result c in
    let fixed : end.0.fixed ≡ c.args.self.fixed = ap (λ (m : Me ℕ SeatView). m.0.fixed) c.look.ensures.1.same ∙ (ap (λ (m : Me ℕ SeatView). m.0.fixed) c.join.ensures.1 ∙ ap (λ (r : RestShown). r.fixed) c.self.view_is) in
    subst (λ (f : Fixed). Apart f.setting.sizes.callers (cores c.pour.new.list.items)) fixed resting.apart
