-- Two rests made one.
use Rattle.std.proofs.Common.{◌≡◌, ℕ, ◌+◌, ◌≤◌, List, [], ◌∷◌, ◌++◌, length, refl, sym, ap, ◌∙◌, subst, arith, length-append}
use Rattle.atomic_table.specs.Table.{Me}
use Rattle.caller_steps.specs.Entries.{Entry, RoomyEntry}
use Rattle.word_runner.specs.table_rule.Seen.{Fixed, SeatView}
use Rattle.word_runner.specs.table_rule.Plays.{with_accesses, joined, Apart, Looked}
use Rattle.word_runner.specs.table_rule.Seats.{cores, IsFew, Resting}
use Rattle.word_runner.proofs.table_rule.Counts.{apart_few}

pub cores_append : (xs ys : List RoomyEntry) → cores (xs ++ ys) ≡ cores xs ++ cores ys
cores_append [] ys = refl
cores_append (x ∷ xs) ys = ap (λ (t : List Entry). x.core ∷ t) (cores_append xs ys)

pub length_cores : (xs : List RoomyEntry) → length (cores xs) ≡ length xs
length_cores [] = refl
length_cores (x ∷ xs) = omega (arith, length_cores xs)

-- what is known once the seats are joined and the phase word was loaded
pub rested : (me other mid end : Me ℕ SeatView) (xs ys : List RoomyEntry) (a b space : ℕ) → Resting me xs a → Resting other ys b → mid ≡ (joined me.0 other.0, me.1) → Looked mid end → a ≤ space → Resting end (xs ++ ys) space
rested me other mid end xs ys a b space mine theirs join look le =
    let is : end ≡ (with_accesses (joined me.0 other.0) 1, me.1) = look.same ∙ ap (λ (m : Me ℕ SeatView). let y : Me ℕ SeatView = (with_accesses m.0 1, m.1) in y) join in
    let fixed = ap (λ (m : Me ℕ SeatView). m.0.fixed) join in
    let entries : mid.0.entries ≡ cores (xs ++ ys) = ap (λ (m : Me ℕ SeatView). m.0.entries) join ∙ ((λ i. mine.entries i ++ theirs.entries i) ∙ sym (cores_append xs ys)) in
    record {
      bare = ap (λ (m : Me ℕ SeatView). m.1) is ∙ mine.bare;
      live = ap (λ (m : Me ℕ SeatView). m.0.live) is ∙ mine.live;
      entries = ap (λ (m : Me ℕ SeatView). m.0.entries) look.same ∙ entries;
      apart = subst (λ (m : Me ℕ SeatView). Apart m.0.fixed.setting.sizes.callers (cores (xs ++ ys))) (sym look.same) (subst (λ (es : List Entry). Apart mid.0.fixed.setting.sizes.callers es) entries look.apart);
      few = subst (λ (m : Me ℕ SeatView). IsFew m.0.fixed.setting.sizes.callers) (sym is) mine.few;
      room = let k : end.0.fixed.setting.sizes.callers ≡ me.0.fixed.setting.sizes.callers = ap (λ (m : Me ℕ SeatView). m.0.fixed.setting.sizes.callers) is in let q = mine.room in omega arith;
    }

pub rested_room : (end : Me ℕ SeatView) (me : Me ℕ SeatView) (xs ys : List RoomyEntry) (a space : ℕ) → Resting end (xs ++ ys) space → end.0.fixed ≡ me.0.fixed → Resting me xs a → length xs + length ys ≤ a
rested_room end me xs ys a space both fixed mine =
    let n = end.0.fixed.setting.sizes.callers in
    let few : length (cores (xs ++ ys)) ≤ n = apart_few n (cores (xs ++ ys)) both.apart in
    let same : n ≡ me.0.fixed.setting.sizes.callers = ap (λ (f : Fixed). f.setting.sizes.callers) fixed in
    omega (arith, mine.room, length_cores (xs ++ ys), length-append xs ys)

-- a rest has few entries
pub rest_few : (me : Me ℕ SeatView) (es : List RoomyEntry) (space : ℕ) → Resting me es space → length es ≤ 8
rest_few me es space r = let n = r.few.1 in omega (arith, apart_few me.0.fixed.setting.sizes.callers (cores es) r.apart, length_cores es, n)
