-- The entries in the order of their numbers are those of the machine.
use Rattle.std.proofs.Common.{◌≡◌, ◌≢◌, ◌⊎◌, ℕ, zero, suc, ◌+◌, ◌≤◌, ◌<◌, ◌==◌, eq-eqb, ne_eqb, Bool, List, [], ◌∷◌, length, drop, Some, refl, sym, ap, ◌∙◌, subst, inl, inr, ⊎_elim, arith, zero-add}
use Rattle.std.specs.Prelude.{slice_get, slice_index, slice_index_or, if◌then◌else◌}
use Rattle.std.specs.List.{sum_by}
use Rattle.std.specs.List.Sorted.{IsPermutation, IsNonDecreasingBy}
use Rattle.std.proofs.lemmas.List.Sorted.{All-permutation, sum_by-IsPermutation}
use Rattle.std.proofs.lemmas.List.Sums.{sum_by-cons}
use mathlib.Core.Option.{some, some-injective, some-ne-none}
use mathlib.Core.Logic.{dite}
use native.Mathlib.Decide.{ℕ_discrete, dec_le}
use lib.ListN.{get_elem?}
use Rattle.caller_steps.specs.Entries.{Entry, RoomyEntry}
use Rattle.word_runner.proofs.table_rule.Moves.{sound}
use Rattle.word_runner.specs.table_rule.Seen.{Fixed, SeatView}
use Rattle.word_runner.specs.table_rule.Rule.{times, AllHere}
use Rattle.word_runner.specs.table_rule.Plays.{AllBelow, Apart}
use Rattle.word_runner.specs.table_rule.Seats.{cores}
use Rattle.word_runner.specs.table_rule.Closing.{IsClosed, Shut}
use Rattle.word_runner.proofs.table_rule.Counts.{apart_full}
use Rattle.word_runner.proofs.table_rule.Merged.{length_cores}
use Rattle.word_runner.proofs.table_rule.Others.{Closes}

pub word_at : (ws : List ℕ) (x : ℕ) → get_elem? ws 0 ≡ some x → x ≡ slice_index ws 0
word_at [] x e = absurd (some-ne-none x (sym e))
word_at (w ∷ ws) x e = sym (some-injective w x e)

pub shut_is : (key f : Fixed) (v : SeatView) (words : List ℕ) (phase : ℕ) → key ≡ f → Closes key words v.entries → get_elem? words 0 ≡ some phase → Shut f v phase
shut_is key f v words phase is c at = subst (λ (g : Fixed). Shut g v phase) is (record { good = c.good; core = c.core; reachable = c.reachable; phase_is = word_at words phase at ∙ c.phase; here = c.here })

-- each number is at least the one before, and at least k
abbrev Rising : ℕ → List Entry → Type 0
Rising k [] = Unit {0}
Rising k (e ∷ es) = (k ≤ e.number) × Rising e.number es

times_cons_none : (k : ℕ) (e : Entry) (es : List Entry) → e.number ≢ k → times k (e ∷ es) ≡ times k es
times_cons_none k e es ne = ap (λ (b : Bool). (if b then 1 else 0) + times k es) (ne_eqb e.number k ne) ∙ zero-add (times k es)

times_cons_one : (k : ℕ) (e : Entry) (es : List Entry) → e.number ≡ k → times k (e ∷ es) ≡ 1 + times k es
times_cons_one k e es q = ap (λ (b : Bool). (if b then 1 else 0) + times k es) (eq-eqb e.number k q)

rising_none : (j k : ℕ) (es : List Entry) → j < k → Rising k es → times j es ≡ 0
rising_none j k [] lt h = refl
rising_none j k (e ∷ es) lt h = times_cons_none j e es (λ q. absurd (omega (arith, h.0))) ∙ rising_none j e.number es (omega (arith, h.0)) h.1

-- a rising list whose least number stands once goes on above it
rising_next : (k : ℕ) (es : List Entry) → times k es ≡ 0 → Rising k es → Rising (suc k) es
rising_next k [] z h = tt
rising_next k (e ∷ es) z h =
    let ne : e.number ≢ k = λ q. let one = times_cons_one k e es q in omega arith in
    (let a = h.0 in let lt : k < e.number = ⊎_elim (λ (t : e.number < k). absurd (omega arith)) (λ (t : k < e.number). t) (apart_lt e.number k ne) in omega arith, h.1)
  where
    apart_lt : (a b : ℕ) → a ≢ b → (a < b) ⊎ (b < a)
    apart_lt a b n = dite (dec_le b a) (λ (le : b ≤ a). inr (omega arith)) (λ no. inl (omega arith))

drop_at : (all : List Entry) (k : ℕ) (e : Entry) → slice_get all k ≡ Some e → drop k all ≡ e ∷ drop (suc k) all
drop_at [] k e h = absurd (cc)
drop_at (x ∷ xs) zero e h = let q : x ≡ e = cc in ap (λ (y : Entry). y ∷ xs) q
drop_at (x ∷ xs) (suc k) e h = drop_at xs k e h

drop_past : (all : List Entry) (k : ℕ) → length all ≤ k → drop k all ≡ []
drop_past [] zero h = refl
drop_past [] (suc k) h = refl
drop_past (x ∷ xs) zero h = absurd (omega arith)
drop_past (x ∷ xs) (suc k) h = drop_past xs k (omega arith)

zero_one : (n : ℕ) → n ≡ 1 → n ≡ 0 → ⊥
zero_one n one none = omega arith

-- from k on, a rising list with every number below n once is what the machine has there
in_order : (all es : List Entry) (n k : ℕ) → length all ≡ n → AllHere all es → AllBelow n es → Rising k es → ((i : ℕ) → k ≤ i → i < n → times i es ≡ 1) → es ≡ drop k all
in_order all [] n k len here below up one = sym (drop_past all k (past (dec_le n k)))
  where
    past : Dec (n ≤ k) → length all ≤ k
    past (yes d) = omega arith
    past (no d) = absurd (zero_one (times k []) (one k (omega arith) (omega arith)) refl)
in_order all (e ∷ es) n k len here below up one =
    let first : e.number ≡ k = dite (ℕ_discrete e.number k) (λ q. q) (λ ne. let b = below.0 in let u = up.0 in let z = one k (omega arith) (omega arith) in let a = times_cons_none k e es ne in let r = rising_none k e.number es (omega arith) up.1 in absurd (omega arith)) in
    let b = below.0 in
    let none' : times k es ≡ 0 = let z = one k (omega arith) (omega arith) in let a = times_cons_one k e es first in omega arith in
    let up' : Rising (suc k) es = rising_next k es none' (subst (λ (j : ℕ). Rising j es) first up.1) in
    let rest = in_order all es n (suc k) len here.1 below.1 up' (λ i le lt. sym (times_cons_none i e es (λ q. absurd (omega arith))) ∙ one i (omega arith) lt) in
    let at : slice_get all k ≡ Some e = subst (λ (j : ℕ). slice_get all j ≡ Some e) first here.0 in
    ap (λ (t : List Entry). e ∷ t) rest ∙ sym (drop_at all k e at)

-- from std's words on lists to those of the rule
rising_from : (ys : List RoomyEntry) (k : ℕ) → ((d : RoomyEntry) → 0 < length ys → k ≤ (slice_index_or ys 0 d).core.number) → IsNonDecreasingBy (λ (r : RoomyEntry). r.core.number) ys → Rising k (cores ys)
rising_from [] k first up = tt
rising_from (y ∷ ys) k first up = (first y (omega arith), rising_from ys y.core.number (λ d some'. up 0 1 d (omega arith) (omega arith)) (λ i j d le lt. up (suc i) (suc j) d (omega arith) (omega arith)))

times_sum : (i : ℕ) (ys : List RoomyEntry) → times i (cores ys) ≡ sum_by (λ (r : RoomyEntry). if r.core.number == i then 1 else 0) ys
times_sum i [] = refl
times_sum i (y ∷ ys) = ap (λ (k : ℕ). (if y.core.number == i then 1 else 0) + k) (times_sum i ys) ∙ sym (sum_by-cons (λ (r : RoomyEntry). if r.core.number == i then 1 else 0) y ys)

to_all : (all : List Entry) (n : ℕ) (ys : List RoomyEntry) → AllHere all (cores ys) → AllBelow n (cores ys) → (k : ℕ) (d : RoomyEntry) → k < length ys → (slice_get all (slice_index_or ys k d).core.number ≡ Some (slice_index_or ys k d).core) × ((slice_index_or ys k d).core.number < n)
to_all all n [] h b k d lt = absurd (omega arith)
to_all all n (y ∷ ys) h b zero d lt = (h.0, b.0)
to_all all n (y ∷ ys) h b (suc k) d lt = to_all all n ys h.1 b.1 k d (omega arith)

from_all : (all : List Entry) (n : ℕ) (ys : List RoomyEntry) → ((k : ℕ) (d : RoomyEntry) → k < length ys → (slice_get all (slice_index_or ys k d).core.number ≡ Some (slice_index_or ys k d).core) × ((slice_index_or ys k d).core.number < n)) → AllHere all (cores ys) × AllBelow n (cores ys)
from_all all n [] h = (tt, tt)
from_all all n (y ∷ ys) h = let here = h 0 y (omega arith) in let rest = from_all all n ys (λ k d lt. h (suc k) d (omega arith)) in ((here.0, rest.0), (here.1, rest.1))

pub closed : (f : Fixed) (v : SeatView) (phase : ℕ) (xs ys : List RoomyEntry) → Shut f v phase → v.entries ≡ cores xs → Apart f.setting.sizes.callers (cores xs) → length xs ≡ f.setting.sizes.callers → IsPermutation xs ys → IsNonDecreasingBy (λ (r : RoomyEntry). r.core.number) ys → IsClosed f xs phase ys
closed f v phase xs ys shut is apart len perm up =
    let all = shut.core.entries in
    let n = f.setting.sizes.callers in
    let good = sound f shut.core shut.good shut.reachable in
    let here : AllHere all (cores xs) = subst (AllHere all) is shut.here in
    let moved = from_all all n ys (All-permutation (λ (r : RoomyEntry). (slice_get all r.core.number ≡ Some r.core) × (r.core.number < n)) xs ys perm (to_all all n xs here apart.below)) in
    let one : (i : ℕ) → i < n → times i (cores ys) ≡ 1 = λ i lt. times_sum i ys ∙ (sum_by-IsPermutation (λ (r : RoomyEntry). if r.core.number == i then 1 else 0) xs ys perm ∙ (sym (times_sum i xs) ∙ apart_full n (cores xs) apart (length_cores xs ∙ len) i lt)) in
    record {
      good = shut.good;
      core = shut.core;
      reachable = shut.reachable;
      phase_is = shut.phase_is;
      entries_are = in_order all (cores ys) n 0 good.callers moved.0 moved.1 (rising_from ys 0 (λ d some'. omega arith) up) (λ i le lt. one i lt);
      kept = perm;
    }
