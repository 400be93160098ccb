-- What holds of guards and of gathered slots.
use Rattle.std.proofs.Common.{◌≡◌, ◌≢◌, ℕ, zero, suc, ◌+◌, ◌≤◌, ◌<◌, Bool, true, false, ◌&&◌, ◌||◌, not, ◌==◌, List, [], ◌∷◌, length, Some, None, refl, sym, ◌∙◌, ap, arith, ⊎_elim, if◌then◌else◌}
use Rattle.std.specs.Prelude.{slice_get, slice_set, unwrap_or}
use Rattle.std.proofs.lemmas.Bool.{cases_eq, cases_lt}
use Rattle.std.proofs.lemmas.Bool.Decides.{nat_tests}
use Rattle.std.proofs.lemmas.List.{length-set}
use Rattle.std.proofs.lemmas.List.Folds.{list_any-append}
use Rattle.guard_words.specs.Guards.{Guards, no_guards, guard_at, is_validated, with_guard, passed, pass_check, least_from, is_spared, is_to_clear, next_to_clear, with_slot, has_slot, IsRow}
use Rattle.guard_words.specs.Laws.{GuardsFollow, GatheredFollow}

-- ---- a list with one place set

set_here : {X : Type 0} (xs : List X) (r : ℕ) (x d : X) → r < length xs → unwrap_or (slice_get (slice_set xs r x) r) d ≡ x
set_here [] r x d lt = absurd (omega (arith, lt))
set_here (y ∷ ys) zero x d lt = refl
set_here (y ∷ ys) (suc r) x d lt = set_here ys r x d (omega (arith, lt))

set_other : {X : Type 0} (xs : List X) (r k : ℕ) (x d : X) → k ≢ r → unwrap_or (slice_get (slice_set xs r x) k) d ≡ unwrap_or (slice_get xs k) d
set_other [] r k x d ne = refl
set_other (y ∷ ys) zero zero x d ne = absurd (ne refl)
set_other (y ∷ ys) zero (suc k) x d ne = refl
set_other (y ∷ ys) (suc r) zero x d ne = refl
set_other (y ∷ ys) (suc r) (suc k) x d ne = set_other ys r k x d (λ e. ne (ap suc e))

-- a place that is set to what stands past the end says so, wherever it is
set_default : {X : Type 0} (xs : List X) (r : ℕ) (d : X) → unwrap_or (slice_get (slice_set xs r d) r) d ≡ d
set_default [] r d = refl
set_default (y ∷ ys) zero d = refl
set_default (y ∷ ys) (suc r) d = set_default ys r d

-- ---- a row

row_first : IsRow no_guards
row_first = record { slots = refl; flags = refl }

row_put : (guards : Guards) (r slot : ℕ) → IsRow guards → IsRow (with_guard guards r slot)
row_put guards r slot row = record { slots = length-set guards.slots r slot ∙ row.slots; flags = length-set guards.validated r false ∙ row.flags }

passed_length : (slots : List ℕ) (flags : List Bool) → length slots ≡ length flags → length (passed slots flags) ≡ length flags
passed_length [] flags same = refl
passed_length (slot ∷ slots) [] same = refl
passed_length (slot ∷ slots) (flag ∷ flags) same = ap suc (passed_length slots flags (omega (arith, same)))

row_passed : (guards : Guards) → IsRow guards → IsRow (pass_check guards)
row_passed guards row = let a = row.slots in let b = row.flags in record { slots = row.slots; flags = passed_length guards.slots guards.validated (omega (arith, a, b)) ∙ row.flags }

first_slot : (r : ℕ) → guard_at no_guards r ≡ 0
first_slot zero = refl
first_slot (suc zero) = refl
first_slot (suc (suc zero)) = refl
first_slot (suc (suc (suc zero))) = refl
first_slot (suc (suc (suc (suc zero)))) = refl
first_slot (suc (suc (suc (suc (suc zero))))) = refl
first_slot (suc (suc (suc (suc (suc (suc zero)))))) = refl
first_slot (suc (suc (suc (suc (suc (suc (suc zero))))))) = refl
first_slot (suc (suc (suc (suc (suc (suc (suc (suc r)))))))) = refl

first_flag : (r : ℕ) → is_validated no_guards r ≡ false
first_flag zero = refl
first_flag (suc zero) = refl
first_flag (suc (suc zero)) = refl
first_flag (suc (suc (suc zero))) = refl
first_flag (suc (suc (suc (suc zero)))) = refl
first_flag (suc (suc (suc (suc (suc zero))))) = refl
first_flag (suc (suc (suc (suc (suc (suc zero)))))) = refl
first_flag (suc (suc (suc (suc (suc (suc (suc zero))))))) = refl
first_flag (suc (suc (suc (suc (suc (suc (suc (suc r)))))))) = refl

put_slot : (guards : Guards) (r slot : ℕ) → IsRow guards → r < 8 → guard_at (with_guard guards r slot) r ≡ slot
put_slot guards r slot row lt = let a = row.slots in set_here guards.slots r slot 0 (omega (arith, a, lt))

put_flag : (guards : Guards) (r slot : ℕ) → is_validated (with_guard guards r slot) r ≡ false
put_flag guards r slot = set_default guards.validated r false

other_slot : (guards : Guards) (r slot k : ℕ) → k ≢ r → guard_at (with_guard guards r slot) k ≡ guard_at guards k
other_slot guards r slot k ne = set_other guards.slots r k slot 0 ne

other_flag : (guards : Guards) (r slot k : ℕ) → k ≢ r → is_validated (with_guard guards r slot) k ≡ is_validated guards k
other_flag guards r slot k ne = set_other guards.validated r k false false ne

-- ---- a passed check

one_flag : (b flag : Bool) → (if b then flag else true) ≡ (flag || not b)
one_flag true true = refl
one_flag true false = refl
one_flag false true = refl
one_flag false false = refl

passed_at_each : (slots : List ℕ) (flags : List Bool) (r : ℕ) → length slots ≡ length flags
    → unwrap_or (slice_get (passed slots flags) r) false ≡ (unwrap_or (slice_get flags r) false || not (unwrap_or (slice_get slots r) 0 == 0))
passed_at_each [] [] r same = refl
passed_at_each [] (flag ∷ flags) r same = absurd (omega (arith, same))
passed_at_each (slot ∷ slots) [] r same = absurd (omega (arith, same))
passed_at_each (slot ∷ slots) (flag ∷ flags) zero same = one_flag (slot == 0) flag
passed_at_each (slot ∷ slots) (flag ∷ flags) (suc r) same = passed_at_each slots flags r (omega (arith, same))

passed_flag : (guards : Guards) (r : ℕ) → IsRow guards → is_validated (pass_check guards) r ≡ (is_validated guards r || not (guard_at guards r == 0))
passed_flag guards r row = let a = row.slots in let b = row.flags in passed_at_each guards.slots guards.validated r (omega (arith, a, b))

-- ---- clearing

without : (a b : Bool) → (a && b) ≡ ((a && b) && true)
without true true = refl
without true false = refl
without false b = refl

never : (a : Bool) → false ≡ (a && false)
never true = refl
never false = refl

cleared : (guards : Guards) (spared : List Bool) (r k : ℕ) → IsRow guards → is_to_clear (with_guard guards r 0).slots spared k ≡ (is_to_clear guards.slots spared k && not (k == r))
cleared guards spared r k row = ⊎_elim here other (cases_eq k r) where
  here : k ≡ r → is_to_clear (with_guard guards r 0).slots spared k ≡ (is_to_clear guards.slots spared k && not (k == r))
  here e =
      let zero_now : unwrap_or (slice_get (slice_set guards.slots r 0) k) 0 ≡ 0 = ap (λ (i : ℕ). unwrap_or (slice_get (slice_set guards.slots r 0) i) 0) e ∙ set_default guards.slots r 0 in
      let same : (k == r) ≡ true = grind (arith, nat_tests) in
      ap (λ (n : ℕ). not (n == 0) && not (is_spared spared k)) zero_now ∙ never (is_to_clear guards.slots spared k) ∙ sym (ap (λ (b : Bool). is_to_clear guards.slots spared k && not b) same)

  other : k ≢ r → is_to_clear (with_guard guards r 0).slots spared k ≡ (is_to_clear guards.slots spared k && not (k == r))
  other ne =
      let differs : (k == r) ≡ false = grind (arith, nat_tests) in
      ap (λ (n : ℕ). not (n == 0) && not (is_spared spared k)) (set_other guards.slots r k 0 0 ne)
      ∙ without (not (guard_at guards k == 0)) (not (is_spared spared k)) ∙ sym (ap (λ (b : Bool). is_to_clear guards.slots spared k && not b) differs)

least_none : (test : ℕ → Bool) (r n : ℕ) → least_from test r n ≡ None → (k : ℕ) → r ≤ k → k < r + n → test k ≡ false
least_none test r zero is k le lt = absurd (omega (arith, le, lt))
least_none test r (suc n) is k le lt = of (test r) refl is (λ e. least_none test (r + 1) n e) where
  of : (b : Bool) → test r ≡ b → (if b then Some r else least_from test (r + 1) n) ≡ None → (least_from test (r + 1) n ≡ None → (k : ℕ) → r + 1 ≤ k → k < r + 1 + n → test k ≡ false) → test k ≡ false
  of true here e more = absurd (let z : Some r ≡ None = e in cc)
  of false here e more = ⊎_elim (λ (same : k ≡ r). ap test same ∙ here) (λ (ne : k ≢ r). more e k (omega (arith, le, ne)) (omega (arith, lt))) (cases_eq k r)

-- the number found meets the test, is below the end, and none before it meets the test
pub record IsLeast (test : ℕ → Bool) (r n k : ℕ) : Type 0 where
  pub holds : test k ≡ true
  pub below : k < r + n
  pub before : (i : ℕ) → r ≤ i → i < k → test i ≡ false

least_some : (test : ℕ → Bool) (r n k : ℕ) → least_from test r n ≡ Some k → IsLeast test r n k
least_some test r zero k is = absurd (let z : None ≡ Some k = is in cc)
least_some test r (suc n) k is = of (test r) refl is (λ e. least_some test (r + 1) n k e) where
  of : (b : Bool) → test r ≡ b → (if b then Some r else least_from test (r + 1) n) ≡ Some k → (least_from test (r + 1) n ≡ Some k → IsLeast test (r + 1) n k) → IsLeast test r (suc n) k
  of true here e more =
      let same : r ≡ k = (let z : Some r ≡ Some k = e in cc) in
      record { holds = ap test (sym same) ∙ here; below = omega (arith, same); before = λ i le lt. absurd (omega (arith, same, le, lt)) }
  of false here e more =
      let p = more e in let lt = p.below in
      record { holds = p.holds; below = omega (arith, lt); before = λ i le lt. ⊎_elim (λ (same : i ≡ r). ap test same ∙ here) (λ (ne : i ≢ r). p.before i (omega (arith, le, ne)) lt) (cases_eq i r) }

next_some : (guards : Guards) (spared : List Bool) (r : ℕ) → IsRow guards → next_to_clear guards spared ≡ Some r
    → (r < 8) × (is_to_clear guards.slots spared r ≡ true) × ((k : ℕ) → k < r → is_to_clear guards.slots spared k ≡ false)
next_some guards spared r row is =
    let found = least_some (is_to_clear guards.slots spared) 0 (length guards.slots) r is in
    let below = found.below in let eight = row.slots in
    (omega (arith, below, eight), found.holds, λ k lt. found.before k (omega arith) lt)

past_end : (xs : List ℕ) (r : ℕ) → length xs ≤ r → unwrap_or (slice_get xs r) 0 ≡ 0
past_end [] r le = refl
past_end (x ∷ xs) zero le = absurd (omega (arith, le))
past_end (x ∷ xs) (suc r) le = past_end xs r (omega (arith, le))

next_none : (guards : Guards) (spared : List Bool) → next_to_clear guards spared ≡ None → (k : ℕ) → is_to_clear guards.slots spared k ≡ false
next_none guards spared is k = ⊎_elim
    (λ (lt : k < length guards.slots). least_none (is_to_clear guards.slots spared) 0 (length guards.slots) is k (omega arith) (omega (arith, lt)))
    (λ (ge : length guards.slots ≤ k). ap (λ (n : ℕ). not (n == 0) && not (is_spared spared k)) (past_end guards.slots k ge))
    (cases_lt k (length guards.slots))

pub guards_follow : GuardsFollow
guards_follow = record {
  row_first = row_first;
  row_put = row_put;
  row_passed = row_passed;
  first_slot = first_slot;
  first_flag = first_flag;
  put_slot = put_slot;
  put_flag = put_flag;
  other_slot = other_slot;
  other_flag = other_flag;
  passed_slot = λ guards r. refl;
  passed_flag = passed_flag;
  cleared = cleared;
  next_some = next_some;
  next_none = next_none;
}

-- ---- gathered slots

or_none : (a : Bool) → a ≡ (a || false)
or_none true = refl
or_none false = refl

or_last : (a b : Bool) → (a || (b || false)) ≡ (a || b)
or_last a true = refl
or_last true false = refl
or_last false false = refl

added : (slots : List ℕ) (slot j : ℕ) → has_slot (with_slot slots slot) j ≡ (has_slot slots j || (not (slot == 0) && (slot == j)))
added slots zero j = or_none (has_slot slots j)
added slots (suc k) j =
    let some : (suc k == 0) ≡ false = grind (arith, nat_tests) in
    list_any-append (λ slot. slot == j) slots (suc k ∷ []) ∙ or_last (has_slot slots j) (suc k == j)
    ∙ sym (ap (λ (b : Bool). has_slot slots j || (not b && (suc k == j))) some)

pub gathered_follow : GatheredFollow
gathered_follow = record { none = λ j. refl; added = added }
