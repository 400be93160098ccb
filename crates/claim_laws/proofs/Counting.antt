-- Counts of claims, and lists that hold each slot of a range.
use Rattle.std.proofs.Common.{◌≡◌, ◌≢◌, ℕ, zero, suc, ◌+◌, ◌-◌, ◌^◌, ◌≤◌, ◌<◌, ◌==◌, ◌||◌, Bool, true, false, List, [], ◌∷◌, length, set, Some, None, refl, sym, ◌∙◌, ap, arith, if◌then◌else◌}
use Rattle.std.specs.Prelude.{slice_get, min}
use Rattle.std.proofs.lemmas.Bool.Decides.{nat_tests}
use Rattle.guard_words.specs.Guards.{has_slot}
use Rattle.caller_steps.specs.Entries.{Entry, one_more}
use Rattle.claim_laws.specs.Full.{claims_in}

-- ---- counts

pub claims_at : (entries : List Entry) (c : ℕ) (e : Entry) → slice_get entries c ≡ Some e → e.counts.claims ≤ claims_in entries
claims_at [] c e is = absurd (let z : None ≡ Some e = is in cc)
claims_at (x ∷ xs) zero e is = let same : x ≡ e = cc in let count : x.counts.claims ≡ e.counts.claims = ap (λ (y : Entry). y.counts.claims) same in omega (arith, count)
claims_at (x ∷ xs) (suc c) e is = let rest = claims_at xs c e is in omega (arith, rest)

-- one entry changes
pub claims_set : (entries : List Entry) (c : ℕ) (e later : Entry) → slice_get entries c ≡ Some e → claims_in (set entries c later) + e.counts.claims ≡ claims_in entries + later.counts.claims
claims_set [] c e later is = absurd (let z : None ≡ Some e = is in cc)
claims_set (x ∷ xs) zero e later is = let same : x ≡ e = cc in let count : x.counts.claims ≡ e.counts.claims = ap (λ (y : Entry). y.counts.claims) same in omega (arith, count)
claims_set (x ∷ xs) (suc c) e later is = let rest = claims_set xs c e later is in omega (arith, rest)

pub got_set : (entries : List Entry) (c : ℕ) (e later : Entry) → slice_get entries c ≡ Some e → slice_get (set entries c later) c ≡ Some later
got_set [] c e later is = absurd (let z : None ≡ Some e = is in cc)
got_set (x ∷ xs) zero e later is = refl
got_set (x ∷ xs) (suc c) e later is = got_set xs c e later is

-- so many claims are counted, as far as counts go
abbrev pub IsCounted : ℕ → List Entry → Type 0
IsCounted count entries = min count (2 ^ 64 - 1) ≤ claims_in entries

pub counts_same : (count : ℕ) (entries : List Entry) (c : ℕ) (e later : Entry) → slice_get entries c ≡ Some e → later.counts.claims ≡ e.counts.claims → IsCounted count entries → IsCounted count (set entries c later)
counts_same count entries c e later there same is = let change = claims_set entries c e later there in omega (arith, change, same, is)

pub counts_more : (count : ℕ) (entries : List Entry) (c : ℕ) (e later : Entry) → slice_get entries c ≡ Some e → later.counts.claims ≡ one_more e.counts.claims → IsCounted count entries
    → IsCounted (suc count) (set entries c later)
counts_more count entries c e later there same is =
    let change = claims_set entries c e later there in
    let within = claims_at (set entries c later) c later (got_set entries c e later there) in
    omega (arith, change, within, same, is)

-- ---- lists

without : ℕ → List ℕ → List ℕ
without x [] = []
without x (y ∷ ys) = if y == x then ys else y ∷ without x ys

without_shorter : (x : ℕ) (ys : List ℕ) → has_slot ys x ≡ true → length (without x ys) + 1 ≡ length ys
unfolding without
without_shorter x [] has = absurd (let z : false ≡ true = has in cc)
without_shorter x (y ∷ ys) has = of (y == x) (without_shorter x ys) has where
  of : (b : Bool) → (has_slot ys x ≡ true → length (without x ys) + 1 ≡ length ys) → (b || has_slot ys x) ≡ true → length (if b then ys else y ∷ without x ys) + 1 ≡ suc (length ys)
  of true rest has = omega arith
  of false rest has = let le = rest has in omega (arith, le)

without_keeps : (x i : ℕ) (ys : List ℕ) → i ≢ x → has_slot ys i ≡ true → has_slot (without x ys) i ≡ true
unfolding without
without_keeps x i [] other has = has
without_keeps x i (y ∷ ys) other has = of (y == x) refl (without_keeps x i ys other) where
  or : (b c d : Bool) → (b || c) ≡ true → (c ≡ true → d ≡ true) → (b || d) ≡ true
  or true c d has rest = refl
  or false c d has rest = rest has

  out : (b c : Bool) → b ≡ false → (b || c) ≡ true → c ≡ true
  out true c is has = absurd (let z : true ≡ false = is in cc)
  out false c is has = has

  of : (b : Bool) → (y == x) ≡ b → (has_slot ys i ≡ true → has_slot (without x ys) i ≡ true) → has_slot (if b then ys else y ∷ without x ys) i ≡ true
  of true is rest = let same : y ≡ x = grind (arith, nat_tests) in out (y == i) (has_slot ys i) (let ne : y ≢ i = (λ e. other (sym e ∙ same)) in grind (arith, nat_tests)) has
  of false is rest = or (y == i) (has_slot ys i) (has_slot (without x ys) i) has rest

-- a list that holds each of so many numbers after one has as many items
pub covers : (n base : ℕ) (taken : List ℕ) → ((i : ℕ) → base < i → i ≤ base + n → has_slot taken i ≡ true) → n ≤ length taken
covers zero base taken each = omega arith
covers (suc n) base taken each =
    let last : ℕ = base + suc n in
    let shorter = without_shorter last taken (each last (omega arith) (omega arith)) in
    let rest = covers n base (without last taken) (λ i low high. without_keeps last i taken (λ e. let no : i ≢ last = (λ z. omega (arith, z, high)) in no e) (each i low (omega (arith, high)))) in
    omega (arith, shorter, rest)
