-- Numbers of names, and the numbers of retirements.
use Rattle.std.proofs.Common.{ℕ, zero, suc, ◌-◌, ◌<◌, ◌≤◌, ◌≡◌, ◌≢◌, ◌==◌, ◌||◌, ◌&&◌, ◌∙◌, ◌++◌, not, Bool, true, false, cond, List, [], ◌∷◌, length, take, set, replicate, Some, sym, ap, refl, subst, ⊎_elim, arith}
use Rattle.std.specs.Prelude.{unwrap_or, nat_lt, slice_index}
use Rattle.std.specs.Ordering.{nat_cmp, is_eq}
use Rattle.std.specs.BTreeMap.{BTreeMap, get}
use Rattle.std.specs.Cmp.{unsigned_tied}
use Rattle.std.proofs.lemmas.Bool.{cases_lt}
use Rattle.std.proofs.lemmas.Bool.Decides.{nat_tests, eqb_tells}
use Rattle.std.proofs.lemmas.List.{get_or-set_same, get_or-set_other, take_all}
use Rattle.source_machine.specs.Proper.{has, IsOnce}
use Rattle.source_machine.proofs.Names.{has_new, once_push, untrue}
use Rattle.proper_judge.specs.declared.numbers.TheConstants.{NEAR}
use Rattle.proper_judge.specs.Marks.{marked}
use Rattle.proper_judge.specs.Numbers.{number_near, number_at, numbered, IsSetNear, later, retirement, AreRetirements, is_among, is_second, with_retirement}

-- ---- numbers at their places

zero_past : (n o : ℕ) → slice_index (replicate n 0) o ≡ zero
zero_past zero o = refl
zero_past (suc n) zero = refl
zero_past (suc n) (suc o) = zero_past n o

filled : (xs : List ℕ) (n o : ℕ) → slice_index (xs ++ replicate n 0) o ≡ slice_index xs o
filled [] n o = zero_past n o
filled (x ∷ xs) n zero = refl
filled (x ∷ xs) n (suc o) = filled xs n o

pub set_near : (old filled_up : List ℕ) (place number : ℕ) → ((o : ℕ) → slice_index filled_up o ≡ slice_index old o) → place < length filled_up → IsSetNear old place number (set filled_up place number)
set_near old up place number same lt other = ⊎_elim
    (λ (t : ((place == other) ≡ true) × (place ≡ other)). rw t.0 (subst (λ o. slice_index (set up place number) o ≡ number) t.1 (get_or-set_same up place number 0 lt)))
    (λ (t : ((place == other) ≡ false) × (place ≢ other)). rw t.0 (get_or-set_other up place other number 0 (λ e. t.1 (sym e)) ∙ same other))
    (eqb_tells place other)

pub filled_same : (old : List ℕ) (n o : ℕ) → length old ≤ n → slice_index (take n old ++ replicate (n - length old) 0) o ≡ slice_index old o
filled_same old n o le = ap (λ xs. slice_index (xs ++ replicate (n - length old) 0) o) (take_all n old le) ∙ filled old (n - length old) o

pub near_set : (near near' : List ℕ) (far : BTreeMap ℕ ℕ) (name number : ℕ) → nat_lt name NEAR ≡ true → IsSetNear near name number near'
    → (other : ℕ) → number_at near' far other ≡ numbered (number_at near far) name number other
near_set near near' far name number low is other = ⊎_elim
    (λ (t : ((name == other) ≡ true) × (name ≡ other)).
    let here : nat_lt other NEAR ≡ true = subst (λ o. nat_lt o NEAR ≡ true) t.1 low in
    rw (t.0, here) (is other ∙ ap (λ b. cond b number (number_near near other)) t.0))
    (λ (t : ((name == other) ≡ false) × (name ≢ other)).
    rw t.0 (ap (λ n. cond (nat_lt other NEAR) n (unwrap_or (get nat_cmp far other) 0)) (is other ∙ ap (λ b. cond b number (number_near near other)) t.0)))
    (eqb_tells name other)

pub far_set : (near : List ℕ) (far far' : BTreeMap ℕ ℕ) (name number : ℕ) → nat_lt name NEAR ≡ false
    → ((other : ℕ) → get nat_cmp far' other ≡ cond (is_eq (nat_cmp name other)) (Some number) (get nat_cmp far other))
    → (other : ℕ) → number_at near far' other ≡ numbered (number_at near far) name number other
far_set near far far' name number high updates other = ⊎_elim
    (λ (t : ((name == other) ≡ true) × (name ≡ other)).
    let here : nat_lt other NEAR ≡ false = subst (λ o. nat_lt o NEAR ≡ false) t.1 high in
    rw (t.0, here) (ap (λ o. unwrap_or o 0) (at ∙ ap (λ b. cond b (Some number) (get nat_cmp far other)) t.0)))
    (λ (t : ((name == other) ≡ false) × (name ≢ other)).
    rw t.0 (ap (λ o. cond (nat_lt other NEAR) (number_near near other) (unwrap_or o 0)) (at ∙ ap (λ b. cond b (Some number) (get nat_cmp far other)) t.0)))
    (eqb_tells name other)
  where
    at : get nat_cmp far' other ≡ cond (name == other) (Some number) (get nat_cmp far other)
    at = updates other ∙ ap (λ b. cond b (Some number) (get nat_cmp far other)) (unsigned_tied name other)

-- ---- marks

pub same_mark : (numbers : ℕ → ℕ) (round name other : ℕ) → (numbered numbers name round other == round) ≡ marked (λ n. numbers n == round) name other
same_mark numbers round name other = of (name == other) where
  self : (round == round) ≡ true
  self = grind (arith, nat_tests)

  of : (b : Bool) → (cond b round (numbers other) == round) ≡ b || (numbers other == round)
  of true = self
  of false = refl

pub kept_below : (numbers : ℕ → ℕ) (round name : ℕ) → ((n : ℕ) → numbers n ≤ round) → (other : ℕ) → numbered numbers name round other ≤ round
kept_below numbers round name below other = of (name == other) where
  of : (b : Bool) → cond b round (numbers other) ≤ round
  of true = omega arith
  of false = below other

-- ---- retirements

not_zero : (r : ℕ) → (suc r == 0) ≡ false
not_zero r = grind (arith, nat_tests)

under_suc : (k r : ℕ) → nat_lt (suc k) (suc r) ≡ nat_lt k r
under_suc k r = ⊎_elim
    (λ (lt : k < r).
    let a : nat_lt (suc k) (suc r) ≡ true = grind (arith, nat_tests, lt) in
    let b : nat_lt k r ≡ true = grind (arith, nat_tests, lt) in a ∙ sym b)
    (λ (ge : r ≤ k).
    let a : nat_lt (suc k) (suc r) ≡ false = grind (arith, nat_tests, ge) in
    let b : nat_lt k r ≡ false = grind (arith, nat_tests, ge) in a ∙ sym b)
    (cases_lt k r)

among_at : (r k : ℕ) → not (later r == 0) && not (nat_lt (suc k) (later r)) ≡ not (r == 0) && not (nat_lt k r)
among_at zero k = refl
among_at (suc r) k = rw (not_zero (suc r), not_zero r) (ap not (under_suc k (suc r)))

among_none : (r : ℕ) → not (r == 0) && not (nat_lt 0 r) ≡ false
among_none zero = refl
among_none (suc r) = let a : nat_lt 0 (suc r) ≡ true = grind (arith, nat_tests) in rw (not_zero r, a) refl

among_first : (k : ℕ) → not (nat_lt (suc k) 1) ≡ true
among_first k = let a : nat_lt (suc k) 1 ≡ false = grind (arith, nat_tests) in rw a refl

among_cons : (k r : ℕ) (b c : Bool) → not (r == 0) && not (nat_lt k r) ≡ c → not (cond b 1 (later r) == 0) && not (nat_lt (suc k) (cond b 1 (later r))) ≡ b || c
among_cons k r true c e = among_first k
among_cons k r false c e = among_at r k ∙ e

pub among_taken : (ns : List ℕ) (k name : ℕ) → is_among (retirement ns) k name ≡ has name (take k ns)
among_taken [] zero name = refl
among_taken [] (suc k) name = refl
among_taken (n ∷ ns) zero name = among_none (retirement (n ∷ ns) name)
among_taken (n ∷ ns) (suc k) name = among_cons k (retirement ns name) (n == name) (has name (take k ns)) (among_taken ns k name)

-- a name that is numbered so is among the first of the retirements exactly if it stands there
pub among_is : (numbers : ℕ → ℕ) (ns : List ℕ) → AreRetirements numbers ns → (k name : ℕ) → is_among numbers k name ≡ has name (take k ns)
among_is numbers ns are k name = ap (λ r. not (r == 0) && not (nat_lt k r)) (are name) ∙ among_taken ns k name

pub all_among : (numbers : ℕ → ℕ) (ns : List ℕ) → AreRetirements numbers ns → (name : ℕ) → is_among numbers (length ns) name ≡ has name ns
all_among numbers ns are name = among_is numbers ns are (length ns) name ∙ ap (has name) (take_all (length ns) ns (omega arith))

pushed_later : (r l : ℕ) (b : Bool) → later (cond ((r == 0) && b) (suc l) r) ≡ cond ((later r == 0) && b) (suc (suc l)) (later r)
pushed_later zero l true = refl
pushed_later zero l false = refl
pushed_later (suc r) l b = rw (not_zero r, not_zero (suc r)) refl

pushed_cons : (r r' l : ℕ) (a b : Bool) → r' ≡ cond ((r == 0) && b) (suc l) r → cond a 1 (later r') ≡ cond ((cond a 1 (later r) == 0) && b) (suc (suc l)) (cond a 1 (later r))
pushed_cons r r' l true b e = refl
pushed_cons r r' l false b e = ap later e ∙ pushed_later r l b

pushed : (ns : List ℕ) (m name : ℕ) → retirement (ns ++ m ∷ []) name ≡ cond ((retirement ns name == 0) && (m == name)) (suc (length ns)) (retirement ns name)
pushed [] m name = of (m == name) where
  of : (b : Bool) → cond b 1 (later 0) ≡ cond b 1 0
  of true = refl
  of false = refl
pushed (n ∷ ns) m name = pushed_cons (retirement ns name) (retirement (ns ++ m ∷ []) name) (length ns) (n == name) (m == name) (pushed ns m name)

-- the list after a retirement; null is none
abbrev pub after_retirement : ℕ → List ℕ → List ℕ
after_retirement zero ns = ns
after_retirement (suc m) ns = ns ++ suc m ∷ []

length_one : (xs : List ℕ) (x : ℕ) → length (xs ++ x ∷ []) ≡ suc (length xs)
length_one [] x = refl
length_one (y ∷ ys) x = ap suc (length_one ys x)

first_here : (b : Bool) (l r : ℕ) → cond b l r ≡ cond (b && true) l r
first_here true l r = refl
first_here false l r = refl

first_there : (a b : Bool) (l r r' : ℕ) → r ≡ r' → cond a r r ≡ cond (b && false) l r'
first_there true true l r r' e = e
first_there true false l r r' e = e
first_there false true l r r' e = e
first_there false false l r r' e = e

pub retirements_go : (numbers numbers' : ℕ → ℕ) (ns : List ℕ) (m : ℕ) → AreRetirements numbers ns → ((n : ℕ) → numbers' n ≡ with_retirement numbers m (length (after_retirement m ns)) n)
    → AreRetirements numbers' (after_retirement m ns)
retirements_go numbers numbers' ns zero are goes name = goes name ∙ are name
retirements_go numbers numbers' ns (suc m) are goes name =
    goes name
    ∙ (ap (λ l. with_retirement numbers (suc m) l name) (length_one ns (suc m))
    ∙ (ap (λ z. cond (not z && (numbers (suc m) == 0)) (numbered numbers (suc m) (suc (length ns)) name) (numbers name)) (not_zero m)
    ∙ (⊎_elim
    (λ (t : ((suc m == name) ≡ true) × (suc m ≡ name)).
    ap (λ b. cond (numbers (suc m) == 0) (cond b (suc (length ns)) (numbers name)) (numbers name)) t.0
    ∙ (ap (λ r. cond (r == 0) (suc (length ns)) (numbers name)) (ap numbers t.1 ∙ are name)
    ∙ (ap (cond (retirement ns name == 0) (suc (length ns))) (are name)
    ∙ (first_here (retirement ns name == 0) (suc (length ns)) (retirement ns name)
    ∙ ap (λ b. cond ((retirement ns name == 0) && b) (suc (length ns)) (retirement ns name)) (sym t.0)))))
    (λ (t : ((suc m == name) ≡ false) × (suc m ≢ name)).
    ap (λ b. cond (numbers (suc m) == 0) (cond b (suc (length ns)) (numbers name)) (numbers name)) t.0
    ∙ (first_there (numbers (suc m) == 0) (retirement ns name == 0) (suc (length ns)) (numbers name) (retirement ns name) (are name)
    ∙ ap (λ b. cond ((retirement ns name == 0) && b) (suc (length ns)) (retirement ns name)) (sym t.0)))
    (eqb_tells (suc m) name)
    ∙ sym (pushed ns (suc m) name))))

has_later : (r : ℕ) (a b : Bool) → not (r == 0) ≡ b → not (cond a 1 (later r) == 0) ≡ a || b
has_later r true b e = refl
has_later zero false b e = e
has_later (suc r) false b e = ap not (not_zero (suc r) ∙ sym (not_zero r)) ∙ e

numbered_has : (ns : List ℕ) (m : ℕ) → not (retirement ns m == 0) ≡ has m ns
numbered_has [] m = refl
numbered_has (n ∷ ns) m = has_later (retirement ns m) (n == m) (has m ns) (numbered_has ns m)

-- a second retirement is one of a name that is retired
pub second_is : (numbers : ℕ → ℕ) (ns : List ℕ) (m : ℕ) → AreRetirements numbers ns → is_second numbers (suc m) ≡ has (suc m) ns
second_is numbers ns m are = ap (λ b. not b && not (numbers (suc m) == 0)) (not_zero m) ∙ (ap (λ r. not (r == 0)) (are (suc m)) ∙ numbered_has ns (suc m))

not_once : (ns : List ℕ) (m : ℕ) → has m ns ≡ true → IsOnce (ns ++ m ∷ []) → ⊥
not_once [] m e once = untrue false refl e
not_once (n ∷ ns) m e once = ⊎_elim
    (λ (t : ((n == m) ≡ true) × (n ≡ m)). untrue (has n (ns ++ m ∷ [])) once.0 (subst (λ k. has k (ns ++ m ∷ []) ≡ true) (sym t.1) (has_new m ns)))
    (λ (t : ((n == m) ≡ false) × (n ≢ m)). not_once ns m (sym (ap (λ b. b || has m ns) t.0) ∙ e) once.1)
    (eqb_tells n m)

pub once_after : (numbers : ℕ → ℕ) (ns : List ℕ) (m : ℕ) → AreRetirements numbers ns → IsOnce ns → is_second numbers m ≡ false → IsOnce (after_retirement m ns)
once_after numbers ns zero are once e = once
once_after numbers ns (suc m) are once e = once_push ns (suc m) once (sym (second_is numbers ns m are) ∙ e)

pub twice_after : (numbers : ℕ → ℕ) (ns : List ℕ) (m : ℕ) → AreRetirements numbers ns → is_second numbers m ≡ true → IsOnce (after_retirement m ns) → ⊥
twice_after numbers ns zero are e = absurd (untrue false refl e)
twice_after numbers ns (suc m) are e = not_once ns (suc m) (sym (second_is numbers ns m are) ∙ e)
