-- Tests of Booleans, registers and lists.
use Rattle.std.proofs.Common.{◌≡◌, ℕ, zero, suc, ◌+◌, Bool, true, false, ◌&&◌, ◌||◌, not, List, [], ◌∷◌, Some, None, refl, sym, ap, subst, ◌∙◌, arith}
use Rattle.std.specs.Prelude.{slice_get, ◌==◌}
use Rattle.std.specs.List.{list_any, list_all}
use Rattle.std.proofs.lemmas.Bool.Decides.{nat_tests}
use Rattle.norm_lang.specs.declared.text.Reg.{Reg}
use Rattle.norm_lang.specs.declared.text.Reg.TheVariants.{Num, Ref}
use Rattle.norm_lang.specs.declared.text.Instr.{Instr}
use Rattle.norm_lang.specs.RegisterUse.{same_register}
use Rattle.closed_tables.specs.Tables.{among, all_from}

pub and_left : (a b : Bool) → (a && b) ≡ true → a ≡ true
and_left true b e = refl
and_left false b e = e

pub and_right : (a b : Bool) → (a && b) ≡ true → b ≡ true
and_right true b e = e
and_right false b e = absurd (let z : false ≡ true = e in cc)

pub not_and_true : {A : Type 0} (b : Bool) → not b ≡ true → b ≡ true → A
not_and_true true e is = absurd (let z : false ≡ true = e in cc)
not_and_true false e is = absurd (let z : false ≡ true = is in cc)

-- of two, the first doesn't hold
pub other_holds : (a b : Bool) → (a || b) ≡ true → a ≡ false → b ≡ true
other_holds true b e isnt = absurd (let z : true ≡ false = isnt in cc)
other_holds false b e isnt = e

pub same_register_is : (r s : Reg) → same_register r s ≡ true → r ≡ s
same_register_is (Num a) (Num b) e = ap Num (grind (arith, nat_tests, e))
same_register_is (Ref a) (Ref b) e = ap Ref (grind (arith, nat_tests, e))
same_register_is (Num a) (Ref b) e = absurd (let z : false ≡ true = e in cc)
same_register_is (Ref a) (Num b) e = absurd (let z : false ≡ true = e in cc)

among_cons : (test : Reg → Bool) (s : Reg) (registers : List Reg) (r : Reg) (b : Bool) → same_register r s ≡ b → (test s && list_all test registers) ≡ true
    → (same_register r s || among r registers) ≡ true → (among r registers ≡ true → test r ≡ true) → test r ≡ true
among_cons test s registers r true e all is rest = ap test (same_register_is r s e) ∙ and_left (test s) (list_all test registers) all
among_cons test s registers r false e all is rest = rest (other_holds (same_register r s) (among r registers) is e)

-- what holds of each register of a list holds of one among them
pub all_among : (test : Reg → Bool) (registers : List Reg) (r : Reg) → list_all test registers ≡ true → among r registers ≡ true → test r ≡ true
all_among test [] r all is = absurd (let z : false ≡ true = is in cc)
all_among test (s ∷ registers) r all is =
    among_cons test s registers r (same_register r s) refl all is
    (λ (there : among r registers ≡ true). all_among test registers r (and_right (test s) (list_all test registers) all) there)

next_cons : (test : ℕ → Bool) (n : ℕ) (places : List ℕ) (next : ℕ) (b : Bool) → (n == next) ≡ b → (test n && list_all test places) ≡ true
    → ((n == next) || list_any (λ k. k == next) places) ≡ true → (list_any (λ k. k == next) places ≡ true → test next ≡ true) → test next ≡ true
next_cons test n places next true e all is rest =
    let same : n ≡ next = grind (arith, nat_tests, e) in
    ap test (sym same) ∙ and_left (test n) (list_all test places) all
next_cons test n places next false e all is rest = rest (other_holds (n == next) (list_any (λ k. k == next) places) is e)

-- and of each number, of one that is among them
pub all_next : (test : ℕ → Bool) (places : List ℕ) (next : ℕ) → list_all test places ≡ true → list_any (λ n. n == next) places ≡ true → test next ≡ true
all_next test [] next all is = absurd (let z : false ≡ true = is in cc)
all_next test (n ∷ places) next all is =
    next_cons test n places next (n == next) refl all is
    (λ (there : list_any (λ k. k == next) places ≡ true). all_next test places next (and_right (test n) (list_all test places) all) there)

all_from_on : (test : ℕ → Instr → Bool) (code : List Instr) (first k at : ℕ) (i : Instr) → first + k ≡ at → all_from test first code ≡ true → slice_get code k ≡ Some i → test at i ≡ true
all_from_on test [] first k at i sum all get = absurd (let z : None ≡ Some i = get in cc)
all_from_on test (j ∷ code) first zero at i sum all get =
    let here : first ≡ at = omega (arith, sum) in
    let same : j ≡ i = (let z : Some j ≡ Some i = get in cc) in
    subst (λ n. test n i ≡ true) here (subst (λ x. test first x ≡ true) same (and_left (test first j) (all_from test (suc first) code) all))
all_from_on test (j ∷ code) first (suc k) at i sum all get =
    let next : suc first + k ≡ at = omega (arith, sum) in
    all_from_on test code (suc first) k at i next (and_right (test first j) (all_from test (suc first) code) all) get

-- what holds of each instruction holds of the one at a place
pub all_places : (test : ℕ → Instr → Bool) (code : List Instr) (at : ℕ) (i : Instr) → all_from test 0 code ≡ true → slice_get code at ≡ Some i → test at i ≡ true
all_places test code at i all get = let sum : 0 + at ≡ at = omega arith in all_from_on test code 0 at at i sum all get
