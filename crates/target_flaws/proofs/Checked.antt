-- What the machines see of checks and guards is what the paths of a method say.
use Rattle.std.proofs.Common.{◌≡◌, ◌↔◌, ◌⊎◌, inl, inr, ℕ, zero, suc, ◌+◌, ◌<◌, Bool, true, false, ◌||◌, List, [], ◌∷◌, ◌++◌, length, refl, sym, ap, subst, ◌∙◌, arith}
use Rattle.std.specs.Prelude.{slice_index_or, nat_lt, IsTrue}
use Rattle.std.proofs.lemmas.Bool.Decides.{nat_tests}
use Rattle.std.proofs.lemmas.List.{length-append, get_or_append_left, get_or_push}
use Rattle.std.proofs.lemmas.Bool.{or_cases, or_left, or_right}
use Rattle.norm_lang.specs.declared.text.Reg.{Reg}
use Rattle.norm_lang.specs.declared.text.Reg.TheVariants.{Num, Ref}
use Rattle.norm_lang.specs.Limits.{is_register}
use Rattle.norm_lang.specs.Flow.{state_along}
use Rattle.path_facts.specs.Facts.{comes_in_by}
use Rattle.target_code.specs.declared.target.TargetInstr.{TargetInstr}
use Rattle.target_code.specs.Paths.{OnSomeTargetPath}
use Rattle.target_code.specs.Flaws.{clean_after, GuardState, Free, Published, Validated, Dropped, guard_after, MayBeUnchecked, MayBeGuarded}
use Rattle.target_flaws.specs.declared.machines.Machine.{Machine}
use Rattle.target_flaws.specs.declared.machines.Machine.TheVariants.{Checks, Guards}
use Rattle.target_flaws.specs.Machines.{machine_after, clean_number, is_number_clean, is_reference_clean, pair_after, guard_number, guard_state, guard_number_after}
use Rattle.target_flaws.specs.Found.{TargetFound, may_be_unchecked_by, SeesAll, AreAllChecks, AreAllGuards, AreTargetFacts}
use Rattle.target_flaws.proofs.Ways.{StaysFour, along_lt, along_map}

clean_lt : (number reference : Bool) → clean_number number reference < 4
clean_lt true true = omega arith
clean_lt false true = omega arith
clean_lt true false = omega arith
clean_lt false false = omega arith

pair_stays : (n : ℕ) → StaysFour (pair_after n)
pair_stays n i state = clean_lt (clean_after (Num n) i (is_number_clean state)) (clean_after (Ref n) i (is_reference_clean state))

guard_lt : (state : GuardState) → guard_number state < 4
guard_lt Free = omega arith
guard_lt Published = omega arith
guard_lt Validated = omega arith
guard_lt Dropped = omega arith

guard_stays : (r : Reg) → StaysFour (guard_number_after r)
guard_stays r i state = guard_lt (guard_after r i (guard_state state))

pub machine_stays : (machine : Machine) → StaysFour (machine_after machine)
machine_stays (Checks n) = pair_stays n
machine_stays (Guards n) = guard_stays (Ref n)

number_of_both : (number reference : Bool) → is_number_clean (clean_number number reference) ≡ number
number_of_both true true = refl
number_of_both false true = refl
number_of_both true false = refl
number_of_both false false = refl

reference_of_both : (number reference : Bool) → is_reference_clean (clean_number number reference) ≡ reference
reference_of_both true true = refl
reference_of_both false true = refl
reference_of_both true false = refl
reference_of_both false false = refl

number_along : (n : ℕ) (code : List TargetInstr) (path : List ℕ) → is_number_clean (state_along (pair_after n) 0 code path) ≡ state_along (clean_after (Num n)) true code path
number_along n code path =
    along_map (pair_after n) (clean_after (Num n)) is_number_clean
    (λ i state. number_of_both (clean_after (Num n) i (is_number_clean state)) (clean_after (Ref n) i (is_reference_clean state))) 0 code path

reference_along : (n : ℕ) (code : List TargetInstr) (path : List ℕ) → is_reference_clean (state_along (pair_after n) 0 code path) ≡ state_along (clean_after (Ref n)) true code path
reference_along n code path =
    along_map (pair_after n) (clean_after (Ref n)) is_reference_clean
    (λ i state. reference_of_both (clean_after (Num n) i (is_number_clean state)) (clean_after (Ref n) i (is_reference_clean state))) 0 code path

number_states : (state : ℕ) → state < 4 → is_number_clean state ≡ false → (state ≡ 1) ⊎ (state ≡ 3)
number_states zero lt is = cc
number_states (suc zero) lt is = inl refl
number_states (suc (suc zero)) lt is = cc
number_states (suc (suc (suc zero))) lt is = inr refl
number_states (suc (suc (suc (suc state)))) lt is = let no : ⊥ = omega arith in absurd no

reference_states : (state : ℕ) → state < 4 → is_reference_clean state ≡ false → (state ≡ 2) ⊎ (state ≡ 3)
reference_states zero lt is = cc
reference_states (suc zero) lt is = cc
reference_states (suc (suc zero)) lt is = inl refl
reference_states (suc (suc (suc zero))) lt is = inr refl
reference_states (suc (suc (suc (suc state)))) lt is = let no : ⊥ = omega arith in absurd no

-- a property that machines see in two of their states
two_states : (after : TargetInstr → ℕ → ℕ) (other : TargetInstr → Bool → Bool) (f : ℕ → Bool) (code : List TargetInstr) (facts : List Bool) (at one two : ℕ) → StaysFour after → SeesAll after code facts
    → ((path : List ℕ) → f (state_along after 0 code path) ≡ state_along other true code path)
    → one < 4 → two < 4 → f one ≡ false → f two ≡ false → ((state : ℕ) → state < 4 → f state ≡ false → (state ≡ one) ⊎ (state ≡ two))
    → IsTrue (comes_in_by facts at one || comes_in_by facts at two) ↔ OnSomeTargetPath other true code at false
two_states after other f code facts at one two stays sees along one_lt two_lt one_is two_is cases = (
  (λ so. elim (or_cases (comes_in_by facts at one) (comes_in_by facts at two) so) [
    | inl first ↦ (let comes = (sees at one one_lt).0 first in (comes.0, comes.1, sym (along comes.0) ∙ ap f comes.2 ∙ one_is))
    | inr second ↦ (let comes = (sees at two two_lt).0 second in (comes.0, comes.1, sym (along comes.0) ∙ ap f comes.2 ∙ two_is))
  ]),
  λ comes. elim (cases (state_along after 0 code comes.0) (along_lt after stays code comes.0) (along comes.0 ∙ comes.2)) [
    | inl first ↦ or_left (comes_in_by facts at one) (comes_in_by facts at two) ((sees at one one_lt).1 (comes.0, comes.1, first))
    | inr second ↦ or_right (comes_in_by facts at one) (comes_in_by facts at two) ((sees at two two_lt).1 (comes.0, comes.1, second))
  ],
)

state_of_number : (state : GuardState) → guard_state (guard_number state) ≡ state
state_of_number Free = refl
state_of_number Published = refl
state_of_number Validated = refl
state_of_number Dropped = refl

number_of_state : (n : ℕ) → n < 4 → guard_number (guard_state n) ≡ n
number_of_state zero lt = refl
number_of_state (suc zero) lt = refl
number_of_state (suc (suc zero)) lt = refl
number_of_state (suc (suc (suc zero))) lt = refl
number_of_state (suc (suc (suc (suc n)))) lt = let no : ⊥ = omega arith in absurd no

guard_along : (r : Reg) (code : List TargetInstr) (path : List ℕ) → guard_state (state_along (guard_number_after r) 0 code path) ≡ state_along (guard_after r) Free code path
guard_along r code path = along_map (guard_number_after r) (guard_after r) guard_state (λ i state. state_of_number (guard_after r i (guard_state state))) 0 code path

-- a guard's machine sees it
guard_seen : (r : Reg) (code : List TargetInstr) (facts : List Bool) (at : ℕ) (state : GuardState) → SeesAll (guard_number_after r) code facts → IsTrue (comes_in_by facts at (guard_number state)) ↔ MayBeGuarded code r at state
guard_seen r code facts at state sees = (
  (λ so. let comes = (sees at (guard_number state) (guard_lt state)).0 so in (comes.0, comes.1, sym (guard_along r code comes.0) ∙ ap guard_state comes.2 ∙ state_of_number state)),
  λ comes. (sees at (guard_number state) (guard_lt state)).1
      (comes.0, comes.1, sym (number_of_state (state_along (guard_number_after r) 0 code comes.0) (along_lt (guard_number_after r) (guard_stays r) code comes.0)) ∙ ap guard_number (guard_along r code comes.0 ∙ comes.2)),
)

register_lt : (n : ℕ) → IsTrue (is_register (Ref n)) → n < 8
register_lt n is = grind (arith, nat_tests)

number_lt : (n : ℕ) → IsTrue (is_register (Num n)) → n < 8
number_lt n is = grind (arith, nat_tests)

-- what was found out is true of the method
pub target_facts : (code : List TargetInstr) (checks guards : List (List Bool)) → AreAllChecks code checks → AreAllGuards code guards → AreTargetFacts code (record { checks = checks; guards = guards })
target_facts code checks guards pairs each = record { unchecked = seen; guarded = λ n is at state. guard_seen (Ref n) code (slice_index_or guards n []) at state (each n (register_lt n is)) }
  where
    found : TargetFound
    found = record { checks = checks; guards = guards }

    seen : (r : Reg) → IsTrue (is_register r) → (at : ℕ) → IsTrue (may_be_unchecked_by found r at) ↔ MayBeUnchecked code r at
    seen (Num n) is at =
        two_states (pair_after n) (clean_after (Num n)) is_number_clean code (slice_index_or checks n []) at 1 3 (pair_stays n) (pairs n (number_lt n is)) (number_along n code)
        (omega arith) (omega arith) refl refl number_states
    seen (Ref n) is at =
        two_states (pair_after n) (clean_after (Ref n)) is_reference_clean code (slice_index_or checks n []) at 2 3 (pair_stays n) (pairs n (register_lt n is)) (reference_along n code)
        (omega arith) (omega arith) refl refl reference_states

-- the machines of the first numbers
abbrev pub Each : (ℕ → List Bool → Type 0) → List (List Bool) → Type 0
Each P all = (n : ℕ) → n < length all → P n (slice_index_or all n [])

-- one more machine
pub one_more : (P : ℕ → List Bool → Type 0) (all : List (List Bool)) (n : ℕ) (facts : List Bool) → length all ≡ n → P n facts → Each P all → Each P (all ++ facts ∷ [])
one_more P all n facts counted holds each = λ k lt. by_place k lt (nat_lt k (length all)) refl
  where
    by_place : (k : ℕ) → k < length (all ++ facts ∷ []) → (b : Bool) → nat_lt k (length all) ≡ b → P k (slice_index_or (all ++ facts ∷ []) k [])
    by_place k lt true is =
        let less : k < length all = grind (arith, nat_tests) in
        subst (P k) (sym (get_or_append_left all (facts ∷ []) [] k less)) (each k less)
    by_place k lt false is =
        let counted_more : length (all ++ facts ∷ []) ≡ length all + 1 = length-append all (facts ∷ []) in
        let last : length all ≡ k = grind (arith, nat_tests) in
        subst (P k) (sym (get_or_push all facts [] k last)) (subst (λ (m : ℕ). P m facts) (sym counted ∙ last) holds)
