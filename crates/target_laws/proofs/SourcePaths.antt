-- A path or a cycle of a target's method is one of the text's method, and states along both are the same.
use Rattle.std.proofs.Common.{◌≡◌, ℕ, suc, ◌+◌, ◌<◌, inl, inr, Bool, true, false, ◌||◌, List, [], ◌∷◌, length, Option, Some, None, refl, sym, ap, subst, ◌∙◌, arith}
use Rattle.std.specs.Prelude.{slice_get, IsTrue, ◌==◌, if◌then◌else◌}
use Rattle.std.proofs.lemmas.Bool.{or_cases, eqb-true, eq-eqb, or_left, or_right}
use Rattle.std.proofs.lemmas.Bool.Decides.{nat_tests}
use Rattle.norm_lang.specs.declared.text.Reg.{Reg}
use Rattle.norm_lang.specs.declared.text.Instr.{Instr}
use Rattle.norm_lang.specs.declared.text.Instr.TheVariants as instr
use Rattle.norm_lang.specs.Flow.{Leads, passed, state_along, goes_to, goes_from, IsSuccessor, IsCycle}
use Rattle.norm_lang.specs.Freshness.{fresh_after}
use Rattle.norm_lang.specs.RegisterUse.{set_after}
use Rattle.target_laws.specs.local_laws.Settling.{StaysInside}
use Rattle.target_code.specs.declared.target.TargetInstr.{TargetInstr}
use Rattle.target_code.specs.declared.target.TargetInstr.TheVariants.{Plain, Check, Guard}
use Rattle.target_code.specs.Paths.{target_goes_from, IsTargetSuccessor}
use Rattle.target_code.specs.Erasing.{source_place, redirected}
use Rattle.target_laws.specs.Places.{ErasesAt, ErasesByPlaces, with_place, source_path, IsTargetCycle, IgnoresJumps}
use Rattle.target_code.specs.PathStates.{over_plain}
use Rattle.target_laws.proofs.Redirected.{sets_redirected, is_new_redirected}

-- ---- steps

one_way : (at to : ℕ) → at ≡ to → ((at == to) || false) ≡ true
one_way at to is = grind (arith, nat_tests, is)

one_way_is : (at to : ℕ) → ((at == to) || false) ≡ true → at ≡ to
one_way_is at to is = grind (arith, nat_tests, is)

two_ways : (place : ℕ → ℕ) (at l to : ℕ) → place (at + 1) ≡ place at + 1 → (((at + 1) == to) || ((l == to) || false)) ≡ true → (((place at + 1) == place to) || ((place l == place to) || false)) ≡ true
two_ways place at l to on goes = elim (or_cases ((at + 1) == to) ((l == to) || false) goes) [
  | inl next ↦ or_left ((place at + 1) == place to) _ (eq-eqb _ _ (sym on ∙ ap place (eqb-true (at + 1) to next)))
  | inr jump ↦ or_right ((place at + 1) == place to) _ (one_way (place l) (place to) (ap place (one_way_is l to jump)))
]

-- where control goes on in the target, it goes on in the source
pub source_goes : (place : ℕ → ℕ) (i : Instr) (at to : ℕ) → place (at + 1) ≡ place at + 1 → IsTrue (goes_to i at to) → IsTrue (goes_to (redirected place i) (place at) (place to))
source_goes place (instr.Jump l) at to on goes = one_way (place l) (place to) (ap place (one_way_is l to goes))
source_goes place (instr.IfEq a b l) at to on goes = two_ways place at l to on goes
source_goes place (instr.IfLess a b l) at to on goes = two_ways place at l to on goes
source_goes place (instr.IfMarked a l) at to on goes = two_ways place at l to on goes
source_goes place (instr.Cas entry l) at to on goes = two_ways place at l to on goes
source_goes place (instr.Commit entries) at to on goes = goes
source_goes place (instr.Return a) at to on goes = goes
source_goes place instr.ReturnNone at to on goes = goes
source_goes place instr.Again at to on goes = goes
source_goes place _ at to on goes = one_way (place at + 1) (place to) (sym on ∙ ap place (one_way_is (at + 1) to goes))

-- a check or a guard leads to the same source place
same_place : (code : List TargetInstr) (last to : ℕ) → source_place code (last + 1) ≡ source_place code last → (((last + 1) == to) || false) ≡ true → source_place code last ≡ source_place code to
same_place code last to erases goes = sym erases ∙ ap (source_place code) (one_way_is (last + 1) to goes)

-- ---- paths

-- one instruction more
step_in_source : (code : List TargetInstr) (source : List Instr) → StaysInside source → (start last to : ℕ) (path : List ℕ) (o : Option TargetInstr) → ErasesAt code source last o
    → IsTrue (target_goes_from o last to) → Leads (IsSuccessor source) start path (source_place code last) → Leads (IsSuccessor source) start (with_place code o last path) (source_place code to)
step_in_source code source inside start last to path None erases goes before = absurd (let no : false ≡ true = goes in cc)
step_in_source code source inside start last to path (Some (Plain i)) erases goes before =
    let place = source_place code in
    let goes' : IsTrue (goes_to (redirected place i) (place last) (place to)) = source_goes place i last to erases.1 goes in
    ((subst (λ o. IsTrue (goes_from o (place last) (place to))) (sym erases.0) goes', inside (place last) (place to) (redirected place i) erases.0 goes'), before)
step_in_source code source inside start last to path (Some Check) erases goes before = subst (λ (k : ℕ). Leads (IsSuccessor source) start path k) (same_place code last to erases goes) before
step_in_source code source inside start last to path (Some (Guard r)) erases goes before = subst (λ (k : ℕ). Leads (IsSuccessor source) start path k) (same_place code last to erases goes) before

-- from any place on, not from the method's start alone
pub way_in_source : (code : List TargetInstr) (source : List Instr) → ErasesByPlaces code source → StaysInside source → (start : ℕ) (path : List ℕ) (to : ℕ)
    → Leads (IsTargetSuccessor code) start path to → Leads (IsSuccessor source) (source_place code start) (source_path code path) (source_place code to)
way_in_source code source erases inside start [] to leads = ap (source_place code) leads
way_in_source code source erases inside start (last ∷ path) to leads =
    step_in_source code source inside (source_place code start) last to (source_path code path) (slice_get code last) (erases last) leads.0.0
    (way_in_source code source erases inside start path last leads.1)

-- a step leads to an instruction of the source, if it begins at one
step_inside : (code : List TargetInstr) (source : List Instr) → StaysInside source → (last to : ℕ) (o : Option TargetInstr) → ErasesAt code source last o
    → IsTrue (target_goes_from o last to) → source_place code last < length source → source_place code to < length source
step_inside code source inside last to None erases goes before = absurd (let no : false ≡ true = goes in cc)
step_inside code source inside last to (Some (Plain i)) erases goes before =
    inside (source_place code last) (source_place code to) (redirected (source_place code) i) erases.0 (source_goes (source_place code) i last to erases.1 goes)
step_inside code source inside last to (Some Check) erases goes before = subst (λ (k : ℕ). k < length source) (same_place code last to erases goes) before
step_inside code source inside last to (Some (Guard r)) erases goes before = subst (λ (k : ℕ). k < length source) (same_place code last to erases goes) before

pub goes_inside : (code : List TargetInstr) (source : List Instr) → ErasesByPlaces code source → StaysInside source → (last to : ℕ)
    → IsTrue (target_goes_from (slice_get code last) last to) → source_place code last < length source → source_place code to < length source
goes_inside code source erases inside last to goes before = step_inside code source inside last to (slice_get code last) (erases last) goes before

pub way_inside : (code : List TargetInstr) (source : List Instr) → ErasesByPlaces code source → StaysInside source → (start : ℕ) → source_place code start < length source → (path : List ℕ) (to : ℕ)
    → Leads (IsTargetSuccessor code) start path to → source_place code to < length source
way_inside code source erases inside start lt [] to leads = subst (λ (k : ℕ). source_place code k < length source) (sym leads) lt
way_inside code source erases inside start lt (last ∷ path) to leads = goes_inside code source erases inside last to leads.0.0 (way_inside code source erases inside start lt path last leads.1)

-- ---- cycles

-- a way of checks and guards alone leads on by its length
goes_ahead : (code : List TargetInstr) (start : ℕ) (path : List ℕ) (to : ℕ) → Leads (IsTargetSuccessor code) start path to → source_path code path ≡ [] → to ≡ start + length path
goes_ahead code start [] to leads none = omega (arith, leads)
goes_ahead code start (last ∷ path) to leads none = by_option (slice_get code last) leads.0.0 none (λ empty. goes_ahead code start path last leads.1 empty)
  where
    one_more : (last + 1 ≡ to) → (last ≡ start + length path) → to ≡ start + suc (length path)
    one_more on before = omega (arith, on, before)

    by_option : (o : Option TargetInstr) → IsTrue (target_goes_from o last to) → with_place code o last (source_path code path) ≡ [] → (source_path code path ≡ [] → last ≡ start + length path) → to ≡ start + suc (length path)
    by_option None goes empty rest = absurd (let no : false ≡ true = goes in cc)
    by_option (Some (Plain i)) goes empty rest = absurd cc
    by_option (Some Check) goes empty rest = one_more (one_way_is (last + 1) to goes) (rest empty)
    by_option (Some (Guard r)) goes empty rest = one_more (one_way_is (last + 1) to goes) (rest empty)

pub cycle_in_source : (code : List TargetInstr) (source : List Instr) → ErasesByPlaces code source → StaysInside source → (path : List ℕ) (at : ℕ)
    → IsTargetCycle code path at → IsCycle source (source_path code path) (source_place code at)
cycle_in_source code source erases inside [] at cycle = absurd cycle
cycle_in_source code source erases inside (last ∷ path) at cycle = by_path (source_path code (last ∷ path)) refl (way_in_source code source erases inside at (last ∷ path) at cycle)
  where
    never : at ≡ at + suc (length path) → ⊥
    never same = omega (arith, same)

    by_path : (left : List ℕ) → source_path code (last ∷ path) ≡ left → Leads (IsSuccessor source) (source_place code at) left (source_place code at) → IsCycle source left (source_place code at)
    by_path [] empty leads = absurd (never (goes_ahead code at (last ∷ path) at cycle empty))
    by_path (place ∷ left) is leads = leads

-- ---- states

same_move : {S : Type 0} (after : Instr → S → S) → IgnoresJumps after → (start : S) (code : List TargetInstr) (source : List Instr) (last : ℕ) (path : List ℕ) (o : Option TargetInstr) → ErasesAt code source last o
    → state_along after start source (with_place code o last path) ≡ passed (over_plain after) o (state_along after start source path)
same_move after ignores start code source last path None erases = refl
same_move after ignores start code source last path (Some (Plain i)) erases =
    ap (λ o. passed after o (state_along after start source path)) erases.0 ∙ ignores (source_place code) i (state_along after start source path)
same_move after ignores start code source last path (Some Check) erases = refl
same_move after ignores start code source last path (Some (Guard r)) erases = refl

pub state_in_source : {S : Type 0} (after : Instr → S → S) → IgnoresJumps after → (start : S) (code : List TargetInstr) (source : List Instr) → ErasesByPlaces code source → (path : List ℕ)
    → state_along after start source (source_path code path) ≡ state_along (over_plain after) start code path
state_in_source after ignores start code source erases [] = refl
state_in_source after ignores start code source erases (last ∷ path) =
    same_move after ignores start code source last (source_path code path) (slice_get code last) (erases last)
    ∙ ap (λ state. passed (over_plain after) (slice_get code last) state) (state_in_source after ignores start code source erases path)

-- ---- two that ignore jumps

pub set_ignores_jumps : (r : Reg) → IgnoresJumps (set_after r)
set_ignores_jumps r place i was = ap (λ b. b || was) (sets_redirected r place i)

pub fresh_ignores_jumps : (r : Reg) → IgnoresJumps (fresh_after r)
fresh_ignores_jumps r place i was = by_both (sets_redirected r place i) (is_new_redirected place i)
  where
    by_both : {a b c d : Bool} → a ≡ b → c ≡ d → (if a then c else was) ≡ (if b then d else was)
    by_both one other = rw (one, other) refl
