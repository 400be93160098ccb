-- Erasing, place by place.
use Rattle.std.proofs.Common.{◌≡◌, ℕ, zero, suc, ◌+◌, ◌<◌, ◌≤◌, inl, inr, Bool, true, false, List, [], ◌∷◌, length, Option, Some, None, take, refl, sym, ap, subst, ◌∙◌, arith}
use Rattle.std.specs.Prelude.{slice_get, option_map}
use Rattle.std.proofs.lemmas.Bool.{cases_lt}
use Rattle.std.proofs.lemmas.Option.{same_Some, slice_get-map}
use Rattle.norm_lang.specs.declared.text.Instr.{Instr}
use Rattle.norm_lang.specs.declared.text.Op.{Op}
use Rattle.norm_lang.specs.declared.text.Text.{Text}
use Rattle.norm_lang.specs.Kept.{code_of}
use Rattle.target_code.specs.declared.target.TargetInstr.{TargetInstr}
use Rattle.target_code.specs.declared.target.TargetInstr.TheVariants.{Plain, Check, Guard}
use Rattle.target_code.specs.declared.target.TargetOp.{TargetOp}
use Rattle.target_code.specs.declared.target.Target.{Target}
use Rattle.target_code.specs.Paths.{target_code_of}
use Rattle.target_laws.specs.Methods.{Method, code_in, source_in}
use Rattle.target_laws.specs.Places.{ErasesAt, ErasesByPlaces, TargetsEraseByPlaces, SourcesAreInside}
use Rattle.target_code.specs.Erasing.{plain_count, source_place, redirected, plain_code, erased_code, erased_op, ErasesTo}

one_more : (n : ℕ) → n + 1 ≡ suc n
one_more n = omega arith

-- ---- one method

-- a plain instruction is left at its place
pub plain_at : (place : ℕ → ℕ) (code : List TargetInstr) (at : ℕ) (i : Instr) → slice_get code at ≡ Some (Plain i) → slice_get (plain_code place code) (source_place code at) ≡ Some (redirected place i)
plain_at place [] at i is = absurd cc
plain_at place (Plain j ∷ code) zero i is = let same : j ≡ i = cc in ap (λ k. Some (redirected place k)) same
plain_at place (Check ∷ code) zero i is = absurd cc
plain_at place (Guard r ∷ code) zero i is = absurd cc
plain_at place (Plain j ∷ code) (suc at) i is = ap (slice_get (redirected place j ∷ plain_code place code)) (one_more (source_place code at)) ∙ plain_at place code at i is
plain_at place (Check ∷ code) (suc at) i is = plain_at place code at i is
plain_at place (Guard r ∷ code) (suc at) i is = plain_at place code at i is

-- how many more are left after an instruction
abbrev pub plain_one : TargetInstr → ℕ
plain_one (Plain i) = 1
plain_one Check = 0
plain_one (Guard r) = 0

counts_on : (code : List TargetInstr) (at : ℕ) (t : TargetInstr) → slice_get code at ≡ Some t → plain_count (take (suc at) code) ≡ plain_count (take at code) + plain_one t
counts_on [] at t is = absurd cc
counts_on (first ∷ code) zero t is = first_counts first t (same_Some first t is)
  where
    first_counts : (first t : TargetInstr) → first ≡ t → plain_count (take (suc zero) (first ∷ code)) ≡ 0 + plain_one t
    first_counts first (Plain j) same = ap (λ f. plain_count (take (suc zero) (f ∷ code))) same ∙ omega arith
    first_counts first Check same = ap (λ f. plain_count (take (suc zero) (f ∷ code))) same ∙ omega arith
    first_counts first (Guard r) same = ap (λ f. plain_count (take (suc zero) (f ∷ code))) same ∙ omega arith
counts_on (Plain j ∷ code) (suc at) t is = let rest = counts_on code at t is in omega (arith, rest)
counts_on (Check ∷ code) (suc at) t is = counts_on code at t is
counts_on (Guard r ∷ code) (suc at) t is = counts_on code at t is

pub place_on : (code : List TargetInstr) (at : ℕ) (t : TargetInstr) → slice_get code at ≡ Some t → source_place code (at + 1) ≡ source_place code at + plain_one t
place_on code at t is = ap (source_place code) (one_more at) ∙ counts_on code at t is

pub erases_by_places : (code : List TargetInstr) → ErasesByPlaces code (erased_code code)
erases_by_places code at = by_option (slice_get code at) refl
  where
    by_option : (o : Option TargetInstr) → slice_get code at ≡ o → ErasesAt code (erased_code code) at o
    by_option None is = tt
    by_option (Some (Plain i)) is = (plain_at (source_place code) code at i is, place_on code at (Plain i) is)
    by_option (Some Check) is = let on = place_on code at Check is in omega (arith, on)
    by_option (Some (Guard r)) is = let on = place_on code at (Guard r) is in omega (arith, on)

-- as many as are counted
pub length_plain : (place : ℕ → ℕ) (code : List TargetInstr) → length (plain_code place code) ≡ plain_count code
length_plain place [] = refl
length_plain place (Plain i ∷ code) = let rest = length_plain place code in omega (arith, rest)
length_plain place (Check ∷ code) = length_plain place code
length_plain place (Guard r ∷ code) = length_plain place code

take_past : (code : List TargetInstr) (at : ℕ) → length code ≤ at → take at code ≡ code
take_past [] zero past = refl
take_past [] (suc at) past = refl
take_past (t ∷ code) zero past = let no : ⊥ = omega arith in absurd no
take_past (t ∷ code) (suc at) past = ap (λ rest. t ∷ rest) (let less : length code ≤ at = omega arith in take_past code at less)

-- a place whose source is among the instructions left is among the target's
pub inside_target : (code : List TargetInstr) (at : ℕ) → source_place code at < length (erased_code code) → at < length code
inside_target code at lt = elim (cases_lt at (length code)) [
  | inl less ↦ less
  | inr past ↦ (
      let whole : source_place code at ≡ plain_count code = ap plain_count (take_past code at past) in
      let count = length_plain (source_place code) code in
      let no : ⊥ = omega (arith, lt, whole, count) in absurd no)
]

-- ---- a target

pub erased_method : (compiled : TargetOp) (wrapup : Bool) → code_of (erased_op compiled) wrapup ≡ erased_code (target_code_of compiled wrapup)
erased_method compiled false = refl
erased_method compiled true = refl

-- the text's operation is what is left of the target's
pub erased_is : (target : Target) (text : Text) (number : ℕ) (compiled : TargetOp) (op : Op) → ErasesTo target text
    → slice_get target.ops number ≡ Some compiled → slice_get text.ops number ≡ Some op → erased_op compiled ≡ op
erased_is target text number compiled op erases is there =
    let left : slice_get text.ops number ≡ Some (erased_op compiled) = ap (λ t. slice_get t.ops number) (sym erases) ∙ (slice_get-map erased_op target.ops number ∙ ap (option_map erased_op) is) in
    same_Some (erased_op compiled) op (sym left ∙ there)

pub erased_to : {target : Target} {text : Text} → ErasesTo target text → (method : Method target text) → erased_code (code_in method) ≡ source_in method
erased_to {target = target} {text = text} erases method =
    sym (erased_method method.compiled method.wrapup) ∙ ap (λ o. code_of o method.wrapup) (erased_is target text method.number method.compiled method.op erases method.in_target method.in_text)

pub targets_erase_by_places : TargetsEraseByPlaces
targets_erase_by_places target text erases method = subst (ErasesByPlaces (code_in method)) (erased_to erases method) (erases_by_places (code_in method))

pub sources_are_inside : SourcesAreInside
sources_are_inside target text erases method at lt = inside_target (code_in method) at (subst (λ (l : List Instr). source_place (code_in method) at < length l) (sym (erased_to erases method)) lt)

-- what stands in the source for an instruction of the target
pub erased_here : {target : Target} {text : Text} → ErasesTo target text → (method : Method target text) (at : ℕ) (i : TargetInstr) → slice_get (code_in method) at ≡ Some i → ErasesAt (code_in method) (source_in method) at (Some i)
erased_here {target = target} {text = text} erases method at i is = subst (ErasesAt (code_in method) (source_in method) at) is (targets_erase_by_places target text erases method at)
