-- The rules that look at one instruction, at an instruction of a target.
use Rattle.std.proofs.Common.{◌≡◌, ℕ, ◌<◌, false, List, length, sym, ◌∙◌, arith}
use Rattle.std.specs.Prelude.{nat_le}
use Rattle.std.proofs.lemmas.Bool.Decides.{nat_tests}
use Rattle.std.proofs.lemmas.Bool.{false_from_ne_true}
use Rattle.norm_lang.specs.declared.text.RootDecl.{RootDecl}
use Rattle.norm_lang.specs.declared.text.Instr.{Instr}
use Rattle.norm_lang.specs.declared.text.Instr.TheVariants as instr
use Rattle.norm_lang.specs.InstructionRules.{has_wrong_kind, computes_on_reference, has_wrong_retire, has_wrong_range}
use Rattle.norm_lang.specs.NormalForm.{N1, N2, N12, N13}
use Rattle.target_laws.proofs.local_laws.Inside.{own_end}
use Rattle.target_code.specs.declared.target.TargetInstr.TheVariants.{Plain}
use Rattle.target_code.specs.Erasing.{source_place, redirected}
use Rattle.target_laws.specs.Methods.{code_in, source_in}
use Rattle.target_laws.specs.Rules.{InstructionsAreInForm}
use Rattle.target_laws.proofs.ErasedPlaces.{sources_are_inside, erased_here}
use Rattle.target_laws.proofs.Redirected.{kinds_redirected, numbers_redirected, end_redirected, retired_redirected}
use Rattle.target_laws.proofs.TextRules.{keeps_at}

below : (a b : ℕ) → nat_le b a ≡ false → a < b
below a b is = grind (arith, nat_tests)

not_past : (a b : ℕ) → a < b → nat_le b a ≡ false
not_past a b lt = grind (arith, nat_tests)

-- a jump whose source place is inside the source is inside the target
range_by : (roots : List RootDecl) (place : ℕ → ℕ) (count was : ℕ) (i : Instr) → ((l : ℕ) → place l < was → l < count) → has_wrong_range roots (redirected place i) was ≡ false → has_wrong_range roots i count ≡ false
range_by roots place count was (instr.Cas entry l) inside is = not_past l count (inside l (below (place l) was is))
range_by roots place count was (instr.Jump l) inside is = not_past l count (inside l (below (place l) was is))
range_by roots place count was (instr.IfEq a b l) inside is = not_past l count (inside l (below (place l) was is))
range_by roots place count was (instr.IfLess a b l) inside is = not_past l count (inside l (below (place l) was is))
range_by roots place count was (instr.IfMarked a l) inside is = not_past l count (inside l (below (place l) was is))
range_by roots place count was _ inside is = is

pub instructions_are_in_form : InstructionsAreInForm
instructions_are_in_form target text normal erases method at i is =
    let place = source_place (code_in method) in
    record {
      kinds = sym (kinds_redirected text.fields text.roots place i) ∙ false_from_ne_true (has_wrong_kind text.fields text.roots (redirected place i)) (keeps_at normal erases method N1 at i is);
      numbers = sym (numbers_redirected place i) ∙ false_from_ne_true (computes_on_reference (redirected place i)) (keeps_at normal erases method N2 at i is);
      own_end = sym (end_redirected method.wrapup place i) ∙ own_end text method.number method.op method.wrapup (place at) (redirected place i) normal method.in_text (erased_here erases method at (Plain i) is).0;
      retired = sym (retired_redirected place i) ∙ false_from_ne_true (has_wrong_retire (redirected place i)) (keeps_at normal erases method N12 at i is);
      range = range_by text.roots place (length (code_in method)) (length (source_in method)) i (sources_are_inside target text erases method)
          (false_from_ne_true (has_wrong_range text.roots (redirected place i) (length (source_in method))) (keeps_at normal erases method N13 at i is));
    }
