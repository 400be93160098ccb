-- What is read was set: N14, at an instruction of a target and on the path that was taken.
use Rattle.std.proofs.Common.{◌≡◌, ℕ, inl, inr, Bool, true, false, ◌||◌, List, [], ◌∷◌, Option, Some, None, refl, sym, ap, ◌∙◌}
use Rattle.std.specs.Prelude.{slice_get, IsTrue}
use Rattle.norm_lang.specs.declared.text.Reg.{Reg}
use Rattle.norm_lang.specs.declared.text.Instr.{Instr}
use Rattle.norm_lang.specs.declared.text.Instr.TheVariants as instr
use Rattle.norm_lang.specs.declared.text.Text.{Text}
use Rattle.norm_lang.specs.Flow.{passed}
use Rattle.norm_lang.specs.Kept.{is_argument, StartsSet}
use Rattle.norm_lang.specs.NormalForm.{N14, IsNormal}
use Rattle.norm_lang.specs.RegisterUse.{sets, reads, set_after}
use Rattle.target_code.specs.declared.target.TargetInstr.{TargetInstr}
use Rattle.target_code.specs.declared.target.TargetInstr.TheVariants.{Plain, Check, Guard}
use Rattle.target_code.specs.declared.target.Target.{Target}
use Rattle.target_code.specs.Erasing.{source_place, ErasesTo}
use Rattle.target_laws.specs.Methods.{Method, code_in, generator_of, wrapup_of, Arrives}
use Rattle.target_laws.specs.Places.{source_path}
use Rattle.target_code.specs.PathStates.{over_plain, is_set_along}
use Rattle.target_laws.specs.Rules.{GeneratorsReadSet, WrapUpsReadSet}
use Rattle.target_laws.proofs.ErasedPlaces.{erased_here}
use Rattle.target_laws.proofs.InText.{paths_are_in_text, set_in_source}
use Rattle.target_laws.proofs.Redirected.{reads_redirected}
use Rattle.target_laws.proofs.TextRules.{keeps_at}

-- ---- a register along a path

or_true : (b : Bool) → (b || true) ≡ true
or_true true = refl
or_true false = refl

-- what was set stays so
pub stays_set : (r : Reg) (code : List TargetInstr) (path : List ℕ) → is_set_along code path r true ≡ true
stays_set r code [] = refl
stays_set r code (last ∷ path) = by_option (slice_get code last) (stays_set r code path)
  where
    by_option : (o : Option TargetInstr) → is_set_along code path r true ≡ true → passed (over_plain (set_after r)) o (is_set_along code path r true) ≡ true
    by_option None was = was
    by_option (Some (Plain i)) was = ap (λ b. sets r i || b) was ∙ or_true (sets r i)
    by_option (Some Check) was = was
    by_option (Some (Guard a)) was = was

-- set before the path, or on it
pub set_by_start : (r : Reg) (code : List TargetInstr) (path : List ℕ) (was : Bool) → (is_set_along code path r false ≡ false → was ≡ true) → is_set_along code path r was ≡ true
set_by_start r code path true unset = stays_set r code path
set_by_start r code path false unset = by_set (is_set_along code path r false) refl
  where
    by_set : (b : Bool) → is_set_along code path r false ≡ b → b ≡ true
    by_set true is = refl
    by_set false is = unset is

-- ---- what is read

-- a method can't be said not to begin with what it reads and its path doesn't set
starts_set : {target : Target} {text : Text} → IsNormal text → ErasesTo target text → (method : Method target text) (path : List ℕ) (at : ℕ) (i : Instr) (r : Reg) → Arrives method path at (Plain i)
    → IsTrue (reads r i) → is_set_along (code_in method) path r false ≡ false → (StartsSet method.op method.wrapup r → ⊥) → ⊥
starts_set {target = target} {text = text} normal erases method path at i r came read unset never = keeps_at normal erases method N14 at i came.stands (
  r,
  reads_redirected r (source_place (code_in method)) i ∙ read,
  (never, (source_path (code_in method) path, paths_are_in_text target text normal erases method path at came.leads, set_in_source erases method path r false ∙ unset)),
)

pub generators_read_set : GeneratorsReadSet
generators_read_set target text normal erases method path at i r came read = set_by_start r (code_in (generator_of method)) path (is_argument method.op r) (λ unset. by_argument unset (is_argument method.op r) refl)
  where
    by_argument : is_set_along (code_in (generator_of method)) path r false ≡ false → (b : Bool) → is_argument method.op r ≡ b → b ≡ true
    by_argument unset true is = refl
    by_argument unset false is = absurd (starts_set normal erases (generator_of method) path at i r came read unset (λ argument. let no : false ≡ true = sym is ∙ argument in cc))

pub wrap_ups_read_set : WrapUpsReadSet
wrap_ups_read_set target text normal erases method path at i r came read unset other before commit entries committed = by_set (is_set_along (code_in (generator_of method)) before r (is_argument method.op r)) refl
  where
    generator : Method target text
    generator = generator_of method

    by_set : (b : Bool) → is_set_along (code_in (generator_of method)) before r (is_argument method.op r) ≡ b → b ≡ true
    by_set true is = refl
    by_set false is = absurd (starts_set normal erases (wrapup_of method) path at i r came read unset (λ starts. elim starts [
      | inl count ↦ (let no : false ≡ true = sym other ∙ count in cc)
      | inr all ↦ (
          let set = all (source_place (code_in (generator_of method)) commit) entries (erased_here erases (generator_of method) commit (Plain (instr.Commit entries)) committed.stands).0
          (source_path (code_in (generator_of method)) before) (paths_are_in_text target text normal erases (generator_of method) before commit committed.leads) in
          let no : true ≡ false = sym set ∙ (set_in_source erases (generator_of method) before r (is_argument method.op r) ∙ is) in cc)
    ]))
