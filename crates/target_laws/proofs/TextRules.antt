-- A rule that a text keeps, at an instruction of a target.
use Rattle.std.proofs.Common.{◌≡◌, ℕ, false, List, Some}
use Rattle.std.specs.Prelude.{slice_get}
use Rattle.std.proofs.lemmas.Bool.{false_from_ne_true}
use Rattle.norm_lang.specs.declared.text.Reg.{Reg}
use Rattle.norm_lang.specs.declared.text.Instr.{Instr}
use Rattle.norm_lang.specs.declared.text.Text.{Text}
use Rattle.norm_lang.specs.Freshness.{MayBeFresh}
use Rattle.norm_lang.specs.NormalForm.{Rule, BreaksRule, IsNormal}
use Rattle.target_laws.proofs.local_laws.Settled.{keeps_rule}
use Rattle.target_code.specs.declared.target.TargetInstr.TheVariants.{Plain}
use Rattle.target_code.specs.declared.target.Target.{Target}
use Rattle.target_code.specs.Paths.{TargetPath}
use Rattle.target_code.specs.Erasing.{source_place, redirected, ErasesTo}
use Rattle.target_laws.specs.Methods.{Method, code_in, source_in}
use Rattle.target_code.specs.PathStates.{is_fresh_along}
use Rattle.target_laws.proofs.ErasedPlaces.{erased_here}
use Rattle.target_laws.proofs.InText.{fresh_may_be_in_text}

pub keeps_at : {target : Target} {text : Text} → IsNormal text → ErasesTo target text → (method : Method target text) (rule : Rule) (at : ℕ) (i : Instr) → slice_get (code_in method) at ≡ Some (Plain i)
    → BreaksRule rule text method.op method.wrapup (source_place (code_in method) at) (redirected (source_place (code_in method)) i) → ⊥
keeps_at {text = text} normal erases method rule at i is breaks =
    keeps_rule text rule method.number method.op method.wrapup (source_place (code_in method) at) (redirected (source_place (code_in method)) i) normal method.in_text (erased_here erases method at (Plain i) is).0 breaks

-- if a register would break a rule by being fresh, it isn't fresh along the path that was taken
pub not_fresh : {target : Target} {text : Text} → IsNormal text → ErasesTo target text → (method : Method target text) (path : List ℕ) (at : ℕ) (r : Reg) → TargetPath (code_in method) path at
    → (MayBeFresh (source_in method) r (source_place (code_in method) at) → ⊥) → is_fresh_along (code_in method) path r ≡ false
not_fresh {target = target} {text = text} normal erases method path at r leads breaks =
    false_from_ne_true (is_fresh_along (code_in method) path r) (λ fresh. breaks (fresh_may_be_in_text target text normal erases method r at (path, leads, fresh)))
