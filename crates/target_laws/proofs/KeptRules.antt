-- The rules on kept registers, at an instruction of a target's wrap-up.
use Rattle.std.proofs.Common.{◌≡◌, false, ◌||◌, [], ◌∷◌, Option, Some, None, refl, ap, ◌∙◌}
use Rattle.std.specs.Prelude.{slice_get}
use Rattle.std.proofs.lemmas.Bool.{false_from_ne_true}
use Rattle.norm_lang.specs.Flow.{passed}
use Rattle.norm_lang.specs.NormalForm.{N9, N10, N11}
use Rattle.norm_lang.specs.PathRules.{follows, exchanges}
use Rattle.norm_lang.specs.RegisterUse.{set_after, sets}
use Rattle.target_code.specs.declared.target.TargetInstr.{TargetInstr}
use Rattle.target_code.specs.declared.target.TargetInstr.TheVariants.{Plain, Check, Guard}
use Rattle.target_code.specs.Erasing.{source_place}
use Rattle.target_laws.specs.Methods.{code_in}
use Rattle.target_code.specs.PathStates.{over_plain, is_set_along}
use Rattle.target_laws.specs.Rules.{KeptAreLeft, KeptStayUnset}
use Rattle.target_laws.proofs.Redirected.{sets_redirected, follows_redirected, exchanges_redirected}
use Rattle.target_laws.proofs.TextRules.{keeps_at}

pub kept_are_left : KeptAreLeft
kept_are_left target text normal erases method at i r wrapup is kept =
    let place = source_place (code_in method) in (
      false_from_ne_true (sets r i) (λ set. keeps_at normal erases method N9 at i is (wrapup, (r, sets_redirected r place i ∙ set, kept))),
      false_from_ne_true (follows r i) (λ followed. keeps_at normal erases method N10 at i is (wrapup, (r, follows_redirected r place i ∙ followed, kept))),
      false_from_ne_true (exchanges r i) (λ exchanged. keeps_at normal erases method N11 at i is (wrapup, (r, exchanges_redirected r place i ∙ exchanged, kept))),
    )

pub kept_stay_unset : KeptStayUnset
kept_stay_unset target text normal erases method [] r wrapup kept = refl
kept_stay_unset target text normal erases method (last ∷ path) r wrapup kept = by_option (slice_get (code_in method) last) refl (kept_stay_unset target text normal erases method path r wrapup kept)
  where
    by_option : (o : Option TargetInstr) → slice_get (code_in method) last ≡ o → is_set_along (code_in method) path r false ≡ false → passed (over_plain (set_after r)) o (is_set_along (code_in method) path r false) ≡ false
    by_option None is before = before
    by_option (Some (Plain i)) is before = ap (λ b. b || is_set_along (code_in method) path r false) (kept_are_left target text normal erases method last i r wrapup is kept).0 ∙ before
    by_option (Some Check) is before = before
    by_option (Some (Guard a)) is before = before
