-- The rules on new nodes, at an instruction of a target and on the path that was taken.
use Rattle.std.proofs.Common.{◌≡◌, ℕ, inl, inr, Bool, true, false, List, [], ◌∷◌, Option, Some, None, refl, sym, subst, ◌∙◌}
use Rattle.std.specs.Prelude.{slice_get}
use Rattle.std.proofs.lemmas.Bool.{false_from_ne_true}
use Rattle.norm_lang.specs.declared.text.Instr.{Instr}
use Rattle.norm_lang.specs.declared.text.Instr.TheVariants as instr
use Rattle.norm_lang.specs.declared.text.Text.{Text}
use Rattle.norm_lang.specs.Flow.{IsSuccessor}
use Rattle.norm_lang.specs.NormalForm.{N3, N4, N5, N6}
use Rattle.target_laws.proofs.local_laws.Among.{IsAmong, among_contained, leads_round}
use Rattle.target_code.specs.declared.target.TargetInstr.{TargetInstr}
use Rattle.target_code.specs.declared.target.TargetInstr.TheVariants.{Plain, Check, Guard}
use Rattle.target_code.specs.declared.target.Target.{Target}
use Rattle.target_code.specs.Erasing.{source_place}
use Rattle.target_laws.specs.Methods.{Method, code_in, source_in}
use Rattle.target_laws.specs.Places.{with_place, source_path}
use Rattle.target_code.specs.PathStates.{is_fresh_along}
use Rattle.target_laws.specs.Rules.{NewIsPassedOnce, PutsGoToFresh, ExchangesShowNoFresh, OpenReadsAreNotFresh, KeptAreNotFresh}
use Rattle.target_laws.proofs.InText.{paths_are_in_text, surely_fresh_in_target}
use Rattle.target_laws.proofs.Redirected.{openly_redirected}
use Rattle.target_laws.proofs.TextRules.{keeps_at, not_fresh}

-- N4
pub puts_go_to_fresh : PutsGoToFresh
puts_go_to_fresh target text normal erases method path at a b f came = (
  false_from_ne_true method.wrapup (λ wrap. keeps_at normal erases method N4 at (instr.Put a f b) came.stands (inl wrap)),
  by_fresh (is_fresh_along (code_in method) path a) refl,
  not_fresh normal erases method path at b came.leads (λ fresh. keeps_at normal erases method N4 at (instr.Put a f b) came.stands (inr (inr fresh))),
)
  where
    by_fresh : (fresh : Bool) → is_fresh_along (code_in method) path a ≡ fresh → fresh ≡ true
    by_fresh true it = refl
    by_fresh false it = absurd (keeps_at normal erases method N4 at (instr.Put a f b) came.stands (inr (inl (λ surely.
        let no : true ≡ false = sym (surely_fresh_in_target target text normal erases method a at surely path came.leads) ∙ it in cc))))

-- N5
pub exchanges_show_no_fresh : ExchangesShowNoFresh
exchanges_show_no_fresh target text normal erases method path at entry l came =
    not_fresh normal erases method path at entry.replacement came.leads (λ fresh. keeps_at normal erases method N5 at (instr.Cas entry l) came.stands fresh)

-- N6
pub open_reads_are_not_fresh : OpenReadsAreNotFresh
open_reads_are_not_fresh target text normal erases method path at i r came openly =
    not_fresh normal erases method path at r came.leads (λ fresh. keeps_at normal erases method N6 at i came.stands (inl (r, openly_redirected r (source_place (code_in method)) i ∙ openly, fresh)))

pub kept_are_not_fresh : KeptAreNotFresh
kept_are_not_fresh target text normal erases method path at entries r came kept =
    not_fresh normal erases method path at r came.leads (λ fresh. keeps_at normal erases method N6 at (instr.Commit entries) came.stands (inr (refl, (r, kept, fresh))))

-- ---- N3

-- the source's place of a plain instruction that a path passed
passed_in_source : {target : Target} {text : Text} (method : Method target text) (path : List ℕ) (at : ℕ) (i : Instr) → slice_get (code_in method) at ≡ Some (Plain i) → IsAmong at path
    → IsAmong (source_place (code_in method) at) (source_path (code_in method) path)
passed_in_source method [] at i is among = absurd among
passed_in_source method (last ∷ path) at i is (inl same) =
    subst (λ (k : ℕ). IsAmong (source_place (code_in method) at) (with_place (code_in method) (slice_get (code_in method) k) k (source_path (code_in method) path))) same
    (subst (λ o. IsAmong (source_place (code_in method) at) (with_place (code_in method) o at (source_path (code_in method) path))) (sym is) (inl refl))
passed_in_source method (last ∷ path) at i is (inr more) = by_option (slice_get (code_in method) last) (passed_in_source method path at i is more)
  where
    by_option : (o : Option TargetInstr) → IsAmong (source_place (code_in method) at) (source_path (code_in method) path) → IsAmong (source_place (code_in method) at) (with_place (code_in method) o last (source_path (code_in method) path))
    by_option None among = among
    by_option (Some (Plain j)) among = inr among
    by_option (Some Check) among = among
    by_option (Some (Guard r)) among = among

pub new_is_passed_once : NewIsPassedOnce
new_is_passed_once target text normal erases method path at d kind came = (
  false_from_ne_true method.wrapup (λ wrap. keeps_at normal erases method N3 at (instr.New d kind) came.stands (inl wrap)),
  λ contained.
      let place = source_place (code_in method) in
      let among = passed_in_source method path at (instr.New d kind) came.stands (among_contained path at contained) in
      let round = leads_round (IsSuccessor (source_in method)) 0 (place at) (place at) (source_path (code_in method) path) (paths_are_in_text target text normal erases method path at came.leads) among in
      keeps_at normal erases method N3 at (instr.New d kind) came.stands (inr (round.0 ∷ round.1, round.2)),
)
