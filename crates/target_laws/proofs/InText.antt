-- A target's paths in its text.
use Rattle.std.proofs.Common.{◌≡◌, ℕ, ◌<◌, Bool, false, List, length, sym, ◌∙◌}
use Rattle.norm_lang.specs.declared.text.Reg.{Reg}
use Rattle.norm_lang.specs.declared.text.Text.{Text}
use Rattle.norm_lang.specs.Flow.{state_along}
use Rattle.norm_lang.specs.Freshness.{fresh_after}
use Rattle.norm_lang.specs.Limits.{IsWithinLimits}
use Rattle.norm_lang.specs.NormalForm.{IsNormal}
use Rattle.norm_lang.specs.RegisterUse.{set_after}
use Rattle.target_laws.specs.local_laws.Settling.{StaysInside}
use Rattle.target_laws.proofs.local_laws.Inside.{stays_inside}
use Rattle.target_code.specs.declared.target.Target.{Target}
use Rattle.target_code.specs.Erasing.{source_place, ErasesTo}
use Rattle.target_laws.specs.Methods.{Method, code_in, source_in}
use Rattle.target_laws.specs.Places.{source_path, PathsAreInText, PathsLeadInside, TargetsStayInside, CyclesAreInText, StatesAreSame, FreshMayBeInText, SurelyFreshInTarget}
use Rattle.target_code.specs.PathStates.{is_set_along, is_fresh_along}
use Rattle.target_laws.proofs.ErasedPlaces.{targets_erase_by_places, sources_are_inside}
use Rattle.target_laws.proofs.Filled.{methods_filled}
use Rattle.target_laws.proofs.SourcePaths.{way_in_source, way_inside, goes_inside, cycle_in_source, state_in_source, set_ignores_jumps, fresh_ignores_jumps}

-- control stays inside the source
pub source_stays : {target : Target} {text : Text} → IsNormal text → (method : Method target text) → StaysInside (source_in method)
source_stays {text = text} normal method = stays_inside text method.number method.op method.wrapup normal method.in_text

-- and the source has an instruction
pub source_filled : {target : Target} {text : Text} → IsWithinLimits text → (method : Method target text) → 0 < length (source_in method)
source_filled {text = text} within method = methods_filled text within method.number method.op method.wrapup method.in_text

pub paths_are_in_text : PathsAreInText
paths_are_in_text target text normal erases method path at leads = way_in_source (code_in method) (source_in method) (targets_erase_by_places target text erases method) (source_stays normal method) 0 path at leads

pub paths_lead_inside : PathsLeadInside
paths_lead_inside target text within normal erases method path at leads =
    let lt : source_place (code_in method) at < length (source_in method) = way_inside (code_in method) (source_in method) (targets_erase_by_places target text erases method) (source_stays normal method) 0 (source_filled within method) path at leads in
    (lt, sources_are_inside target text erases method at lt)

pub targets_stay_inside : TargetsStayInside
targets_stay_inside target text within normal erases method path at to leads goes =
    sources_are_inside target text erases method to
    (goes_inside (code_in method) (source_in method) (targets_erase_by_places target text erases method) (source_stays normal method) at to goes (paths_lead_inside target text within normal erases method path at leads).0)

pub cycles_are_in_text : CyclesAreInText
cycles_are_in_text target text normal erases method path at cycle = cycle_in_source (code_in method) (source_in method) (targets_erase_by_places target text erases method) (source_stays normal method) path at cycle

pub states_are_same : (S : Type 0) → StatesAreSame S
states_are_same S after ignores target text erases method start path = state_in_source after ignores start (code_in method) (source_in method) (targets_erase_by_places target text erases method) path

-- ---- set and fresh registers

pub set_in_source : {target : Target} {text : Text} → ErasesTo target text → (method : Method target text) (path : List ℕ) (r : Reg) (was : Bool)
    → state_along (set_after r) was (source_in method) (source_path (code_in method) path) ≡ is_set_along (code_in method) path r was
set_in_source {target = target} {text = text} erases method path r was = state_in_source (set_after r) (set_ignores_jumps r) was (code_in method) (source_in method) (targets_erase_by_places target text erases method) path

pub fresh_in_source : {target : Target} {text : Text} → ErasesTo target text → (method : Method target text) (path : List ℕ) (r : Reg)
    → state_along (fresh_after r) false (source_in method) (source_path (code_in method) path) ≡ is_fresh_along (code_in method) path r
fresh_in_source {target = target} {text = text} erases method path r = state_in_source (fresh_after r) (fresh_ignores_jumps r) false (code_in method) (source_in method) (targets_erase_by_places target text erases method) path

pub fresh_may_be_in_text : FreshMayBeInText
fresh_may_be_in_text target text normal erases method r at fresh =
    (source_path (code_in method) fresh.0, paths_are_in_text target text normal erases method fresh.0 at fresh.1, fresh_in_source erases method fresh.0 r ∙ fresh.2)

pub surely_fresh_in_target : SurelyFreshInTarget
surely_fresh_in_target target text normal erases method r at surely path leads =
    sym (fresh_in_source erases method path r) ∙ surely (source_path (code_in method) path) (paths_are_in_text target text normal erases method path at leads)
