-- The relation between a core state and the source machine beside it, and what quiet steps keep.
use Rattle.std.specs.Prelude.{ℕ, ◌≡◌, ◌≢◌, ◌<◌, true, List, Some}
use Rattle.norm_lang.specs.declared.text.Text.{Text}
use Rattle.target_code.specs.declared.target.Target.{Target}
use Rattle.oa_words.specs.declared.packed.Kind.TheVariants as kinds
use Rattle.oa_words.specs.Words.{Warning, Hazard, Status}
use Rattle.oa_words.specs.Packed.{status_word}
use Rattle.phase_pools.specs.declared.stages.SweepStage.TheVariants as sweeps
use Rattle.phase_pools.specs.declared.stages.ClaimStage.TheVariants as claims
use Rattle.phase_pools.specs.Pools.{Claim}
use Rattle.source_machine.specs.Proper.{IsProperFor}
use Rattle.caller_parts.specs.declared.routine.Routine.TheVariants.{Claims}
use Rattle.caller_parts.specs.Settings.{Setting}
use Rattle.core_runs.specs.Machine.{CoreState, CoreEvent, Steps, Reachable, core_start, core_event, core_run}
use Rattle.core_runs.specs.RunSigns.{event_signs}
use Rattle.core_runs.specs.Views.{view}
use Rattle.oa_simulation.specs.sim_steps.Quiet.{is_quiet}
use Rattle.oa_simulation.specs.sim_steps.Renewing.{renews}
use Rattle.oa_simulation.specs.Shadow.{Shadow, shadow, shadow_run, shadow_start}
use Rattle.oa_simulation.specs.Beside.{Beside}
use Rattle.oa_simulation.specs.Statements.{Refined}
use Rattle.oa_simulation.specs.Facts.{Facts}

-- slots of names, which agree with those that a shadow has given out
abbrev pub HomeIs : (ℕ → ℕ) → Shadow → Type 0
HomeIs home z = (n : ℕ) → n < z.unused → home n ≡ z.home n

-- a core state is in the relation with a shadow: for some slots of the names, those that are drawn later among them, all facts
-- hold of the words and of each caller, with the source's memory and callers as the shadow has them
pub record Related (target : Target) (text : Text) (setting : Setting) (state : CoreState) (z : Shadow) : Type 0 where
  pub home : ℕ → ℕ
  pub null : home 0 ≡ 0
  pub homes : HomeIs home z
  pub beside : Beside (record { target = target; text = text; setting = setting; home = home }) state z

-- the start state is in the relation with the source's start
abbrev pub StartIsRelated : Target → Text → Setting → Type 0
StartIsRelated target text setting = Related target text setting (core_start target setting) (shadow_start text setting)

-- from a state in the relation each quiet step of each caller leads to one in it, with the shadow that the step's signs give
abbrev pub QuietStepsKeep : Target → Text → Setting → Type 0
QuietStepsKeep target text setting = (state later : CoreState) (z : Shadow) (c : ℕ) → Reachable target setting state → Related target text setting state z
    → is_quiet target setting ((view setting state).who c) ≡ true → core_event target setting state (Steps c) ≡ Some later
    → Related target text setting later (shadow_run text (event_signs target setting state (Steps c)) z)

-- a step by which a method begins, or begins again after a failed check, leaves its caller unwarned: what is seen is the warning word. So
-- the method begins again later only for a warning that was raised since
abbrev pub RunsBeginUnwarned : Target → Text → Setting → Type 0
RunsBeginUnwarned target text setting = (state later : CoreState) (z : Shadow) (c : ℕ) → Reachable target setting state → Related target text setting state z
    → renews target ((view setting state).who c) ((view setting state).memory (Warning c)) ≡ true → core_event target setting state (Steps c) ≡ Some later
    → ((view setting later).who c).hand.seen ≡ (view setting later).memory (Warning c)

-- a caller is in a claim whose sweep is about to make a slot ready, and the slot's status is still the one that it expects
pub record Frees (setting : Setting) (state : CoreState) (c j : ℕ) : Type 0 where
  pub claim : Claim
  pub phase : ℕ
  pub at : ((view setting state).who c).routine ≡ Claims claim
  pub in_sweep : claim.stage ≡ claims.Sweeps
  pub stage : claim.sweep.stage ≡ sweeps.MakeReady j phase
  pub expected : (view setting state).memory (Status j) ≡ status_word phase kinds.Retired

-- no sweep's step makes a slot ready that a validated guard names
abbrev pub SweepsSpareGuards : Target → Text → Setting → Type 0
SweepsSpareGuards target text setting = (state : CoreState) (z : Shadow) (related : Related target text setting state z) (c j : ℕ) → c < setting.sizes.callers → Frees setting state c j
    → (d r : ℕ) → related.beside.w.shared.protects d r ≢ 0 → (view setting state).memory (Hazard d r) ≢ j

-- of a text that is proper for the setting's callers
pub record KeepsQuiet (target : Target) (text : Text) (setting : Setting) : Type 0 where
  pub start : StartIsRelated target text setting
  pub steps : QuietStepsKeep target text setting
  pub guards : SweepsSpareGuards target text setting
  pub unwarned : RunsBeginUnwarned target text setting

abbrev pub QuietIsKept : Target → Text → Setting → Type 0
QuietIsKept target text setting = IsProperFor setting.sizes.callers text → KeepsQuiet target text setting

-- every state that a core run comes to is in the relation with the run's shadow; the run's image is a source run that leads to the
-- source state of the shadow, the replies of each caller agree with it, and each exchange of the text that a caller makes next
-- succeeds exactly if the source's does
pub record Simulates (target : Target) (text : Text) (setting : Setting) (events : List CoreEvent) (state : CoreState) : Type 0 where
  pub refined : Refined target text setting events state
  pub related : Related target text setting state (shadow target text setting events)
  -- no guard that the relation holds to be validated names a slot whose status is ready, as that of each slot of the chain is
  pub guarded : (c r q : ℕ) → related.beside.w.shared.protects c r ≢ 0 → (view setting state).memory (Status ((view setting state).memory (Hazard c r))) ≢ status_word q kinds.Ready
  pub facts : Facts (record { target = target; text = text; setting = setting; home = related.home }) related.beside.w

-- of a text that is proper for the setting's callers
abbrev pub RunsAreSimulated : Target → Text → Setting → Type 0
RunsAreSimulated target text setting = IsProperFor setting.sizes.callers text → (events : List CoreEvent) (state : CoreState) → core_run target setting events (core_start target setting) ≡ Some state → Simulates target text setting events state
