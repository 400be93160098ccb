-- The slots that callers claimed in a run.
use Rattle.std.specs.Prelude.{◌≡◌, ℕ, ◌-◌, ◌^◌, ◌≤◌, min, false, List, [], ◌∷◌, ◌++◌, length, flat_map, Option, Some, None, ◌==◌, if◌then◌else◌, slice_get}
use Rattle.target_code.specs.declared.target.Target.{Target}
use Rattle.oa_words.specs.Packed.{head_word}
use Rattle.guard_words.specs.Guards.{has_slot}
use Rattle.phase_pools.specs.declared.stages.ClaimStage.{ClaimStage}
use Rattle.phase_pools.specs.declared.stages.ClaimStage.TheVariants as claims
use Rattle.caller_parts.specs.declared.routine.Routine.{Routine}
use Rattle.caller_parts.specs.declared.routine.Routine.TheVariants.{Claims}
use Rattle.caller_parts.specs.Settings.{Setting}
use Rattle.caller_steps.specs.Entries.{Entry}
use Rattle.core_runs.specs.Machine.{CoreState, CoreEvent, Takes, Steps, core_event, core_run, core_start}
use Rattle.claim_laws.specs.CallSteps.{StepMade, steps_by}
use Rattle.claim_laws.specs.Untouched.{HeldNone, IsUntouched}

-- a claim's exchange took the slot on top if it found the head that it expected, in a row with so many tops
abbrev pub taken_at : ℕ → ClaimStage → ℕ → List ℕ
taken_at tops (claims.Take q t next) found = if found == head_word tops q t then t ∷ [] else []
taken_at tops _ found = []

abbrev pub taken_in : ℕ → Routine → ℕ → List ℕ
taken_in tops (Claims claim) found = taken_at tops claim.stage found
taken_in tops _ found = []

abbrev pub slots_taken : Setting → StepMade → List ℕ
slots_taken setting step = taken_in setting.sizes.tops step.entry.routine step.found

-- the slots that the caller c claims by an event in a state
abbrev pub event_claims : Target → Setting → ℕ → CoreState → CoreEvent → List ℕ
event_claims target setting c state (Takes k call) = []
event_claims target setting c state (Steps k) = if k == c then flat_map (slots_taken setting) (steps_by target setting state (slice_get state.entries k)) else []

abbrev pub claims_on : Option CoreState → (CoreState → List ℕ) → List ℕ
claims_on None next = []
claims_on (Some state) next = next state

-- and by events one after another
abbrev pub events_claims : Target → Setting → ℕ → List CoreEvent → CoreState → List ℕ
events_claims target setting c [] state = []
events_claims target setting c (event ∷ events) state =
    event_claims target setting c state event ++ claims_on (core_event target setting state event) (events_claims target setting c events)

-- the slots that the caller c claimed in a run from the start, in order, each as often as it was claimed
abbrev pub claimed_by : Target → Setting → List CoreEvent → ℕ → List ℕ
claimed_by target setting events c = events_claims target setting c events (core_start target setting)

-- ---- laws

-- each caller has counted the slots that it claimed
pub record ClaimsAreCounted (target : Target) (setting : Setting) : Type 0 where
  pub each : (events : List CoreEvent) (state : CoreState) (c : ℕ) (e : Entry) → core_run target setting events (core_start target setting) ≡ Some state → slice_get state.entries c ≡ Some e
      → e.counts.claims ≡ min (length (claimed_by target setting events c)) (2 ^ 64 - 1)

-- a slot that held no initial node and was never claimed is ready, with the first phase, and only the chain of its
-- kind names it
pub record UnclaimedIsUntouched (target : Target) (setting : Setting) : Type 0 where
  pub each : (events : List CoreEvent) (state : CoreState) (j : ℕ) → core_run target setting events (core_start target setting) ≡ Some state → HeldNone setting j → j ≤ setting.sizes.slots
      → ((c : ℕ) → has_slot (claimed_by target setting events c) j ≡ false) → IsUntouched target setting state j
