-- Under epochs: by which scheme claims go, and when a restart is counted.
use Rattle.std.specs.Prelude.{◌≡◌, ◌↔◌, ℕ, zero, suc, ◌+◌, ◌-◌, ◌^◌, min, Bool, true, false, ◌&&◌, List, [], ◌∷◌, Option, Some, None, slice_get, ◌==◌, if◌then◌else◌}
use Rattle.target_code.specs.declared.target.Target.{Target}
use Rattle.phase_pools.specs.declared.stages.ClaimStage.{ClaimStage}
use Rattle.phase_pools.specs.declared.stages.ClaimStage.TheVariants as claims
use Rattle.phase_pools.specs.Pools.{Claim}
use Rattle.caller_parts.specs.declared.call.Call.{Call}
use Rattle.caller_parts.specs.declared.routine.AnnounceReason.TheVariants as reasons
use Rattle.caller_parts.specs.declared.routine.Announcing.TheVariants as announces
use Rattle.caller_parts.specs.declared.routine.Routine.{Routine}
use Rattle.caller_parts.specs.declared.routine.Routine.TheVariants.{Claims, Announces}
use Rattle.caller_parts.specs.declared.setting.Reclamation.TheVariants.{Epochs}
use Rattle.caller_parts.specs.Settings.{Setting}
use Rattle.caller_steps.specs.Entries.{Entry, one_more}
use Rattle.caller_steps.specs.After.{after, taken}
use Rattle.caller_steps.specs.Belongs.{scheme_of}
use Rattle.core_runs.specs.Machine.{CoreState, CoreEvent, Takes, Steps, core_event, core_run, core_start}

-- a caller's claim goes by the scheme of the setting: its sweeps warn the callers, or load what they have announced, and the caller
-- withdraws the announcement that is its own. Its heads are those of the row
pub record ClaimsFollowSetting (target : Target) (setting : Setting) (state : CoreState) : Type 0 where
  pub each : (c : ℕ) (e : Entry) (claim : Claim) → slice_get state.entries c ≡ Some e → e.routine ≡ Claims claim → claim.sweep.scheme ≡ scheme_of setting.reclamation c
  pub tops : (c : ℕ) (e : Entry) (claim : Claim) → slice_get state.entries c ≡ Some e → e.routine ≡ Claims claim → claim.sweep.tops ≡ setting.sizes.tops

-- before the store of the status of the slot that it has taken
abbrev pub is_last_store : ClaimStage → Bool
is_last_store (claims.StoreUsed q t) = true
is_last_store _ = false

abbrev pub has_swept : ℕ → Bool
has_swept zero = false
has_swept (suc made) = true

-- the last store of a claim that has made a sweep
abbrev pub ends_swept : Routine → Bool
ends_swept (Claims claim) = is_last_store claim.stage && has_swept claim.sweeps
ends_swept _ = false

-- a step of the caller c that ends such a claim
abbrev pub entry_restarts : Option Entry → ℕ
entry_restarts None = 0
entry_restarts (Some e) = if ends_swept e.routine then 1 else 0

abbrev pub event_restarts : ℕ → CoreState → CoreEvent → ℕ
event_restarts c state (Takes k call) = 0
event_restarts c state (Steps k) = if k == c then entry_restarts (slice_get state.entries k) else 0

abbrev pub restarts_on : Option CoreState → (CoreState → ℕ) → ℕ
restarts_on None next = 0
restarts_on (Some state) next = next state

-- how many of them there are among events one after another
abbrev pub restarts_in : Target → Setting → ℕ → List CoreEvent → CoreState → ℕ
restarts_in target setting c [] state = 0
restarts_in target setting c (event ∷ events) state =
    event_restarts c state event + restarts_on (core_event target setting state event) (restarts_in target setting c events)

-- under epochs a step counts a restart, and leads on to the announcement with which the generator begins again, exactly if it ends a claim
-- that has made a sweep, with a slot; taking a call counts none. So in a run the count is the number of those steps, until it stands at its
-- type's end
pub record RestartsAreCounted (target : Target) (setting : Setting) : Type 0 where
  pub step : setting.reclamation ≡ Epochs → (e : Entry) (word : ℕ) → (after target setting e word).counts.restarts ≡ (if ends_swept e.routine then one_more e.counts.restarts else e.counts.restarts)
  pub comes : setting.reclamation ≡ Epochs → (e : Entry) (word : ℕ) → (after target setting e word).routine ≡ Announces (announces.Loads reasons.Swept) ↔ (ends_swept e.routine ≡ true)
  pub takes : (e : Entry) (call : Call) → (taken setting.reclamation call e).counts ≡ e.counts
  pub run : setting.reclamation ≡ Epochs → (events : List CoreEvent) (state : CoreState) (c : ℕ) (e : Entry) → core_run target setting events (core_start target setting) ≡ Some state
      → slice_get state.entries c ≡ Some e → e.counts.restarts ≡ min (restarts_in target setting c events (core_start target setting)) (2 ^ 64 - 1)
