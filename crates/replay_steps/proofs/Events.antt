-- What a step of an entry in its place is among the events of the core.
use Rattle.std.proofs.Common.{◌≡◌, ◌&&◌, ℕ, Bool, true, List, [], ◌∷◌, map, Option, Some, None, sym, ap, ◌∙◌, if◌then◌else◌}
use Rattle.std.specs.Prelude.{slice_get, slice_set, option_map}
use Rattle.std.proofs.lemmas.List.{map-set}
use Rattle.std.proofs.lemmas.Option.{slice_get-map}
use Rattle.target_code.specs.declared.target.Target.{Target}
use Rattle.phase_pools.specs.Accesses.{WordAccess}
use Rattle.caller_parts.specs.declared.call.Call.{Call}
use Rattle.caller_parts.specs.Settings.{Setting}
use Rattle.caller_parts.specs.Calls.{is_call}
use Rattle.caller_steps.specs.Entries.{Entry, RoomyEntry, is_idle}
use Rattle.caller_steps.specs.Wants.{wants}
use Rattle.caller_steps.specs.After.{after, taken}
use Rattle.core_runs.specs.Machine.{CoreState, Takes, Steps, core_event, core_run, run_on, event_by, stepped, found_by, made}
use Rattle.core_entries.specs.Steps.{StepIs}
use Rattle.replay_steps.specs.Entries.{core_part}

pub core_at : (entries : List RoomyEntry) (c : ℕ) (e : RoomyEntry) → slice_get entries c ≡ Some e → slice_get (map core_part entries) c ≡ Some e.core
core_at entries c e at = slice_get-map core_part entries c ∙ ap (option_map core_part) at

pub set_core : (entries : List RoomyEntry) (c : ℕ) (e : RoomyEntry) → slice_set (map core_part entries) c e.core ≡ map core_part (slice_set entries c e)
set_core entries c e = sym (map-set core_part entries c e)

step_event : (target : Target) (setting : Setting) (state : CoreState) (c : ℕ) (e : Entry) (a : WordAccess) → slice_get state.entries c ≡ Some e → wants target e ≡ Some a
    → core_event target setting state (Steps c) ≡ Some (record { words = made setting state a; entries = slice_set state.entries c (after target setting e (found_by setting state a)) })
step_event target setting state c e a at want = ap (event_by target setting state (Steps c)) at ∙ ap (stepped target setting state c e) want

pub take_event : (target : Target) (setting : Setting) (state : CoreState) (c : ℕ) (call : Call) (e : Entry) → slice_get state.entries c ≡ Some e → is_idle e.routine ≡ true → is_call target call ≡ true
    → core_event target setting state (Takes c call) ≡ Some (record state { entries = slice_set state.entries c (taken setting.reclamation call e) })
take_event target setting state c call e at idle is =
    ap (event_by target setting state (Takes c call)) at
    ∙ (ap (λ (b : Bool). if b && is_call target call then Some (record state { entries = slice_set state.entries c (taken setting.reclamation call e) }) else None) idle
    ∙ ap (λ (b : Bool). if b then Some (record state { entries = slice_set state.entries c (taken setting.reclamation call e) }) else None) is)

-- a step alone, of an entry that may have been changed in its place before
pub step_run : (target : Target) (setting : Setting) (words later : List ℕ) (c : ℕ) (cores : List Entry) (entries : List RoomyEntry) (e moved : RoomyEntry) → slice_get cores c ≡ Some e.core
    → StepIs target setting words later e moved → slice_set cores c moved.core ≡ map core_part (slice_set entries c moved)
    → core_run target setting (Steps c ∷ []) (record { words = words; entries = cores }) ≡ Some (record { words = later; entries = map core_part (slice_set entries c moved) })
step_run target setting words later c cores entries e moved at step same =
    let now : CoreState = record { words = words; entries = cores } in
    ap (λ (o : Option CoreState). run_on o (core_run target setting [])) (step_event target setting now c e.core step.access at step.wanted)
    ∙ (ap (λ (l : List ℕ). Some (record { words = l; entries = slice_set cores c (after target setting e.core (found_by setting now step.access)) })) (sym step.left)
    ∙ (ap (λ (x : RoomyEntry). Some (record { words = later; entries = slice_set cores c x.core })) (sym step.entry)
    ∙ ap (λ (l : List Entry). Some (record { words = later; entries = l })) same))
