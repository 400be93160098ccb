-- One step of a caller in its place among the entries, and its events.
use Rattle.std.proofs.Common.{◌≡◌, ℕ, Bool, true, false, List, [], ◌∷◌, ◌++◌, map, length, Option, Some, None, refl, sym, ap, ◌∙◌, subst, if◌then◌else◌}
use Rattle.std.specs.Prelude.{slice_get, slice_set, is_some, not}
use Rattle.std.proofs.lemmas.List.{set-set, append-nil}
use Rattle.target_code.specs.declared.target.Target.{Target}
use Rattle.caller_parts.specs.declared.call.Call.{Call}
use Rattle.caller_parts.specs.Settings.{Setting}
use Rattle.caller_parts.specs.Calls.{is_call, AreCalls}
use Rattle.caller_steps.specs.Entries.{Entry, RoomyEntry, is_idle}
use Rattle.caller_steps.specs.After.{taken}
use Rattle.core_runs.specs.Machine.{CoreState, CoreEvent, Takes, Steps, core_event, core_run, run_on}
use Rattle.core_runs.specs.RunSigns.{event_signs, signs_on, run_signs}
use Rattle.core_runs.specs.Scripts.{script_of}
use Rattle.core_runs.specs.Replays.{is_spent, take_events, entry_events}
use Rattle.core_runs.proofs.Keeping.{got_same, first_busy}
use Rattle.replay_steps.specs.Entries.{core_part}
use Rattle.replay_steps.proofs.Rooms.{call_is}
use Rattle.replay_steps.proofs.Events.{core_at, set_core, take_event}
use Rattle.replay_logs.specs.UnderWay.{Terms, Progress, replay_by, cores_of, core_in, has_next, begun_by, begun}

-- ---- events

step_signs : (target : Target) (setting : Setting) (c : ℕ) (state : CoreState) → run_signs target setting (Steps c ∷ []) state ≡ event_signs target setting state (Steps c)
step_signs target setting c state = of (core_event target setting state (Steps c)) where
  of : (o : Option CoreState) → event_signs target setting state (Steps c) ++ signs_on o (run_signs target setting []) ≡ event_signs target setting state (Steps c)
  of None = append-nil (event_signs target setting state (Steps c))
  of (Some later) = append-nil (event_signs target setting state (Steps c))

-- ---- what comes before the step

-- the events of a caller's next step, and the entries just before that step, with its own as it is then
pub record Readies (t : Terms) (c : ℕ) (old : Progress) (e e1 : RoomyEntry) : Type 0 where
  pub events : List CoreEvent
  pub entries : List Entry
  pub next : entry_events (replay_by t) c e.core ≡ Some events
  pub busy : is_idle e1.core.routine ≡ false
  pub number : e1.core.number ≡ e.core.number
  pub room : e1.room ≡ e.room
  pub at : slice_get entries c ≡ Some e1.core
  pub left : (moved : RoomyEntry) → slice_set entries c moved.core ≡ map core_part (slice_set old.entries c moved)
  pub runs : core_run t.pair.target t.setting events (core_in old) ≡ core_run t.pair.target t.setting (Steps c ∷ []) (record { words = old.words; entries = entries })
  pub signs : run_signs t.pair.target t.setting events (core_in old) ≡ event_signs t.pair.target t.setting (record { words = old.words; entries = entries }) (Steps c)

takes_first : (t : Terms) (c : ℕ) (old : Progress) (e : RoomyEntry) (call : Call) → slice_get old.entries c ≡ Some e → is_idle e.core.routine ≡ true → is_call t.pair.target call ≡ true
    → entry_events (replay_by t) c e.core ≡ Some (Takes c call ∷ Steps c ∷ []) → Readies t c old e (record e { core = taken t.setting.reclamation call e.core })
takes_first t c old e call at idle is next = record {
  events = Takes c call ∷ Steps c ∷ [];
  entries = entries;
  next = next;
  busy = first_busy t.setting.reclamation;
  number = refl;
  room = refl;
  at = got_same cores c (taken t.setting.reclamation call e.core) e.core (core_at old.entries c e at);
  left = λ moved. set-set cores c (taken t.setting.reclamation call e.core) moved.core ∙ set_core old.entries c moved;
  runs = ap (λ (o : Option CoreState). run_on o (core_run t.pair.target t.setting (Steps c ∷ []))) take;
  signs = ap (λ (o : Option CoreState). signs_on o (run_signs t.pair.target t.setting (Steps c ∷ []))) take ∙ step_signs t.pair.target t.setting c (record { words = old.words; entries = entries });
} where
  cores : List Entry
  cores = cores_of old

  entries : List Entry
  entries = slice_set (cores_of old) c (taken t.setting.reclamation call e.core)

  take : core_event t.pair.target t.setting (core_in old) (Takes c call) ≡ Some (record { words = old.words; entries = slice_set (cores_of old) c (taken t.setting.reclamation call e.core) })
  take = take_event t.pair.target t.setting (core_in old) c call e.core (core_at old.entries c e at) idle is

goes_on : (t : Terms) (c : ℕ) (old : Progress) (e : RoomyEntry) → slice_get old.entries c ≡ Some e → is_idle e.core.routine ≡ false → entry_events (replay_by t) c e.core ≡ Some (Steps c ∷ []) → Readies t c old e e
goes_on t c old e at busy next = record {
  events = Steps c ∷ [];
  entries = cores_of old;
  next = next;
  busy = busy;
  number = refl;
  room = refl;
  at = core_at old.entries c e at;
  left = set_core old.entries c;
  runs = refl;
  signs = step_signs t.pair.target t.setting c (core_in old);
}

-- an entry that has a step to take is made ready for it
pub readied : (t : Terms) (c : ℕ) (old : Progress) (e : RoomyEntry) → AreCalls t.pair.target (script_of t.scripts c) → slice_get old.entries c ≡ Some e → has_next t.fuel (script_of t.scripts c) e.core ≡ true
    → Readies t c old e (begun t.setting.reclamation (script_of t.scripts c) e)
readied t c old e calls at has = by (is_idle e.core.routine) refl has where
  idles : is_idle e.core.routine ≡ true → (o : Option Call) → slice_get (script_of t.scripts c) (length e.core.replies) ≡ o → is_some o ≡ true → Readies t c old e (begun_by t.setting.reclamation o e)
  idles idle None found is = absurd (let no : false ≡ true = is in cc)
  idles idle (Some call) found is =
      takes_first t c old e call at idle (call_is t.pair.target (script_of t.scripts c) (length e.core.replies) call calls found)
      (ap (λ (b : Bool). if b then take_events c (slice_get (script_of t.scripts c) (length e.core.replies)) else (if is_spent t.fuel e.core then None else Some (Steps c ∷ []))) idle
      ∙ ap (take_events c) found)

  runs_on : is_idle e.core.routine ≡ false → (b : Bool) → is_spent t.fuel e.core ≡ b → not b ≡ true → Readies t c old e e
  runs_on busy true is more = absurd (let none : false ≡ true = more in cc)
  runs_on busy false is more =
      goes_on t c old e at busy
      (ap (λ (b : Bool). if b then take_events c (slice_get (script_of t.scripts c) (length e.core.replies)) else (if is_spent t.fuel e.core then None else Some (Steps c ∷ []))) busy
      ∙ ap (λ (b : Bool). if b then None else Some (Steps c ∷ [])) is)

  by : (b : Bool) → is_idle e.core.routine ≡ b → (if b then is_some (slice_get (script_of t.scripts c) (length e.core.replies)) else not (is_spent t.fuel e.core)) ≡ true
      → Readies t c old e (begun t.setting.reclamation (script_of t.scripts c) e)
  by true idle has =
      subst (Readies t c old e) (sym (ap (λ (b : Bool). if b then begun_by t.setting.reclamation (slice_get (script_of t.scripts c) (length e.core.replies)) e else e) idle))
      (idles idle (slice_get (script_of t.scripts c) (length e.core.replies)) refl has)
  by false busy has =
      subst (Readies t c old e) (sym (ap (λ (b : Bool). if b then begun_by t.setting.reclamation (slice_get (script_of t.scripts c) (length e.core.replies)) e else e) busy))
      (runs_on busy (is_spent t.fuel e.core) refl has)
