-- The calls that a run begins are the first of each script, and are as many as its replies and the call that runs.
use Rattle.std.proofs.Common.{◌≡◌, ◌≤◌, ◌==◌, ◌&&◌, ℕ, zero, suc, ◌+◌, Bool, true, false, List, [], ◌∷◌, ◌++◌, inl, inr, length, map, take, Option, Some, None, refl, sym, ap, ◌∙◌, subst, arith, if◌then◌else◌}
use Rattle.std.proofs.lemmas.Bool.{and_parts}
use Rattle.std.proofs.lemmas.Bool.Decides.{nat_tests, eqb_tells}
use Rattle.std.proofs.lemmas.List.{append-nil, take_all, length-map}
use Rattle.std.specs.Prelude.{slice_get, slice_set}
use Rattle.norm_lang.specs.declared.text.Op.{Op}
use Rattle.norm_lang.specs.declared.text.Text.{Text}
use Rattle.target_code.specs.declared.target.Target.{Target}
use Rattle.source_machine.specs.declared.event.SourceEvent.{SourceEvent}
use Rattle.source_machine.specs.declared.event.SourceEvent.TheVariants as events
use Rattle.source_machine.specs.declared.state.SourceCaller.{SourceCaller}
use Rattle.source_machine.specs.declared.state.SourceMachine.{SourceMachine}
use Rattle.source_machine.specs.Run.{mover, is_enabled, is_enabled_for, step_of, source_step, source_run}
use Rattle.source_machine.specs.Step.{caller_turn}
use Rattle.documents.specs.declared.document.ScriptCall.{ScriptCall}
use Rattle.caller_parts.specs.declared.call.Call.{Call}
use Rattle.caller_parts.specs.declared.call.Replied.{Replied}
use Rattle.caller_parts.specs.declared.call.Running.{Running}
use Rattle.caller_parts.specs.Pairing.{run_of}
use Rattle.caller_parts.specs.Settings.{Setting}
use Rattle.caller_steps.specs.Entries.{Entry, is_idle}
use Rattle.core_runs.specs.Machine.{CoreState, CoreEvent}
use Rattle.core_runs.specs.Histories.{running_of, calls_of, calls_in}
use Rattle.core_runs.specs.Scripts.{IsCompleteRun, script_of, last_steps, HasEnded}
use Rattle.core_runs.proofs.Keeping.{kept_calls}
use Rattle.oa_simulation.specs.Shadow.{image}
use Rattle.run_laws.specs.begin_laws.Begins.{begun_in, call_replied, started_of, started, BeginsScript}
use Rattle.run_laws.proofs.begin_laws.RunsBegun.{calls_of_run}
use Rattle.run_laws.proofs.begin_laws.ScriptsBegun.{scripts_begin}
use Rattle.event_judge.specs.Calls.{is_call_of_op}
use Rattle.event_judge.specs.JudgingLaws.{Begun, calls_begun, are_first_calls}
use Rattle.certificate_laws.specs.Certified.{spells}
use Rattle.caller_parts.specs.declared.setting.Reclamation.TheVariants.{Optimistic}

-- ---- the judge's begun calls are the run's

abbrev begun_of : Call → Begun
begun_of call = record { op = call.op; words = call.args }

begun_one : (b : Bool) (call : Call) (events : List Call) (rest : List Begun) → rest ≡ map begun_of events
    → (if b then begun_of call ∷ rest else rest) ≡ map begun_of ((if b then call ∷ [] else []) ++ events)
begun_one true call events rest is = ap (λ (l : List Begun). begun_of call ∷ l) is
begun_one false call events rest is = is

same_begun : (c : ℕ) (events : List SourceEvent) → calls_begun c events ≡ map begun_of (begun_in c events)
same_begun c [] = refl
same_begun c (events.Begin d op args ∷ events) = begun_one (d == c) (record { op = op; args = args }) (begun_in c events) (calls_begun c events) (same_begun c events)
same_begun c (events.Access d name ∷ events) = same_begun c events
same_begun c (events.Restart d ∷ events) = same_begun c events
same_begun c (events.GiveUp d phase ∷ events) = same_begun c events

-- ---- the first calls of a script

first_calls : (ops : List Op) (n : ℕ) (lines : List ScriptCall) (script : List Call) → spells ops lines script ≡ true → are_first_calls ops (map begun_of (take n script)) lines ≡ true
first_calls ops (suc n) [] (call ∷ script) is = absurd (let no : false ≡ true = is in cc)
first_calls ops (suc n) (line ∷ lines) (call ∷ script) is =
    let parts = and_parts (is_call_of_op line call.args (slice_get ops call.op)) (spells ops lines script) is in
    ap (λ (b : Bool). b && are_first_calls ops (map begun_of (take n script)) lines) parts.0 ∙ first_calls ops n lines script parts.1
first_calls ops _ lines _ is = refl

-- ---- of a complete run

last_is : (xs : List Running) (r : Running) → last_steps (xs ++ r ∷ []) ≡ r.steps
last_is (x ∷ y ∷ xs) r = last_is (y ∷ xs) r
last_is _ r = refl

one_call_more : (xs : List Replied) (call : Call) → length (map call_replied xs ++ call ∷ []) ≡ length xs + 1
one_call_more [] call = refl
one_call_more (x ∷ xs) call = let more = one_call_more xs call in omega (arith, more)

module _ (target : Target) (text : Text) (setting : Setting) (optimistic : setting.reclamation ≡ Optimistic) (scripts : List (List Call)) (fuel : ℕ) (events : List CoreEvent) (state : CoreState) (some : 1 ≤ fuel)
    (complete : IsCompleteRun target setting scripts fuel events state) (c : ℕ) (e : Entry) (there : slice_get state.entries c ≡ Some e) where
  begins : BeginsScript (is_idle e.routine) (script_of scripts c) e (begun_in c (image target text setting events))
  begins = (scripts_begin target setting).each optimistic text scripts fuel events state some complete c e there

  begun : begun_in c (image target text setting events) ≡ started e
  begun = (calls_of_run target text setting optimistic events state c e complete.run.runs there).0

  kept : calls_of e ≡ calls_in c events
  kept = kept_calls target setting events state c e complete.run.runs there

  -- they are the first of the script
  pub begins_first : (ops : List Op) (lines : List ScriptCall) → spells ops lines (script_of scripts c) ≡ true → are_first_calls ops (calls_begun c (image target text setting events)) lines ≡ true
  begins_first ops lines is = ap (λ (l : List Begun). are_first_calls ops l lines) (same_begun c (image target text setting events)) ∙ by (is_idle e.routine) begins where
    by : (b : Bool) → BeginsScript b (script_of scripts c) e (begun_in c (image target text setting events)) → are_first_calls ops (map begun_of (begun_in c (image target text setting events))) lines ≡ true
    by true all =
        ap (λ (l : List Call). are_first_calls ops (map begun_of l) lines) (all ∙ sym (take_all (length (script_of scripts c)) (script_of scripts c) (omega arith)))
        ∙ first_calls ops (length (script_of scripts c)) lines (script_of scripts c) is
    by false first = ap (λ (l : List Call). are_first_calls ops (map begun_of l) lines) first ∙ first_calls ops (length e.replies + 1) lines (script_of scripts c) is

  counted : (calls : List Call) → started e ≡ calls → length (calls_begun c (image target text setting events)) ≡ length calls
  counted calls is = ap length (same_begun c (image target text setting events)) ∙ (length-map (begun_in c (image target text setting events)) begun_of ∙ ap length (begun ∙ is))

  started_by : (b : Bool) → is_idle e.routine ≡ b → started e ≡ map call_replied e.replies ++ started_of b e.running
  started_by b is = ap (λ (i : Bool). map call_replied e.replies ++ started_of i e.running) is

  -- an idle caller has a reply to each
  pub idle_count : is_idle e.routine ≡ true → length (calls_begun c (image target text setting events)) ≡ length e.replies
  idle_count idle = counted (map call_replied e.replies) (started_by true idle ∙ append-nil (map call_replied e.replies)) ∙ length-map e.replies call_replied

  -- one that runs has a reply to each but the last
  pub busy_count : is_idle e.routine ≡ false → length (calls_begun c (image target text setting events)) ≡ length e.replies + 1
  busy_count busy = counted (map call_replied e.replies ++ e.running.call ∷ [])
      (started_by false busy ∙ ap (λ (b : Bool). map call_replied e.replies ++ (if b then [] else e.running.call ∷ [])) not_none) ∙ one_call_more e.replies e.running.call
    where
      kept_all : map run_of e.replies ++ e.running ∷ [] ≡ calls_in c events
      kept_all = ap (λ (i : Bool). map run_of e.replies ++ running_of i e) (sym busy) ∙ kept

      ended : HasEnded fuel (script_of scripts c) (calls_in c events) false
      ended = subst (HasEnded fuel (script_of scripts c) (calls_in c events)) busy (complete.ended c e there)

      made : e.running.steps ≡ fuel
      made = sym (last_is (map run_of e.replies) e.running) ∙ (ap last_steps kept_all ∙ ended)

      not_none : (e.running.steps == 0) ≡ false
      not_none = let is = made in grind (arith, nat_tests)

-- ---- a caller that doesn't exist begins nothing

set_none : (xs : List SourceCaller) (k c : ℕ) (x : SourceCaller) → slice_get xs c ≡ None → slice_get (slice_set xs k x) c ≡ None
set_none (y ∷ ys) zero zero x none = absurd (let no : Some y ≡ None = none in cc)
set_none (y ∷ ys) (suc k) (suc c) x none = set_none ys k c x none
set_none _ _ _ x none = none

step_none : (text : Text) (event : SourceEvent) (o : Option SourceCaller) (state : SourceMachine) (c : ℕ) → slice_get state.callers c ≡ None → slice_get (step_of text event o state).callers c ≡ None
step_none text event None state c none = none
step_none text event (Some caller) state c none = set_none state.callers (mover event) c (caller_turn text event state.memory caller).caller none

pub none_begun : (text : Text) (c : ℕ) (rest : List SourceEvent) (state later : SourceMachine) → slice_get state.callers c ≡ None → source_run text rest state ≡ Some later → calls_begun c rest ≡ []
none_begun text c [] state later none run = refl
none_begun text c (event ∷ rest) state later none run =
    of (is_enabled text state event) refl run (λ r. none_begun text c rest (source_step text state event) later (step_none text event (slice_get state.callers (mover event)) state c none) r) where
      skips : (event : SourceEvent) → is_enabled text state event ≡ true → calls_begun c rest ≡ [] → calls_begun c (event ∷ rest) ≡ []
      skips (events.Begin d op words) enabled none_more = elim (eqb_tells d c) [
        | inl same ↦ absurd (
            let missing : slice_get state.callers d ≡ None = subst (λ (x : ℕ). slice_get state.callers x ≡ None) (sym same.1) none in
            let no : false ≡ true = sym (ap (λ (o : Option SourceCaller). is_enabled_for text (events.Begin d op words) o state.memory) missing) ∙ enabled in cc)
        | inr other ↦ ap (λ (t : Bool). if t then record { op = op; words = words } ∷ calls_begun c rest else calls_begun c rest) other.0 ∙ none_more
      ]
      skips (events.Access d name) enabled none_more = none_more
      skips (events.Restart d) enabled none_more = none_more
      skips (events.GiveUp d phase) enabled none_more = none_more

      of : (b : Bool) → is_enabled text state event ≡ b → (if b then source_run text rest (source_step text state event) else None) ≡ Some later
          → (source_run text rest (source_step text state event) ≡ Some later → calls_begun c rest ≡ []) → calls_begun c (event ∷ rest) ≡ []
      of false off r more = absurd (let z : None ≡ Some later = r in cc)
      of true on r more = skips event on (more r)
