-- At the end of a complete run the calls that run still are those that are out of fuel.
use Rattle.std.proofs.Common.{◌≡◌, ℕ, zero, suc, Bool, true, false, List, [], ◌∷◌, ◌++◌, length, map, Option, Some, None, refl, sym, ap, ◌∙◌, subst}
use Rattle.std.specs.Prelude.{slice_get}
use Rattle.target_code.specs.declared.target.Target.{Target}
use Rattle.caller_parts.specs.declared.call.Call.{Call}
use Rattle.caller_parts.specs.declared.call.Replied.{Replied}
use Rattle.caller_parts.specs.declared.call.Running.{Running}
use Rattle.caller_parts.specs.Pairing.{run_of}
use Rattle.caller_parts.specs.Settings.{Setting}
use Rattle.caller_steps.specs.Entries.{Entry, is_idle}
use Rattle.core_runs.specs.Machine.{CoreState, CoreEvent, OfAll}
use Rattle.core_runs.specs.Histories.{running_of, calls_of, calls_in}
use Rattle.core_runs.specs.Scripts.{IsCompleteRun, script_of, last_steps, HasEnded}
use Rattle.core_runs.proofs.Keeping.{kept_calls}
use Rattle.script_driver.specs.report_laws.Fuel.{replies_of, reply_to, IsOutOfFuel, RunsStill, SpentCallsRanOut}

none_past : {A : Type 0} (xs : List A) → slice_get xs (length xs) ≡ None
none_past [] = refl
none_past (x ∷ xs) = none_past xs

-- the item after so many others
at_last : (xs : List Replied) (r : Running) → slice_get (map run_of xs ++ r ∷ []) (length xs) ≡ Some r
at_last [] r = refl
at_last (x ∷ xs) r = at_last xs r

-- past the others there is one item at most
past_last : (xs : List Replied) (r found : Running) (i : ℕ) → slice_get xs i ≡ None → slice_get (map run_of xs ++ r ∷ []) i ≡ Some found → i ≡ length xs
past_last [] r found zero none is = refl
past_last [] r found (suc i) none is = absurd (let z : None ≡ Some found = is in cc)
past_last (x ∷ xs) r found zero none is = absurd (let z : Some x ≡ None = none in cc)
past_last (x ∷ xs) r found (suc i) none is = ap suc (past_last xs r found i none is)

past_all : (xs : List Replied) (found : Running) (i : ℕ) → slice_get xs i ≡ None → slice_get (map run_of xs ++ []) i ≡ Some found → ⊥
past_all [] found i none is = let z : None ≡ Some found = is in cc
past_all (x ∷ xs) found zero none is = let z : Some x ≡ None = none in cc
past_all (x ∷ xs) found (suc i) none is = past_all xs found i none is

steps_of_last : (xs : List Running) (r : Running) → last_steps (xs ++ r ∷ []) ≡ r.steps
steps_of_last (x ∷ y ∷ xs) r = steps_of_last (y ∷ xs) r
steps_of_last _ r = refl

module _ (target : Target) (setting : Setting) (scripts : List (List Call)) (fuel : ℕ) (events : List CoreEvent) (state : CoreState) (c : ℕ) (e : Entry)
    (complete : IsCompleteRun target setting scripts fuel events state) (there : slice_get state.entries c ≡ Some e) where
  kept : calls_of e ≡ calls_in c events
  kept = kept_calls target setting events state c e complete.run.runs there

  busy_kept : is_idle e.routine ≡ false → map run_of e.replies ++ e.running ∷ [] ≡ calls_in c events
  busy_kept busy = ap (λ (b : Bool). map run_of e.replies ++ running_of b e) (sym busy) ∙ kept

  replies_are : (i : ℕ) → reply_to state c i ≡ slice_get e.replies i
  replies_are i = ap (λ (o : Option Entry). slice_get (replies_of o) i) there

  runs_out : (i : ℕ) → RunsStill e i → IsOutOfFuel fuel events state c i
  runs_out i runs = subst (IsOutOfFuel fuel events state c) (sym runs.last) (record {
    running = e.running;
    taken = ap (λ (l : List Running). slice_get l (length e.replies)) (sym (busy_kept runs.busy)) ∙ at_last e.replies e.running;
    made = sym (steps_of_last (map run_of e.replies) e.running) ∙ (ap last_steps (busy_kept runs.busy)
        ∙ subst (λ (b : Bool). HasEnded fuel (script_of scripts c) (calls_in c events) b) runs.busy (complete.ended c e there));
    unanswered = replies_are (length e.replies) ∙ none_past e.replies;
  })

  runs_by : (i : ℕ) (b : Bool) → is_idle e.routine ≡ b → IsOutOfFuel fuel events state c i → RunsStill e i
  runs_by i true idle out = absurd (past_all e.replies out.running i (sym (replies_are i) ∙ out.unanswered)
      (ap (λ (l : List Running). slice_get l i) (ap (λ (b : Bool). map run_of e.replies ++ running_of b e) (sym idle) ∙ kept) ∙ out.taken))
  runs_by i false busy out = record {
    busy = busy;
    last = past_last e.replies e.running out.running i (sym (replies_are i) ∙ out.unanswered) (ap (λ (l : List Running). slice_get l i) (busy_kept busy) ∙ out.taken);
  }

pub ran_out : OfAll SpentCallsRanOut
ran_out target setting = record {
  each = λ scripts fuel events state c i e complete there. (
    runs_out target setting scripts fuel events state c e complete there i,
    runs_by target setting scripts fuel events state c e complete there i (is_idle e.routine) refl,
  );
}
