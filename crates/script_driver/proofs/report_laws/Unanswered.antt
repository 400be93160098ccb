-- A call without a reply has found neither cause of one, even if it was never taken.
use Rattle.std.proofs.Common.{◌≡◌, ℕ, zero, suc, Bool, true, false, List, [], ◌∷◌, ◌++◌, length, map, Some, None, refl, sym, ap, ◌∙◌, subst}
use Rattle.std.specs.Prelude.{slice_get, slice_index_or}
use Rattle.target_code.specs.declared.target.Target.{Target}
use Rattle.caller_parts.specs.declared.call.Replied.{Replied}
use Rattle.caller_parts.specs.declared.call.Running.{Running}
use Rattle.caller_parts.specs.Pairing.{run_of}
use Rattle.caller_parts.specs.Settings.{Setting}
use Rattle.caller_steps.specs.Entries.{Entry, is_idle}
use Rattle.core_runs.specs.Machine.{CoreState, CoreEvent, core_run, core_start}
use Rattle.core_runs.specs.Histories.{running_of, calls_of, calls_in}
use Rattle.core_runs.proofs.Keeping.{kept_calls}
use Rattle.claim_laws.specs.CallSteps.{StepMade, call_steps, steps_of_call, count_of}
use Rattle.claim_laws.specs.Causes.{FoundNeither, RepliesAreCaused}
use Rattle.claim_laws.proofs.Lasts.{never_nil}
use Rattle.claim_laws.proofs.Stepping.{steps_are_counted}
use Rattle.script_driver.specs.report_laws.Fuel.{RunsStill}

-- no steps find nothing
nothing_found : (setting : Setting) → FoundNeither setting []
nothing_found setting = record { phases = λ p found. never_nil found.before found.step found.later found.among; full = λ failed. never_nil failed.0 failed.1 [] failed.2 }

-- past those that have a reply, and the one that runs, an entry keeps no call
none_idle : (xs : List Replied) (i : ℕ) → slice_get xs i ≡ None → slice_get (map run_of xs ++ []) i ≡ None
none_idle [] i none = refl
none_idle (x ∷ xs) zero none = absurd (let z : Some x ≡ None = none in cc)
none_idle (x ∷ xs) (suc i) none = none_idle xs i none

none_busy : (xs : List Replied) (r : Running) (i : ℕ) → slice_get xs i ≡ None → (i ≡ length xs → ⊥) → slice_get (map run_of xs ++ r ∷ []) i ≡ None
none_busy [] r zero none other = absurd (other refl)
none_busy [] r (suc i) none other = refl
none_busy (x ∷ xs) r zero none other = absurd (let z : Some x ≡ None = none in cc)
none_busy (x ∷ xs) r (suc i) none other = none_busy xs r i none (λ z. other (ap suc z))

abbrev steps_counted : Running → ℕ
steps_counted run = run.steps

-- a call that wasn't taken has no steps
no_steps : (xs : List (List StepMade)) (ys : List Running) (i : ℕ) → map count_of xs ≡ map steps_counted ys → slice_get ys i ≡ None → slice_index_or xs i [] ≡ []
no_steps [] ys i same none = refl
no_steps (x ∷ xs) [] i same none = absurd (let z : count_of x ∷ map count_of xs ≡ [] = same in cc)
no_steps (x ∷ xs) (y ∷ ys) zero same none = absurd (let z : Some y ≡ None = none in cc)
no_steps (x ∷ xs) (y ∷ ys) (suc i) same none = no_steps xs ys i (let z : count_of x ∷ map count_of xs ≡ y.steps ∷ map steps_counted ys = same in cc) none

module _ (target : Target) (setting : Setting) (events : List CoreEvent) (state : CoreState) (runs : core_run target setting events (core_start target setting) ≡ Some state)
    (c : ℕ) (e : Entry) (there : slice_get state.entries c ≡ Some e) where
  kept : calls_of e ≡ calls_in c events
  kept = kept_calls target setting events state c e runs there

  -- an unanswered call that doesn't run was never taken
  pub never_taken : (i : ℕ) → slice_get e.replies i ≡ None → (RunsStill e i → ⊥) → slice_get (calls_in c events) i ≡ None
  never_taken i none still = sym (ap (λ (l : List Running). slice_get l i) kept) ∙ of (is_idle e.routine) refl where
    of : (b : Bool) → is_idle e.routine ≡ b → slice_get (map run_of e.replies ++ running_of b e) i ≡ None
    of true idle = none_idle e.replies i none
    of false busy = none_busy e.replies e.running i none (λ last. still (record { busy = busy; last = last }))

  pub finds_nothing : (i : ℕ) → slice_get (calls_in c events) i ≡ None → FoundNeither setting (steps_of_call target setting events c i)
  finds_nothing i none = subst (FoundNeither setting)
      (sym (no_steps (call_steps target setting events c) (calls_in c events) i ((steps_are_counted target setting).each events state c runs) none)) (nothing_found setting)

  pub running_found : RepliesAreCaused target setting → (i : ℕ) → RunsStill e i → FoundNeither setting (steps_of_call target setting events c i)
  running_found caused i still = subst (λ (j : ℕ). FoundNeither setting (steps_of_call target setting events c j)) (sym still.last) (caused.running events state c e runs there still.busy)
