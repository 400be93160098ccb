-- The rows of scripts, by computing.
use Rattle.std.proofs.Common.{◌≡◌, ◌≤◌, ◌<◌, ℕ, zero, suc, Bool, true, false, List, [], ◌∷◌, Option, Some, None, refl, sym, ap, ◌∙◌, subst, arith}
use Rattle.std.specs.Prelude.{is_some, unwrap_or, slice_get}
use Rattle.caller_parts.specs.declared.call.Call.{Call}
use Rattle.caller_parts.specs.declared.call.Running.{Running}
use Rattle.caller_steps.specs.Entries.{Entry, is_idle}
use Rattle.caller_steps.specs.Wants.{wants}
use Rattle.caller_steps.specs.After.{after, signs}
use Rattle.core_runs.specs.Machine.{CoreState, CoreEvent, core_run, core_start}
use Rattle.core_runs.specs.Histories.{calls_in}
use Rattle.core_runs.specs.Scripts.{AreOfScript, HasEnded, script_of}
use Rattle.core_rows.specs.ShippedTargets.{list_target}
use Rattle.core_rows.specs.SharedRows.{shared_setting, five_in}
use Rattle.run_rows.specs.ListTops.{state_after}
use Rattle.run_rows.specs.ScriptRuns.{ScriptRuns, IsComplete, insert_five, remove_five, look_for_five, halfway}

-- whether a caller is idle; one that isn't there takes no step
abbrev idle_at : Option Entry → Bool
idle_at None = true
idle_at (Some e) = is_idle e.routine

by_entry : (fuel : ℕ) (script : List Call) (taken : List Running) (found : Option Entry) (e : Entry) → found ≡ Some e → HasEnded fuel script taken (idle_at found) → HasEnded fuel script taken (is_idle e.routine)
by_entry fuel script taken found e there ended = subst (λ (o : Option Entry). HasEnded fuel script taken (idle_at o)) there ended

no_entry : {A : Type 0} (e : Entry) → None ≡ Some e → A
no_entry e other = absurd (let none : ⊥ = cc in none)

past_two : {A : Type 0} (c : ℕ) → suc (suc c) < 2 → A
past_two c lt = absurd (omega (arith, lt))

ran : (o : Option CoreState) (other : CoreState) → is_some o ≡ true → o ≡ Some (unwrap_or o other)
ran None other is = absurd (let z : false ≡ true = is in cc)
ran (Some state) other is = refl

abbrev runs_to : List CoreEvent → Type 0
runs_to events = core_run list_target (shared_setting 2) events (core_start list_target (shared_setting 2)) ≡ Some (state_after 2 events)

comes : (events : List CoreEvent) → is_some (core_run list_target (shared_setting 2) events (core_start list_target (shared_setting 2))) ≡ true → runs_to events
comes events is = ran (core_run list_target (shared_setting 2) events (core_start list_target (shared_setting 2))) (core_start list_target (shared_setting 2)) is

-- two callers, of which each takes calls of its script and has ended it
complete_by : (first second : List Call) (fuel : ℕ) (events : List CoreEvent) → runs_to events → AreOfScript fuel first (calls_in 0 events) → AreOfScript fuel second (calls_in 1 events)
    → HasEnded fuel first (calls_in 0 events) (idle_at (slice_get (state_after 2 events).entries 0)) → HasEnded fuel second (calls_in 1 events) (idle_at (slice_get (state_after 2 events).entries 1))
    → ((c : ℕ) → slice_get (state_after 2 events).entries (suc (suc c)) ≡ None) → IsComplete first second fuel events
complete_by first second fuel events runs one other ended also none = record {
  run = record { runs = runs; of = of };
  ended = ends;
} where
  of : (c : ℕ) → c < 2 → AreOfScript fuel (script_of (first ∷ second ∷ []) c) (calls_in c events)
  of zero lt = one
  of (suc zero) lt = other
  of (suc (suc c)) lt = past_two c lt

  ends : (c : ℕ) (e : Entry) → slice_get (state_after 2 events).entries c ≡ Some e → HasEnded fuel (script_of (first ∷ second ∷ []) c) (calls_in c events) (is_idle e.routine)
  ends zero e there = by_entry fuel first (calls_in 0 events) (slice_get (state_after 2 events).entries 0) e there ended
  ends (suc zero) e there = by_entry fuel second (calls_in 1 events) (slice_get (state_after 2 events).entries 1) e there also
  ends (suc (suc c)) e there = no_entry e (sym (none c) ∙ there)

-- what a complete run says of a caller
has_ended : (first second : List Call) (fuel : ℕ) (events : List CoreEvent) (c : ℕ) → IsComplete first second fuel events → is_some (slice_get (state_after 2 events).entries c) ≡ true
    → HasEnded fuel (script_of (first ∷ second ∷ []) c) (calls_in c events) (idle_at (slice_get (state_after 2 events).entries c))
has_ended first second fuel events c complete there = of (slice_get (state_after 2 events).entries c) refl there where
  of : (o : Option Entry) → slice_get (state_after 2 events).entries c ≡ o → is_some o ≡ true → HasEnded fuel (script_of (first ∷ second ∷ []) c) (calls_in c events) (idle_at o)
  of None is some = absurd (let z : false ≡ true = some in cc)
  of (Some e) is some = complete.ended c e is

-- ---- numbers and calls that differ

one_is_two : ◌≡◌ {A = ℕ} 1 2 → ⊥
one_is_two e = cc

none_is_one : ◌≡◌ {A = ℕ} 0 1 → ⊥
none_is_one e = cc

seven_is_eight : ◌≡◌ {A = ℕ} 7 8 → ⊥
seven_is_eight e = cc

one_more : ◌≤◌ 22 21 → ⊥
one_more le = omega (arith, le)

is_other : insert_five ≡ remove_five → ⊥
is_other e = let z : ◌≡◌ {A = ℕ} 0 1 = ap (λ (call : Call). call.op) e in none_is_one z

within : ◌≤◌ 22 22
within = omega arith

seven_within : ◌≤◌ 7 7
seven_within = omega arith

-- ---- the rows

five_ran : runs_to five_in
unfolding wants after signs
five_ran = comes five_in refl

half_ran : runs_to halfway
unfolding wants after signs
half_ran = comes halfway refl

whole_run : IsComplete (insert_five ∷ []) [] 22 five_in
unfolding wants after signs
whole_run = complete_by (insert_five ∷ []) [] 22 five_in five_ran (refl, within, tt) tt refl refl (λ c. refl)

spent_run : IsComplete (insert_five ∷ remove_five ∷ []) [] 7 halfway
unfolding wants after signs
spent_run = complete_by (insert_five ∷ remove_five ∷ []) [] 7 halfway half_ran (refl, seven_within, tt) tt refl refl (λ c. refl)

pub script_runs : ScriptRuns
unfolding wants after signs
script_runs = record {
  taken = refl;
  none_taken = refl;
  two_taken = refl;
  other_taken = refl;
  whole = whole_run;
  spent = spent_run;
  stopped = λ k. one_is_two (has_ended (insert_five ∷ remove_five ∷ []) [] 22 five_in 0 k refl);
  not_begun = λ k. none_is_one (has_ended (insert_five ∷ []) (look_for_five ∷ []) 22 five_in 1 k refl);
  not_spent = λ k. seven_is_eight (has_ended (insert_five ∷ []) [] 8 halfway 0 k refl);
  past_fuel = λ k. one_more (k.run.of 0 (omega arith)).1;
  other_call = λ k. is_other (k.run.of 0 (omega arith)).0;
  past_script = λ k. k.run.of 0 (omega arith);
}
