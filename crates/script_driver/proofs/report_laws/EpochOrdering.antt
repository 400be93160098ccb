-- The report of a document of a shipped text under epochs has a legal history.
use Rattle.std.proofs.Common.{◌≡◌, ◌≤◌, ◌+◌, ℕ, Bool, true, false, List, ◌++◌, length, map, Some, arith}
use Rattle.std.specs.Prelude.{nat_lt, slice_get, if◌then◌else◌}
use Rattle.target_code.specs.Bare.{bare}
use Rattle.caller_parts.specs.declared.call.Call.{Call}
use Rattle.caller_parts.specs.declared.call.Running.{Running}
use Rattle.caller_parts.specs.Pairing.{run_of}
use Rattle.caller_steps.specs.Entries.{Entry, is_idle}
use Rattle.core_runs.specs.Machine.{CoreState, CoreEvent}
use Rattle.core_runs.specs.Histories.{running_of, calls_in}
use Rattle.core_runs.specs.Scripts.{script_of, HasEnded}
use Rattle.core_runs.proofs.Keeping.{kept_calls}
use Rattle.oa_simulation.specs.Shadow.{image}
use Rattle.run_laws.specs.begin_laws.Begins.{begun_in}
use Rattle.epoch_runs.specs.Begins.{begun_by_fuel, BeginsScript}
use Rattle.epoch_runs.specs.Source.{FollowsEpochSource}
use Rattle.documents.specs.declared.document.Document.{Document}
use Rattle.script_plans.specs.Shapes.{epoch_setting_of}
use Rattle.script_plans.specs.Plans.{calls_of as scripts_of, IsRunnable}
use Rattle.document_runs.specs.Epochs.{IsCompleteEpochRunOf}
use Rattle.document_runs.specs.Reports.{answer_in, report_of}
use Rattle.legal_histories.specs.Told.{SetRunsAreLegal, QueueRunsAreLegal}
use Rattle.script_driver.specs.report_laws.EpochSources.{epoch_source_of}
use Rattle.script_driver.specs.report_laws.Legal.{HasLegalHistory}
use Rattle.script_driver.specs.report_laws.Lines.{IsCausedAnswer}
use Rattle.script_driver.specs.report_laws.Sources.{IsSourceAnswer, IsNamed}
use Rattle.script_driver.proofs.report_laws.Legal.{Begun, begun_all, begun_some}
use Rattle.script_driver.proofs.report_laws.Ordering.{is_legal_where_sourced, none_past}

one_at_most : (fuel : ℕ) → begun_by_fuel fuel ≤ 1
one_at_most fuel = of (nat_lt 1 fuel) where
  of : (b : Bool) → (if b then 1 else 0) ≤ 1
  of true = omega arith
  of false = omega arith

epochs_begin : (fuel : ℕ) (e : Entry) (idle : Bool) (script : List Call) (taken : List Running) (begun : List Call) → map run_of e.replies ++ running_of idle e ≡ taken → HasEnded fuel script taken idle → BeginsScript idle script fuel e begun
    → Begun script begun (length taken)
epochs_begin fuel e true script taken begun kept ended begins = begun_all fuel script taken begun ended begins
epochs_begin fuel e false script taken begun kept ended begins = let one = one_at_most fuel in begun_some e script taken begun (length e.replies + begun_by_fuel fuel) kept begins (omega (arith, one))

module _ (document : Document) (events : List CoreEvent) (state : CoreState) (complete : IsCompleteEpochRunOf document events state)
    (run : FollowsEpochSource (bare document.text) document.text (epoch_setting_of document) (scripts_of document) document.fuel events state)
    (count : length document.scripts ≡ length state.entries)
    (causes : (c : ℕ) (e : Entry) → slice_get state.entries c ≡ Some e → (i : ℕ) → IsCausedAnswer (bare document.text) (epoch_setting_of document) document.fuel events state c i (answer_in state c i))
    (sources : (c : ℕ) (e : Entry) → slice_get state.entries c ≡ Some e → (i : ℕ) → IsSourceAnswer (epoch_source_of document events) c i (answer_in state c i)) where
  abbrev begun : ℕ → List Call
  begun c = begun_in c (image (bare document.text) document.text (epoch_setting_of document) events)

  begins : (c : ℕ) (e : Entry) → slice_get state.entries c ≡ Some e → Begun (script_of (scripts_of document) c) (begun c) (length (calls_in c events))
  begins c e there = epochs_begin document.fuel e (is_idle e.routine) (script_of (scripts_of document) c) (calls_in c events) (begun c)
      (kept_calls (bare document.text) (epoch_setting_of document) events state c e complete.run.runs there) (complete.ended c e there) (run.begins c e there)

  pub epochs_have_legal_history : SetRunsAreLegal → QueueRunsAreLegal → IsRunnable document → (words : List (List ℕ)) → IsNamed words document.text → HasLegalHistory (report_of document state)
  epochs_have_legal_history = is_legal_where_sourced document state (image (bare document.text) document.text (epoch_setting_of document) events) (epoch_source_of document events) run.simulated.refined.run count
      (λ c e there lt. (begins c e there).front)
      (λ c e there lt i is.
      let few = (begins c e there).few in
      let le = none_past (calls_in c events) i ((causes c e there i).unreached.0 is) in
      omega (arith, few, le))
      sources
