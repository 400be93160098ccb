-- What the answer to a call says is so, under either scheme.
use Rattle.std.proofs.Common.{◌≡◌, ℕ, zero, suc, Bool, true, false, List, [], ◌∷◌, ◌++◌, length, map, Option, Some, None, refl, sym, ap, ◌∙◌, subst}
use Rattle.std.proofs.lemmas.List.{length-map}
use Rattle.std.specs.Prelude.{slice_get}
use Rattle.std.specs.Option.{option_map}
use Rattle.norm_lang.specs.declared.reply.SourceReply.{SourceReply}
use Rattle.norm_lang.specs.declared.reply.SourceReply.TheVariants as replies
use Rattle.target_code.specs.declared.target.Target.{Target}
use Rattle.caller_parts.specs.declared.call.Call.{Call}
use Rattle.caller_parts.specs.declared.call.Replied.{Replied}
use Rattle.caller_parts.specs.declared.call.Running.{Running}
use Rattle.caller_parts.specs.Pairing.{reply_of, run_of}
use Rattle.caller_parts.specs.Settings.{Setting}
use Rattle.caller_steps.specs.Entries.{Entry, is_idle}
use Rattle.core_runs.specs.Machine.{CoreState, CoreEvent, core_run, core_start}
use Rattle.core_runs.specs.Histories.{running_of, calls_in}
use Rattle.core_runs.specs.Scripts.{IsCompleteRun}
use Rattle.core_runs.proofs.Keeping.{kept_calls}
use Rattle.claim_laws.specs.CallSteps.{steps_of_call}
use Rattle.claim_laws.specs.Causes.{FoundNeither, IsCaused, RepliesAreCaused}
use Rattle.document_runs.specs.declared.report.Answer.TheVariants as answers
use Rattle.document_runs.specs.Reports.{answer_from, answer_in}
use Rattle.script_driver.specs.report_laws.Fuel.{replies_of, reply_to, IsOutOfFuel, RunsStill}
use Rattle.script_driver.specs.report_laws.Lines.{IsCausedAnswer}
use Rattle.script_driver.proofs.report_laws.EachLine.{runs_true, runs_false, replied_is, still, answer_is}
use Rattle.script_driver.proofs.report_laws.RunningOut.{ran_out}
use Rattle.script_driver.proofs.report_laws.Unanswered.{never_taken, finds_nothing, running_found}

taken_there : (xs : List Replied) (more : List Running) (i : ℕ) (x : Replied) → slice_get xs i ≡ Some x → slice_get (map run_of xs ++ more) i ≡ Some (run_of x)
taken_there [] more i x is = absurd (let z : None ≡ Some x = is in cc)
taken_there (y ∷ xs) more zero x is = let same : y ≡ x = (let z : Some y ≡ Some x = is in cc) in ap (λ (r : Replied). Some (run_of r)) same
taken_there (y ∷ xs) more (suc i) x is = taken_there xs more i x is

-- ---- one call

module _ (target : Target) (setting : Setting) (scripts : List (List Call)) (fuel : ℕ) (events : List CoreEvent) (state : CoreState) (complete : IsCompleteRun target setting scripts fuel events state)
    (caused : RepliesAreCaused target setting) where
  module _ (c : ℕ) (e : Entry) (there : slice_get state.entries c ≡ Some e) (i : ℕ) where
    runs : core_run target setting events (core_start target setting) ≡ Some state
    runs = complete.run.runs

    replies_are : reply_to state c i ≡ slice_get e.replies i
    replies_are = ap (λ (o : Option Entry). slice_get (replies_of o) i) there

    out_of_fuel : RunsStill e i → IsOutOfFuel fuel events state c i
    out_of_fuel = ((ran_out target setting).each scripts fuel events state c i e complete there).0

    runs_still : IsOutOfFuel fuel events state c i → RunsStill e i
    runs_still = ((ran_out target setting).each scripts fuel events state c i e complete there).1

    told : (replied : Replied) → slice_get e.replies i ≡ Some replied → IsCausedAnswer target setting fuel events state c i (answers.Replied replied.reply)
    told replied is = record {
      phases = λ p. ((λ z. (why.phases p).0 (replied_is replied.reply (replies.Phases p) z)), (λ found. ap (λ (r : SourceReply). answers.Replied r) ((why.phases p).1 found)));
      full = ((λ z. why.full.0 (replied_is replied.reply replies.Full z)), (λ failed. ap (λ (r : SourceReply). answers.Replied r) (why.full.1 failed)));
      spent = ((λ z. absurd cc), (λ out. absurd (let z : Some replied ≡ None = sym is ∙ (sym replies_are ∙ out.unanswered) in cc)));
      unreached = ((λ z. absurd cc), (λ none. absurd (let z : Some (run_of replied) ≡ None = sym taken ∙ none in cc)));
    } where
      why : IsCaused setting replied.reply (steps_of_call target setting events c i)
      why = caused.ended events state c i e replied runs there is

      taken : slice_get (calls_in c events) i ≡ Some (run_of replied)
      taken = sym (ap (λ (l : List Running). slice_get l i) (kept_calls target setting events state c e runs there)) ∙ taken_there e.replies (running_of (is_idle e.routine) e) i replied is

    untold : slice_get e.replies i ≡ None → (b : Bool) → still e i ≡ b → IsCausedAnswer target setting fuel events state c i (answer_from None b)
    untold none true is = record {
      phases = λ p. ((λ z. absurd cc), (λ found. absurd (neither.phases p found)));
      full = ((λ z. absurd cc), (λ failed. absurd (neither.full failed)));
      spent = ((λ z. out_of_fuel runs_on), (λ out. refl));
      unreached = ((λ z. absurd cc), (λ no. absurd (let z : Some (out_of_fuel runs_on).running ≡ None = sym (out_of_fuel runs_on).taken ∙ no in cc)));
    } where
      runs_on : RunsStill e i
      runs_on = let parts = runs_true (is_idle e.routine) i (length (map reply_of e.replies)) is in record { busy = parts.0; last = parts.1 ∙ length-map e.replies reply_of }

      neither : FoundNeither setting (steps_of_call target setting events c i)
      neither = running_found target setting events state runs c e there caused i runs_on
    untold none false is = record {
      phases = λ p. ((λ z. absurd cc), (λ found. absurd (neither.phases p found)));
      full = ((λ z. absurd cc), (λ failed. absurd (neither.full failed)));
      spent = ((λ z. absurd cc), (λ out. absurd (stopped (runs_still out))));
      unreached = ((λ z. never), (λ no. refl));
    } where
      stopped : RunsStill e i → ⊥
      stopped on = runs_false (is_idle e.routine) i (length (map reply_of e.replies)) is on.busy (on.last ∙ sym (length-map e.replies reply_of))

      never : slice_get (calls_in c events) i ≡ None
      never = never_taken target setting events state runs c e there i none stopped

      neither : FoundNeither setting (steps_of_call target setting events c i)
      neither = finds_nothing target setting events state runs c e there i never

    pub true_answer : IsCausedAnswer target setting fuel events state c i (answer_in state c i)
    true_answer = subst (IsCausedAnswer target setting fuel events state c i) (sym (answer_is state c e there i)) (of (slice_get e.replies i) refl) where
      of : (o : Option Replied) → slice_get e.replies i ≡ o → IsCausedAnswer target setting fuel events state c i (answer_from (option_map reply_of o) (still e i))
      of None none = untold none (still e i) refl
      of (Some replied) is = told replied is
