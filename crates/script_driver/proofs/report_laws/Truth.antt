-- The lines of a report are true of the run in whose end it was made.
use Rattle.std.proofs.Common.{◌≡◌, ◌≤◌, ℕ, ◌+◌, List, length, Some, refl, sym, arith}
use Rattle.std.proofs.lemmas.List.Recursion.{is_sum_by}
use Rattle.std.specs.Prelude.{slice_get}
use Rattle.std.specs.List.{sum_by}
use Rattle.norm_lang.specs.Shipped.{queue_text}
use Rattle.source_machine.specs.Proper.{IsProper, IsProperForAny}
use Rattle.source_machine.proofs.Reached.{fewer_are_proper}
use Rattle.norm_lang.specs.declared.reply.SourceReply.TheVariants as replies
use Rattle.target_laws.specs.target_runs.Runnable.{MayBeWalked as MayRun}
use Rattle.barrier_compiler.specs.Laws.{SecondSchemeIsBarred, SecondSchemeIsWithin}
use Rattle.caller_parts.specs.declared.call.Replied.{Replied}
use Rattle.caller_parts.specs.Settings.{Fits, IsSetting}
use Rattle.caller_steps.specs.Entries.{Entry}
use Rattle.core_runs.specs.Machine.{Reachable}
use Rattle.core_runs.proofs.core_sound.Reached.{states_are_sound}
use Rattle.claim_laws.specs.Causes.{RepliesAreCaused}
use Rattle.claim_laws.specs.CallSteps.{steps_of_call}
use Rattle.claim_laws.specs.Full.{claims_in, FillItsKind}
use Rattle.oa_words.proofs.KindRanges.{part_within}
use Rattle.claim_laws.proofs.Following.{replies_caused}
use Rattle.claim_laws.proofs.Sought.{full_takes}
use Rattle.script_plans.specs.Shapes.{sizes_of, setting_of}
use Rattle.script_plans.specs.Plans.{target_of, calls_of as scripts_of}
use Rattle.document_runs.specs.Reports.{claims_of, capped, report_of}
use Rattle.legal_histories.specs.Told.{SetRunsAreLegal, QueueRunsAreLegal}
use Rattle.script_driver.specs.report_laws.Sources.{source_of, HasSourceRun}
use Rattle.script_driver.specs.report_laws.Lines.{IsTrueLine, TakesClaims, ReportsAreTrue}
use Rattle.script_driver.proofs.report_laws.NeverFull.{never_full}
use Rattle.script_driver.proofs.report_laws.EachLine.{told_reply, every_line}
use Rattle.script_driver.proofs.report_laws.Answering.{true_answer}
use Rattle.script_driver.proofs.report_laws.Runnable.{few_callers, kinds_are_all, setting_is, fuel_is}
use Rattle.script_driver.proofs.report_laws.Sourced.{SetsAreProper, source_answer, named_is_proper, has_source_run}
use Rattle.script_driver.proofs.report_laws.Ordering.{has_legal_history}

-- ---- lists

pub summed : (es : List Entry) → claims_in es ≡ sum_by claims_of es
summed = is_sum_by claims_in claims_of refl (λ e es. refl)

-- ---- the report

pub reports_true : SecondSchemeIsBarred → SecondSchemeIsWithin → SetsAreProper → IsProperForAny queue_text → SetRunsAreLegal → QueueRunsAreLegal → ReportsAreTrue
reports_true barred small sets queue set_runs queue_runs document events state within can complete = record {
  complete = complete;
  of = refl;
  lines = every_line state (IsTrueLine document events state) (λ c i call e there. true_answer (target_of document) (setting_of document) (scripts_of document) document.fuel events state complete caused c e there i) 0 document.scripts count;
  full = every_line state (TakesClaims (target_of document) (setting_of document) events (capped (sum_by claims_of state.entries))) (λ c i call e there full. enough c i e there (told_reply state c e there i replies.Full full)) 0 document.scripts count;
  proper = sourced;
  named = λ words named. sourced (named_is_proper sets queue words document.text named);
  legal = λ words named.
      let from_source = sourced (named_is_proper sets queue words document.text named) in
      has_legal_history document events state complete from_source.run (omega (arith, count))
      (λ c e there i. true_answer (target_of document) (setting_of document) (scripts_of document) document.fuel events state complete caused c e there i)
      (λ c e there i. source_answer (source_of document events) state c e there (from_source.run.refined.agrees c e there) i)
      set_runs queue_runs can words named;
  shipped = never_full document events state count complete own may fits;
} where
  own : IsSetting (setting_of document)
  own = setting_is document can

  may : MayRun (target_of document) document.text
  may = record { small = within.text; normal = can.normal; within = small document.text within.text; erases = (barred document.text within.text can.normal).erases }

  fits : Fits (target_of document) (setting_of document)
  fits = record { kinds = kinds_are_all document can; fields = refl; cells = refl; nodes = refl }

  caused : RepliesAreCaused (target_of document) (setting_of document)
  caused = replies_caused (target_of document) document.text (setting_of document) may own fits

  reached : Reachable (target_of document) (setting_of document) state
  reached = record { events = events; runs = complete.run.runs }

  count : 0 + length document.scripts ≡ length state.entries
  count = let same : length document.scripts ≡ length state.entries = sym (states_are_sound (target_of document) document.text (setting_of document) state may own fits reached).callers in omega (arith, same)

  sourced : IsProper document.text → HasSourceRun document events state (report_of document state)
  sourced proper = has_source_run document events state may (barred document.text within.text can.normal) own fits (fuel_is document can) count complete (fewer_are_proper document.text (length document.scripts) 8 (few_callers document can) proper)

  enough : (c i : ℕ) (e : Entry) → slice_get state.entries c ≡ Some e → (replied : Replied) × (slice_get e.replies i ≡ Some replied) × (replied.reply ≡ replies.Full)
      → FillItsKind (setting_of document) (capped (sum_by claims_of state.entries)) (steps_of_call (target_of document) (setting_of document) events c i)
  enough c i e there found =
      let all : FillItsKind (setting_of document) (claims_in state.entries) (steps_of_call (target_of document) (setting_of document) events c i)
      = (full_takes (target_of document) document.text (setting_of document) may own fits).each events state c i e found.0 complete.run.runs there found.1 found.2 in
      let enough = all.3 in
      let sum = summed state.entries in
      let part = part_within (sizes_of document).kinds all.0 in
      let few = own.sizes.tops in
      let room = own.last in
      (all.0, all.1, all.2, omega (arith, enough, sum, part, few, room))
