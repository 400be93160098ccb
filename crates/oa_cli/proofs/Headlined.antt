-- The headline follows from what was judged and said.
use Rattle.std.proofs.Common.{◌≡◌, ◌⊎◌, ◌≢◌, ℕ, List, [], ◌++◌, Option, Some, None, inl, inr, ⊎_elim, refl, sym, ap, subst, ◌∙◌}
use Rattle.std.specs.Option.{unwrap_or}
use Rattle.std.specs.Io.KnownBytes.{Appends}
use Rattle.oa_text.specs.Causes.{Rose}
use Rattle.norm_lang.specs.NormalForm.{IsNormal}
use Rattle.documents.specs.declared.document.Document.{Document}
use Rattle.documents.specs.DocumentRead.{IsDocument}
use Rattle.script_plans.specs.declared.fault.RunFault.TheVariants as faults
use Rattle.document_runs.specs.declared.report.Report.{Report}
use Rattle.document_runs.specs.Texts.{report_text}
use Rattle.core_runs.specs.Machine.{CoreState, CoreEvent}
use Rattle.script_driver.specs.report_laws.EpochLines.{EpochsTellOf}
use Rattle.script_driver.specs.report_laws.EpochSources.{HasEpochSourceRun}
use Rattle.script_driver.specs.report_laws.Lines.{TellsOf}
use Rattle.script_driver.specs.report_laws.Sources.{HasSourceRun}
use Rattle.statuses.specs.declared.status.Status.{Status}
use Rattle.statuses.specs.declared.status.Status.TheVariants as statuses
use Rattle.command_input.specs.declared.command.Command.{Command}
use Rattle.command_input.specs.declared.command.Command.TheVariants as commands
use Rattle.command_input.specs.declared.command.Request.{Request}
use Rattle.command_input.specs.declared.command.Request.TheVariants as requests
use Rattle.oa_cli.specs.declared.verdicts.verdict.Verdict.{Verdict}
use Rattle.oa_cli.specs.declared.verdicts.verdict.Verdict.TheVariants as verdicts
use Rattle.oa_cli.specs.verdicts.Telling.{IsSaid, text_for, status_for}
use Rattle.oa_cli.specs.Complete.{HasAccepted, IsAccepted}
use Rattle.statuses.specs.declared.limits.TheConstants.{DOCUMENT_LIMIT}
use Rattle.oa_cli.specs.Judged.{IsAnswered, IsShapeRefused, IsShown, IsOfBytes, IsOfSource, IsOfRequest}
use Rattle.oa_cli.specs.Headline.{MakesCalls, Premises, IsTakenForProper, Promised, IsPrinted, Headline}
use Rattle.oa_cli.proofs.Completing.{not_faulty, one_document, not_refused, accepted_is_normal, has_shape}
use Rattle.oa_cli.proofs.Sources.{told}

-- ---- the verdict is a report's

pub record IsReport (command : Command) (document : Document) (verdict : Verdict) : Type 0 where
  pub report : Report
  pub same : verdict ≡ verdicts.Answered report
  pub answered : IsAnswered command document report

-- a command that makes calls is none that makes none
other_command : {A : Type 0} (command other : Command) → MakesCalls command → command ≡ other → (MakesCalls other → ⊥) → A
other_command command other makes same none = absurd (none (subst MakesCalls same makes))

-- a command that makes calls writes out no document
writes_none : {A : Type 0} (command : Command) (document : Document) (spelling : List ℕ) → MakesCalls command → IsShown command document spelling → A
writes_none commands.Run document spelling makes shown = absurd shown
writes_none commands.Replay document spelling makes shown = absurd shown
writes_none commands.Epochs document spelling makes shown = absurd shown
writes_none _ document spelling makes shown = absurd makes

bytes_told : (command : Command) (bytes : List ℕ) (document : Document) (verdict : Verdict) → MakesCalls command → IsDocument bytes document → IsAccepted command document
    → status_for verdict ≢ statuses.Memory → IsOfBytes command bytes verdict → IsReport command document verdict
bytes_told command bytes document (verdicts.Answered report) makes is accepted memory (other, also, answered) =
    record { report = report; same = refl; answered = subst (λ (d : Document). IsAnswered command d report) (one_document bytes document other is also) answered }
bytes_told command bytes document verdicts.Accepted makes is accepted memory (other, also, found) = other_command command commands.Check makes found.0 (λ none. none)
bytes_told command bytes document (verdicts.Shown spelling) makes is accepted memory (other, also, found) = writes_none command other spelling makes found
bytes_told command bytes document (verdicts.Compiled spelling) makes is accepted memory (other, also, found) = other_command command commands.Compile makes found.0 (λ none. none)
bytes_told command bytes document (verdicts.Certified spelling partial) makes is accepted memory (other, also, found) = other_command command commands.Certify makes found.0 (λ none. none)
bytes_told command bytes document (verdicts.BadDocument fault) makes is accepted memory judged = absurd (not_faulty bytes document _ is judged)
bytes_told command bytes document (verdicts.Refused text refusal) makes is accepted memory judged =
    let same : judged.0 ≡ document = one_document bytes document judged.0 is judged.1 in
    let normal : IsNormal document.text = accepted_is_normal command document judged.2.0 accepted in
    absurd (not_refused text refusal (subst IsNormal (sym (judged.2.1 ∙ ap (λ (d : Document). d.text) same)) normal) judged.2.2)
bytes_told command bytes document (verdicts.BadShape number at) makes is accepted memory (other, also, refused) =
    absurd (has_shape command document number at accepted (subst (λ (d : Document). IsShapeRefused command d (faults.Shape number at)) (one_document bytes document other is also) refused))
bytes_told command bytes document verdicts.Memory makes is accepted memory judged = absurd (memory refl)
bytes_told command bytes document _ makes is accepted memory judged = absurd judged.2

source_told : (command : Command) (old new : Option (List ℕ)) (before now : ℕ) (verdict : Verdict) → MakesCalls command → (has : HasAccepted command old) → ¬ Rose before now → status_for verdict ≢ statuses.Memory
    → IsOfSource DOCUMENT_LIMIT (IsOfBytes command) old new before now verdict → IsReport command has.document verdict
source_told command old new before now verdict makes has kept memory judged =
    ⊎_elim
    (λ none. absurd (memory none))
    (λ says. bytes_told command has.bytes has.document verdict makes has.spelled has.accepted memory says)
    (told DOCUMENT_LIMIT (IsOfBytes command) old new before now has.bytes verdict has.told has.short kept judged)

-- ---- the promise

taken_for_proper : (document : Document) (events : List CoreEvent) (state : CoreState) (report : Report) → TellsOf document events state report → IsTakenForProper document.text → HasSourceRun document events state report
taken_for_proper document events state report tells (inl proper) = tells.proper proper
taken_for_proper document events state report tells (inr named) = tells.named named.0 named.1

epochs_for_proper : (document : Document) (events : List CoreEvent) (state : CoreState) (report : Report) → EpochsTellOf document events state report → IsTakenForProper document.text → HasEpochSourceRun document events state report
epochs_for_proper document events state report tell (inl proper) = tell.proper proper
epochs_for_proper document events state report tell (inr named) = tell.named named.0 named.1

promised : (command : Command) (document : Document) (report : Report) → MakesCalls command → IsAnswered command document report → Promised command document report
promised commands.Run document report makes is = record {
  events = is.events;
  state = is.state;
  complete = is.tells.complete;
  given = tt;
  final = is.tells.of;
  causes = is.tells.lines;
  source = taken_for_proper document is.events is.state report is.tells;
  legal = is.tells.legal;
}
promised commands.Replay document report makes is = record {
  events = is.replaying.events;
  state = is.replaying.state;
  complete = is.tells.complete;
  given = (is.replaying, is.given, refl, refl);
  final = is.tells.of;
  causes = is.tells.lines;
  source = taken_for_proper document is.replaying.events is.replaying.state report is.tells;
  legal = is.tells.legal;
}
promised commands.Epochs document report makes is = record {
  events = is.events;
  state = is.state;
  complete = is.tells.complete;
  final = is.tells.of;
  causes = is.tells.lines;
  source = epochs_for_proper document is.events is.state report is.tells;
  legal = is.tells.legal;
  restarts = is.tells.restarts;
}
promised commands.Check document report makes is = absurd is
promised commands.Compile document report makes is = absurd is
promised commands.Show document report makes is = absurd is
promised commands.Upgrade document report makes is = absurd is
promised commands.Certify document report makes is = absurd is

-- ---- the whole

appended : (old new : Option (List ℕ)) (written text : List ℕ) → old ≡ Some written → Appends old new text → new ≡ Some (written ++ text)
appended None new written text told added = let no : None ≡ Some written = told in cc
appended (Some held) None written text told added = absurd added
appended (Some held) (Some holds) written text told added = ap (λ (l : List ℕ). Some l) added ∙ ap (λ (o : Option (List ℕ)). Some (unwrap_or o [] ++ text)) told

done : (command : Command) (old new held holds : Option (List ℕ)) (before now earlier later : ℕ) (verdict : Verdict) (status : Status) (given : Premises command old held before now earlier later status)
    → IsOfSource DOCUMENT_LIMIT (IsOfBytes command) old new before now verdict → status ≡ status_for verdict → Appends held holds (text_for verdict) → IsPrinted command given.bytes_told.document given.written holds status
done command old new held holds before now earlier later verdict status given judged same added =
    let it = source_told command old new before now verdict given.calls given.bytes_told given.reads (λ memory. given.memory (same ∙ memory)) judged in
    record {
      report = it.report;
      printed = appended held holds given.written (report_text it.report) given.text_told (subst (λ (v : Verdict). Appends held holds (text_for v)) it.same added);
      answered = same ∙ ap status_for it.same;
      promise = promised command given.bytes_told.document it.report given.calls it.answered;
    }

pub headline : (request : Option Request) (old new held holds : Option (List ℕ)) (before now earlier later : ℕ) (verdict : Verdict) (status : Status) → IsOfRequest request old new before now verdict
    → IsSaid held holds earlier later (text_for verdict) (status_for verdict) status → Headline request old held holds before now earlier later status
headline (Some (requests.OfDocument command)) old new held holds before now earlier later verdict status judged said = λ given.
    ⊎_elim (λ whole. done command old new held holds before now earlier later verdict status given judged whole.0 whole.2) (λ stopped. absurd (given.writes stopped.1)) said
headline _ old new held holds before now earlier later verdict status judged said = tt
