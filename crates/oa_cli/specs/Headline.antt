-- The headline: what is promised of that which `run`, `replay` and `epochs` print, with all its premises.
--
--     For every accepted document whose text is proper, and however its callers' steps interleave, the printed replies are those of one run
--     of its text on memory that is never recycled; replies and printed counts are those of the core's one final state; no slot is given
--     out again while a validated guard names it; no value read from a recycled slot passes its check. For a document with a `use` line
--     the printed replies have one legal history: that of a set, or of a queue, which is empty at first.
--
-- Under epochs there are no guards and no checks: no load goes to what was recycled.
--
-- It is the clause `headline` of `oa_main`. The clause `judged` implies it, by this chain of definitions:
--
--     oa_cli/specs/Judged                        IsJudged, IsOfRequest, IsOfSource, IsOfInput, IsOfBytes, IsOfRead, IsOfDocument, IsAnswered
--     script_driver/specs/report_laws/Runs       IsRunReport, IsReplayReport
--     script_driver/specs/report_laws/Lines      TellsOf, IsTrueLine
--     script_driver/specs/report_laws/Sources    HasSourceRun, IsSourceLine
--     script_driver/specs/report_laws/Legal      HasLegalHistory, Shows
--     run_laws/specs/Source                      FollowsSource
--     run_laws/specs/Each                        AtEachState
--
-- and for `epochs` by EpochsTellOf (script_driver/specs/report_laws/EpochLines), HasEpochSourceRun (EpochSources),
-- FollowsEpochSource (epoch_runs/specs/Source), EpochSimulates (epoch_relation/specs/Simulated)
--
-- and on from there to what each part says:
--
--     oa_simulation/specs/Statements           Refined: a run of the source machine, whose replies agree
--     run_laws/specs/begin_laws/Begins         BeginsOfScripts: it begins the calls of the scripts in order
--     run_laws/specs/guarded_claims/Guarded    Spared: no claim takes a slot that a validated guard names
--     run_laws/specs/stale_laws/Stale          StaleLoadsAreWarned: a check after a load from a recycled slot fails
--     source_machine/specs/Proper              IsProper
--     histories/specs/Histories                HasLegalOrder: an order of calls that a set or a queue explains
use Rattle.std.specs.Prelude.{◌≡◌, ◌≢◌, ◌⊎◌, ℕ, List, ◌++◌, Option, Some, None, Ok, slice_get}
use Rattle.std.specs.List.{All}
use Rattle.norm_lang.specs.declared.text.Text.{Text}
use Rattle.source_machine.specs.Proper.{IsProper}
use Rattle.caller_steps.specs.Entries.{Entry}
use Rattle.core_runs.specs.Machine.{CoreState, CoreEvent}
use Rattle.core_runs.specs.Replays.{Replaying}
use Rattle.oa_text.specs.Causes.{Rose}
use Rattle.documents.specs.declared.document.Document.{Document}
use Rattle.document_runs.specs.declared.report.Report.{Report}
use Rattle.document_runs.specs.Reports.{report_of}
use Rattle.document_runs.specs.Epochs.{IsCompleteEpochRunOf}
use Rattle.document_runs.specs.Runs.{IsCompleteRunOf, replay_given}
use Rattle.document_runs.specs.Texts.{is_partial, report_text}
use Rattle.script_driver.specs.report_laws.EpochLines.{CountsRestarts, IsTrueEpochLine}
use Rattle.script_driver.specs.report_laws.EpochSources.{HasEpochSourceRun}
use Rattle.script_driver.specs.report_laws.Legal.{HasLegalHistory}
use Rattle.script_driver.specs.report_laws.Lines.{IsTrueLine}
use Rattle.script_driver.specs.report_laws.Sources.{HasSourceRun, IsNamed}
use Rattle.statuses.specs.declared.status.Status.{Status}
use Rattle.statuses.specs.declared.status.Status.TheVariants as statuses
use Rattle.command_input.specs.declared.command.Command.{Command}
use Rattle.command_input.specs.declared.command.Command.TheVariants as commands
use Rattle.command_input.specs.declared.command.Request.{Request}
use Rattle.command_input.specs.declared.command.Request.TheVariants as requests
use Rattle.oa_cli.specs.Complete.{HasAccepted}
use Rattle.oa_cli.specs.verdicts.Telling.{status_if}

-- ---- the premises

-- the command makes a document's calls and prints their answers
abbrev pub MakesCalls : Command → Type 0
MakesCalls commands.Run = Unit {0}
MakesCalls commands.Replay = Unit {0}
MakesCalls commands.Epochs = Unit {0}
MakesCalls commands.Check = ⊥
MakesCalls commands.Compile = ⊥
MakesCalls commands.Show = ⊥
MakesCalls commands.Upgrade = ⊥
MakesCalls commands.Certify = ⊥

-- `bytes_told`: the source tells its bytes, which are a document that the command accepts. `text_told`: the sink tells what was written to
-- it before the call. `memory`: memory suffices. `reads`, `writes`: no fault is counted in the call. The counts are exact, by what the
-- traits Source and Sink ask of their calls: an Ok leaves the count as it was, and a fault raises it by one; a count that has come to
-- 2^64 - 1 tells nothing more
pub record Premises (command : Command) (left held : Option (List ℕ)) (read_before read_now write_before write_now : ℕ) (status : Status) : Type 0 where
  pub calls : MakesCalls command
  pub bytes_told : HasAccepted command left
  pub written : List ℕ
  pub text_told : held ≡ Some written
  pub reads : ¬ Rose read_before read_now
  pub writes : ¬ Rose write_before write_now
  pub memory : status ≢ statuses.Memory

-- `proper`: the one premise on a text. It is no premise for a shipped one: a text that a `use` line names
abbrev pub IsTakenForProper : Text → Type 0
IsTakenForProper text = IsProper text ⊎ ((words : List (List ℕ)) × IsNamed words text)

-- ---- the promise

-- for `replay` the run is the one that the turns of the document's schedule give
abbrev pub IsGiven : Command → Document → List CoreEvent → CoreState → Type 0
IsGiven commands.Run document events state = Unit {0}
IsGiven commands.Replay document events state = (r : Replaying) × (replay_given document ≡ Ok r) × (events ≡ r.events) × (state ≡ r.state)
IsGiven _ document events state = ⊥

-- There is a complete run of the document, in which the callers' steps may interleave in whatever order (`complete`), and replies and printed
-- counts are those of the one state in which it ends (`final`). A line says `phases`, `full`, `spent` or `unreached` exactly if the steps of
-- this run give cause to (`causes`). If the text is proper (`source`), the printed replies are those of one run of it on memory that is never
-- recycled: `lines` of HasSourceRun, and `refined` and `begins` of its `run`; no slot is given out again while a validated guard names it:
-- `guarded`; no value read from a recycled slot passes its check: `warned`. Of a text that a `use` line names (`legal`), the printed calls can
-- be put in one order, each once and each caller's in its own order, in which a set, or a queue, that is empty at first gives each printed
-- answer; a call printed `full`, `phases` or `unreached` changes nothing, and a spent one has its effect once or not at all.
pub record Promise (command : Command) (document : Document) (report : Report) : Type 0 where
  pub events : List CoreEvent
  pub state : CoreState
  pub complete : IsCompleteRunOf document events state
  pub given : IsGiven command document events state
  pub final : report ≡ report_of document state
  pub causes : All (IsTrueLine document events state) report.lines
  pub source : IsTakenForProper document.text → HasSourceRun document events state report
  pub legal : (words : List (List ℕ)) → IsNamed words document.text → HasLegalHistory report

-- Under epochs the run is one of the document's text as it is. If the text is proper, or is one that a `use` line names (`source`), the
-- printed replies are those of one run of it on memory that is never recycled, and the base of each load is null or resident: `lines` of
-- HasEpochSourceRun, and of its `run` `simulated`, `begins`, and `simulated_so_far`, which says it of each state on the way, as each load is made in
-- one. Of a text that a `use` line names the printed calls have a legal history (`legal`), as for `run`. Each caller has counted its restarts
-- (`restarts`).
pub record EpochPromise (document : Document) (report : Report) : Type 0 where
  pub events : List CoreEvent
  pub state : CoreState
  pub complete : IsCompleteEpochRunOf document events state
  pub final : report ≡ report_of document state
  pub causes : All (IsTrueEpochLine document events state) report.lines
  pub source : IsTakenForProper document.text → HasEpochSourceRun document events state report
  pub legal : (words : List (List ℕ)) → IsNamed words document.text → HasLegalHistory report
  pub restarts : (c : ℕ) (e : Entry) → slice_get state.entries c ≡ Some e → CountsRestarts document events c e

abbrev pub Promised : Command → Document → Report → Type 0
Promised commands.Epochs document report = EpochPromise document report
Promised command document report = Promise command document report

-- the whole text of a report was written, of which this is so, and the status tells whether each call returned: `Partial` if some line is
-- short, else `Done`
pub record IsPrinted (command : Command) (document : Document) (written : List ℕ) (holds : Option (List ℕ)) (status : Status) : Type 0 where
  pub report : Report
  pub printed : holds ≡ Some (written ++ report_text report)
  pub answered : status ≡ status_if (is_partial report)
  pub promise : Promised command document report

-- ---- the whole

abbrev pub Headline : Option Request → Option (List ℕ) → Option (List ℕ) → Option (List ℕ) → ℕ → ℕ → ℕ → ℕ → Status → Type 0
Headline None left held holds read_before read_now write_before write_now status = Unit {0}
Headline (Some requests.OfCertificate) left held holds read_before read_now write_before write_now status = Unit {0}
Headline (Some (requests.Workload count callers)) left held holds read_before read_now write_before write_now status = Unit {0}
Headline (Some (requests.OfDocument command)) left held holds read_before read_now write_before write_now status =
    (given : Premises command left held read_before read_now write_before write_now status) → IsPrinted command given.bytes_told.document given.written holds status
