-- That what is printed of a document is what its text answers on memory that is never recycled.
use Rattle.std.specs.Prelude.{◌≡◌, ◌⊎◌, ℕ, ◌+◌, ◌≤◌, List, length, Some, slice_get}
use Rattle.std.specs.List.{All}
use Rattle.norm_lang.specs.declared.text.Text.{Text}
use Rattle.text_laws.specs.StandsFor.{ShippedText, IsShipped, spelled_use, shipped_text}
use Rattle.source_machine.specs.declared.state.SourceMachine.{SourceMachine}
use Rattle.source_machine.specs.Run.{source_replies}
use Rattle.norm_lang.specs.declared.reply.SourceReply.{SourceReply}
use Rattle.core_runs.specs.Machine.{CoreState, CoreEvent}
use Rattle.oa_simulation.specs.Shadow.{shadow}
use Rattle.run_laws.specs.Source.{FollowsSource}
use Rattle.documents.specs.declared.document.Document.{Document}
use Rattle.script_plans.specs.Shapes.{setting_of}
use Rattle.script_plans.specs.Plans.{target_of, calls_of}
use Rattle.document_runs.specs.declared.report.Answer.{Answer}
use Rattle.document_runs.specs.declared.report.Answer.TheVariants as answers
use Rattle.document_runs.specs.declared.report.ReportLine.{ReportLine}
use Rattle.document_runs.specs.declared.report.Report.{Report}

-- ---- a line against the source

-- a reply that is printed is the source's to this call, so that a call printed as `full` or `phases` was given up at its `new`; a
-- spent one has no reply there, or has ended there, by its last access or the local code after it, with a reply that isn't printed;
-- one that wasn't reached has no reply there
pub record IsSourceAnswer (machine : SourceMachine) (caller index : ℕ) (answer : Answer) : Type 0 where
  pub replied : (reply : SourceReply) → answer ≡ answers.Replied reply → slice_get (source_replies machine caller) index ≡ Some reply
  pub spent : answer ≡ answers.Spent → (length (source_replies machine caller) ≡ index) ⊎ (length (source_replies machine caller) ≡ index + 1)
  pub unreached : answer ≡ answers.Unreached → length (source_replies machine caller) ≤ index

abbrev pub IsSourceLine : SourceMachine → ReportLine → Type 0
IsSourceLine machine line = IsSourceAnswer machine line.caller line.index line.answer

-- ---- the whole

-- where the source is after the events that a run of a document gives it
abbrev pub source_of : Document → List CoreEvent → SourceMachine
source_of document events = (shadow (target_of document) document.text (setting_of document) events).machine

-- the run of a document is one of its text on memory that is never recycled, by all callers at once, which begins the calls of the
-- scripts in order; no validated guard's slot is given out, and no value read from a recycled slot passes its check (`run`); and each
-- printed line is what that run answers (`lines`)
pub record HasSourceRun (document : Document) (events : List CoreEvent) (state : CoreState) (report : Report) : Type 0 where
  pub run : FollowsSource (target_of document) document.text (setting_of document) (calls_of document) events state
  pub lines : All (IsSourceLine (source_of document events)) report.lines

-- ---- shipped texts

-- the words are `use list`, `use set B` with 1 to 64 buckets, or `use queue`, and the text is the one that they name
pub record IsNamed (words : List (List ℕ)) (text : Text) : Type 0 where
  pub shipped : ShippedText
  pub may_be : IsShipped shipped
  pub spelled : words ≡ spelled_use shipped
  pub same : text ≡ shipped_text shipped
