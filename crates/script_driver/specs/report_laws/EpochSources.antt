-- That what is printed of a document under epochs is what its text answers on memory that is never recycled.
use Rattle.std.specs.Prelude.{List}
use Rattle.std.specs.List.{All}
use Rattle.target_code.specs.Bare.{bare}
use Rattle.source_machine.specs.declared.state.SourceMachine.{SourceMachine}
use Rattle.core_runs.specs.Machine.{CoreState, CoreEvent}
use Rattle.oa_simulation.specs.Shadow.{shadow}
use Rattle.epoch_runs.specs.Source.{FollowsEpochSource}
use Rattle.documents.specs.declared.document.Document.{Document}
use Rattle.script_plans.specs.Shapes.{epoch_setting_of}
use Rattle.script_plans.specs.Plans.{calls_of}
use Rattle.document_runs.specs.declared.report.Report.{Report}
use Rattle.script_driver.specs.report_laws.Sources.{IsSourceLine}

-- where the source is after the events that a run of a document under epochs gives it
abbrev pub epoch_source_of : Document → List CoreEvent → SourceMachine
epoch_source_of document events = (shadow (bare document.text) document.text (epoch_setting_of document) events).machine

-- the run of a document under epochs is one of its text on memory that is never recycled, by all callers at once, which begins the calls of
-- the scripts in order, and the base of each load is null or resident (`run`); and each printed line is what that run answers (`lines`)
pub record HasEpochSourceRun (document : Document) (events : List CoreEvent) (state : CoreState) (report : Report) : Type 0 where
  pub run : FollowsEpochSource (bare document.text) document.text (epoch_setting_of document) (calls_of document) document.fuel events state
  pub lines : All (IsSourceLine (epoch_source_of document events)) report.lines
