-- Documents that differ only in the lines of their calls are replayed alike: so is a document beside its canonical spelling.
use Rattle.std.specs.Prelude.{◌≡◌, ◌↔◌, ◌||◌, ◌==◌, option_map, if◌then◌else◌}
use Rattle.core_runs.specs.Machine.{CoreState}
use Rattle.documents.specs.declared.document.Document.{Document}
use Rattle.document_spelling.specs.SpellingLaws.{AreAlike}
use Rattle.script_plans.specs.declared.fault.ShapeFault.{ShapeFault}
use Rattle.script_plans.specs.Plans.{IsRunnable}
use Rattle.document_runs.specs.Reports.{report_of}
use Rattle.document_runs.specs.Runs.{replay_given, replay_fault}

-- a fault without the line of a call, which is the place of faults 8 and 9
abbrev pub without_line : ShapeFault → ShapeFault
without_line fault = if (fault.number == 8) || (fault.number == 9) then record fault { at = 0 } else fault

-- both can be run or neither; what is wrong with their shapes is the same but for the line of a call; their schedules give the same; and the
-- reports of a state are the same
pub record AreReplayedAlike (one other : Document) : Type 0 where
  pub runnable : IsRunnable one ↔ IsRunnable other
  pub fault : option_map without_line (replay_fault one) ≡ option_map without_line (replay_fault other)
  pub given : replay_given one ≡ replay_given other
  pub report : (state : CoreState) → report_of one state ≡ report_of other state

abbrev pub AlikeDocumentsAreReplayedAlike : Type 0
AlikeDocumentsAreReplayedAlike = (one other : Document) → AreAlike one other → AreReplayedAlike one other
