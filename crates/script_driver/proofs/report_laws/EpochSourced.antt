-- What is printed under epochs is what the source answers, and its begins are those of the scripts.
use Rattle.std.proofs.Common.{◌≡◌, ◌+◌, List, length, refl}
use Rattle.target_laws.specs.target_runs.Runnable.{MayBeWalked as MayRun}
use Rattle.target_code.specs.Bare.{bare}
use Rattle.source_machine.specs.Proper.{IsProperFor}
use Rattle.caller_parts.specs.Settings.{Fits, IsSetting}
use Rattle.core_runs.specs.Machine.{CoreState, CoreEvent}
use Rattle.epoch_runs.specs.Source.{EpochRunsFollowSource}
use Rattle.documents.specs.declared.document.Document.{Document}
use Rattle.script_plans.specs.Shapes.{epoch_setting_of}
use Rattle.script_plans.specs.Plans.{calls_of}
use Rattle.document_runs.specs.Reports.{report_of}
use Rattle.document_runs.specs.Epochs.{IsCompleteEpochRunOf}
use Rattle.script_driver.specs.report_laws.Sources.{IsSourceLine}
use Rattle.script_driver.specs.report_laws.EpochSources.{epoch_source_of, HasEpochSourceRun}
use Rattle.script_driver.proofs.report_laws.EachLine.{every_line}
use Rattle.script_driver.proofs.report_laws.Sourced.{source_answer}

pub has_epoch_source_run : EpochRunsFollowSource → (document : Document) (events : List CoreEvent) (state : CoreState) → MayRun (bare document.text) document.text → IsSetting (epoch_setting_of document) → Fits (bare document.text) (epoch_setting_of document)
    → 0 + length document.scripts ≡ length state.entries → IsCompleteEpochRunOf document events state → IsProperFor (length document.scripts) document.text → HasEpochSourceRun document events state (report_of document state)
has_epoch_source_run follow document events state may own fits count complete proper =
    let run = follow document.text (epoch_setting_of document) (calls_of document) document.fuel events state may.small may.normal own fits refl proper complete in
    record {
      run = run;
      lines = every_line state (IsSourceLine (epoch_source_of document events)) (λ c i call e there. source_answer (epoch_source_of document events) state c e there (run.simulated.refined.agrees c e there) i) 0 document.scripts count;
    }
