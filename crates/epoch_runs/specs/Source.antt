-- What a complete run of scripts under epochs has to do with memory that is never recycled.
use Rattle.std.specs.Prelude.{◌≡◌, ℕ, List}
use Rattle.norm_lang.specs.declared.text.Text.{Text}
use Rattle.norm_lang.specs.Limits.{IsWithinLimits}
use Rattle.norm_lang.specs.NormalForm.{IsNormal}
use Rattle.target_code.specs.declared.target.Target.{Target}
use Rattle.target_code.specs.Bare.{bare}
use Rattle.source_machine.specs.Proper.{IsProperFor}
use Rattle.caller_parts.specs.declared.call.Call.{Call}
use Rattle.caller_parts.specs.declared.setting.Reclamation.TheVariants.{Epochs}
use Rattle.caller_parts.specs.Settings.{Setting, Fits, IsSetting}
use Rattle.core_runs.specs.Machine.{CoreState, CoreEvent}
use Rattle.core_runs.specs.Scripts.{IsCompleteRun}
use Rattle.epoch_relation.specs.Simulated.{EpochSimulates}
use Rattle.run_laws.specs.Each.{AtEachState}
use Rattle.epoch_runs.specs.Begins.{EpochBeginsOfScripts}

-- the events that a run of scripts gives to the source, in order, are one run of its text by all callers at once, on memory that is never
-- recycled; its replies agree with the state in which the scripts' run ends, each exchange that comes next succeeds in both or in neither,
-- and each load that comes next has a base that is null or resident (`simulated`); so it is in each state on the way (`simulated_so_far`);
-- its begins are the calls of the scripts, in order
pub record FollowsEpochSource (target : Target) (text : Text) (setting : Setting) (scripts : List (List Call)) (fuel : ℕ) (events : List CoreEvent) (state : CoreState) : Type 0 where
  pub simulated : EpochSimulates target text setting events state
  pub simulated_so_far : AtEachState target setting events (EpochSimulates target text setting)
  pub begins : EpochBeginsOfScripts target text setting scripts fuel events state

-- each complete run of scripts does, if a text that is proper for the setting's callers is run as it is with a setting of epochs that fits it
abbrev pub EpochRunsFollowSource : Type 0
EpochRunsFollowSource = (text : Text) (setting : Setting) (scripts : List (List Call)) (fuel : ℕ) (events : List CoreEvent) (state : CoreState) → IsWithinLimits text → IsNormal text → IsSetting setting → Fits (bare text) setting
    → setting.reclamation ≡ Epochs → IsProperFor setting.sizes.callers text → IsCompleteRun (bare text) setting scripts fuel events state → FollowsEpochSource (bare text) text setting scripts fuel events state
