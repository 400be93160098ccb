-- What a complete run of scripts has to do with memory that is never recycled.
use Rattle.std.specs.Prelude.{◌≡◌, ℕ, ◌≤◌, List}
use Rattle.norm_lang.specs.declared.text.Text.{Text}
use Rattle.target_code.specs.declared.target.Target.{Target}
use Rattle.source_machine.specs.Proper.{IsProperFor}
use Rattle.caller_parts.specs.declared.call.Call.{Call}
use Rattle.caller_parts.specs.Settings.{Setting}
use Rattle.core_runs.specs.Machine.{CoreState, CoreEvent}
use Rattle.core_runs.specs.Scripts.{IsCompleteRun}
use Rattle.oa_simulation.specs.Statements.{Refined}
use Rattle.run_laws.specs.begin_laws.Begins.{BeginsOfScripts}
use Rattle.run_laws.specs.guarded_claims.Guarded.{Spared}
use Rattle.run_laws.specs.stale_laws.Stale.{StaleLoadsAreWarned}
use Rattle.run_laws.specs.lone_claims.Lone.{LoneClaim}
use Rattle.run_laws.specs.Each.{AtEachState}

-- the events that a run of scripts gives to the source, in order, are one run of its text by all callers at once, on memory that is
-- never recycled; its replies agree with the state in which the scripts' run ends, and each exchange that comes next succeeds in both
-- or in neither (`refined`), and so it is in each state on the way (`refined_so_far`); its begins are the calls of the scripts, in order.
-- In each state on the way no slot is ready that a validated guard names, so that none such is given out; a load from a slot that was
-- given out again is followed by failed checks alone until its method begins again; and with one caller a claim ends with Full exactly
-- if every slot of its kind held a name that isn't retired
pub record FollowsSource (target : Target) (text : Text) (setting : Setting) (scripts : List (List Call)) (events : List CoreEvent) (state : CoreState) : Type 0 where
  pub refined : Refined target text setting events state
  pub refined_so_far : AtEachState target setting events (Refined target text setting)
  pub begins : BeginsOfScripts target text setting scripts events state
  pub guarded : AtEachState target setting events (Spared target setting)
  pub warned : AtEachState target setting events (StaleLoadsAreWarned target text setting)
  pub lone : setting.sizes.callers ≡ 1 → AtEachState target setting events (LoneClaim target text setting)

-- each complete run of scripts with fuel for at least one step does, if the text is proper for the setting's callers
abbrev pub RunsFollowSource : Target → Text → Setting → Type 0
RunsFollowSource target text setting = IsProperFor setting.sizes.callers text → (scripts : List (List Call)) (fuel : ℕ) (events : List CoreEvent) (state : CoreState) → 1 ≤ fuel
    → IsCompleteRun target setting scripts fuel events state → FollowsSource target text setting scripts events state
