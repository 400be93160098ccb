-- Runs of scripts: each caller has a list of calls.
use Rattle.std.specs.Prelude.{◌≡◌, ℕ, ◌≤◌, ◌<◌, Bool, true, false, List, [], ◌∷◌, length, Some, slice_get, slice_index_or, All}
use Rattle.target_code.specs.declared.target.Target.{Target}
use Rattle.caller_parts.specs.declared.call.Call.{Call}
use Rattle.caller_parts.specs.declared.call.Running.{Running}
use Rattle.caller_parts.specs.Settings.{Setting}
use Rattle.caller_steps.specs.Entries.{Entry, is_idle}
use Rattle.caller_parts.specs.Calls.{AreCalls}
use Rattle.core_runs.specs.Machine.{CoreState, CoreEvent, core_run, core_start}
use Rattle.core_runs.specs.Histories.{calls_in}

-- the script of a caller
abbrev pub script_of : List (List Call) → ℕ → List Call
script_of scripts c = slice_index_or scripts c []

-- each caller has a script, of calls of the target
pub record SuitScripts (target : Target) (setting : Setting) (scripts : List (List Call)) : Type 0 where
  pub count : length scripts ≡ setting.sizes.callers
  pub calls : All (AreCalls target) scripts

-- calls were taken in the order of the script, and at most `fuel` steps made for each. That the one before had ended needs no
-- words: only an idle caller takes a call
abbrev pub AreOfScript : ℕ → List Call → List Running → Type 0
AreOfScript fuel script [] = Unit {0}
AreOfScript fuel [] (taken ∷ more) = ⊥
AreOfScript fuel (call ∷ script) (taken ∷ more) = (taken.call ≡ call) × (taken.steps ≤ fuel) × AreOfScript fuel script more

-- a core run of the scripts, from the start to a state
pub record IsRunOf (target : Target) (setting : Setting) (scripts : List (List Call)) (fuel : ℕ) (events : List CoreEvent) (state : CoreState) : Type 0 where
  pub runs : core_run target setting events (core_start target setting) ≡ Some state
  pub of : (c : ℕ) → c < setting.sizes.callers → AreOfScript fuel (script_of scripts c) (calls_in c events)

-- the steps made for the last call
abbrev pub last_steps : List Running → ℕ
last_steps [] = 0
last_steps (x ∷ []) = x.steps
last_steps (x ∷ y ∷ rest) = last_steps (y ∷ rest)

-- an idle caller has ended its script; one that runs has made `fuel` steps for its call, so that it takes no further one
abbrev pub HasEnded : ℕ → List Call → List Running → Bool → Type 0
HasEnded fuel script calls true = length calls ≡ length script
HasEnded fuel script calls false = last_steps calls ≡ fuel

-- a run of scripts is complete if each caller has ended its script, or has a call that was given `fuel` steps and hasn't ended
pub record IsCompleteRun (target : Target) (setting : Setting) (scripts : List (List Call)) (fuel : ℕ) (events : List CoreEvent) (state : CoreState) : Type 0 where
  pub run : IsRunOf target setting scripts fuel events state
  pub ended : (c : ℕ) (e : Entry) → slice_get state.entries c ≡ Some e → HasEnded fuel (script_of scripts c) (calls_in c events) (is_idle e.routine)
