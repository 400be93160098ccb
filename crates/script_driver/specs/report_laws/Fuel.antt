-- Calls that run out of fuel.
use Rattle.std.specs.Prelude.{◌≡◌, ◌↔◌, ℕ, false, List, [], length, Option, Some, None, slice_get}
use Rattle.target_code.specs.declared.target.Target.{Target}
use Rattle.caller_parts.specs.declared.call.Call.{Call}
use Rattle.caller_parts.specs.declared.call.Replied.{Replied}
use Rattle.caller_parts.specs.declared.call.Running.{Running}
use Rattle.caller_parts.specs.Settings.{Setting}
use Rattle.caller_steps.specs.Entries.{Entry, is_idle}
use Rattle.core_runs.specs.Machine.{CoreState, CoreEvent}
use Rattle.core_runs.specs.Histories.{calls_in}
use Rattle.core_runs.specs.Scripts.{IsCompleteRun}

-- the replies that a caller has got
abbrev pub replies_of : Option Entry → List Replied
replies_of None = []
replies_of (Some e) = e.replies

-- that to call i of the caller c
abbrev pub reply_to : CoreState → ℕ → ℕ → Option Replied
reply_to state c i = slice_get (replies_of (slice_get state.entries c)) i

-- call i of the caller c was taken, `fuel` steps were made for it, and it has no reply
pub record IsOutOfFuel (fuel : ℕ) (events : List CoreEvent) (state : CoreState) (c i : ℕ) : Type 0 where
  pub running : Running
  pub taken : slice_get (calls_in c events) i ≡ Some running
  pub made : running.steps ≡ fuel
  pub unanswered : reply_to state c i ≡ None

-- call i of the entry runs: it is the one after those that have a reply
pub record RunsStill (e : Entry) (i : ℕ) : Type 0 where
  pub busy : is_idle e.routine ≡ false
  pub last : i ≡ length e.replies

-- at the end of a complete run a call still runs exactly if it is out of fuel
pub record SpentCallsRanOut (target : Target) (setting : Setting) : Type 0 where
  pub each : (scripts : List (List Call)) (fuel : ℕ) (events : List CoreEvent) (state : CoreState) (c i : ℕ) (e : Entry) → IsCompleteRun target setting scripts fuel events state
      → slice_get state.entries c ≡ Some e → RunsStill e i ↔ IsOutOfFuel fuel events state c i
