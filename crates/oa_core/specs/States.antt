-- What holds in every state of a run.
use Rattle.target_code.specs.declared.target.Target.{Target}
use Rattle.caller_parts.specs.Settings.{Setting}
use Rattle.core_runs.specs.Machine.{CoreState, Reachable}
use Rattle.core_runs.specs.core_sound.Sound.{IsSound, StaysInRow}

-- wherever a list of enabled events leads: each caller's entry belongs, each word is lawful, and nothing leads out of the row
pub record RunsInRow (target : Target) (setting : Setting) : Type 0 where
  pub sound : (state : CoreState) → Reachable target setting state → IsSound target setting state
  pub stays : (state : CoreState) → Reachable target setting state → StaysInRow target setting state
