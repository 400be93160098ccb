-- A core state of callers under epochs, beside its shadow.
use Rattle.std.specs.Prelude.{ℕ, ◌≡◌, ◌<◌, true, false, Some, slice_get}
use Rattle.source_machine.specs.MethodRuns.{Watched}
use Rattle.caller_parts.specs.Calls.{is_call}
use Rattle.caller_steps.specs.Entries.{is_idle}
use Rattle.core_runs.specs.Machine.{CoreState}
use Rattle.core_runs.specs.Views.{view}
use Rattle.oa_simulation.specs.sim_relation.Views.{Plan}
use Rattle.oa_simulation.specs.Beside.{Sourced}
use Rattle.oa_simulation.specs.Shadow.{Shadow}
use Rattle.epoch_relation.specs.Worlds.{World, Holds}

pub record Beside (t : Plan) (state : CoreState) (z : Shadow) : Type 0 where
  pub w : World
  pub v : Watched
  pub holds : Holds t w
  pub memory : w.shared.memory ≡ (view t.setting state).memory
  pub entry : (d : ℕ) → d < t.setting.sizes.callers → (w.who d).entry ≡ (view t.setting state).who d
  pub sourced : Sourced t.text t.setting.sizes.callers z v
  pub source : v.machine.memory ≡ w.shared.source
  pub caller : (d : ℕ) → d < t.setting.sizes.callers → slice_get v.machine.callers d ≡ Some (w.who d).source
  pub run : (d : ℕ) → d < t.setting.sizes.callers → v.runs d ≡ (w.who d).watch
  pub unused : z.unused ≡ w.shared.unused
  -- a call that runs is one of the target's
  pub called : (d : ℕ) → d < t.setting.sizes.callers → is_idle ((view t.setting state).who d).routine ≡ false → is_call t.target ((view t.setting state).who d).running.call ≡ true
