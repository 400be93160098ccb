-- All callers beside what they share.
use Rattle.std.specs.Prelude.{ℕ, ◌<◌}
use Rattle.oa_simulation.specs.sim_relation.Views.{Plan, Shared, Caller}
use Rattle.oa_simulation.specs.sim_relation.Shared.{SharedHolds}
use Rattle.oa_simulation.specs.sim_relation.Callers.{CallerHolds}

pub record World : Type 0 where
  pub shared : Shared
  pub who : ℕ → Caller

pub record Holds (t : Plan) (w : World) : Type 0 where
  pub shared_holds : SharedHolds t w.shared
  pub caller_holds : (d : ℕ) → d < t.setting.sizes.callers → CallerHolds t w.shared d (w.who d)
