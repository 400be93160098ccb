-- All callers beside what they share.
use Rattle.std.specs.Prelude.{ℕ, ◌<◌}
use Rattle.oa_words.specs.Words.{Word}
use Rattle.source_machine.specs.MethodRuns.{put}
use Rattle.caller_steps.specs.Signs.{Moved}
use Rattle.oa_simulation.specs.sim_relation.Views.{Plan, Shared}
use Rattle.epoch_relation.specs.Reckoned.{EpochHolds}
use Rattle.epoch_relation.specs.Callers.{Caller}
use Rattle.epoch_relation.specs.Walking.{CallerHolds}
use Rattle.epoch_relation.specs.Keeping.{KeptWith}

-- what they share, the phase word at each caller's last announcement, and each caller
pub record World : Type 0 where
  pub shared : Shared
  pub since : ℕ → ℕ
  pub who : ℕ → Caller

pub record Holds (t : Plan) (w : World) : Type 0 where
  pub shared_holds : EpochHolds t w.shared w.since
  pub caller_holds : (d : ℕ) → d < t.setting.sizes.callers → CallerHolds t w.shared w.since d (w.who d)

-- after a step that is kept
abbrev pub after_step : (t : Plan) (c : ℕ) (w : World) (memory' : Word → ℕ) (m : Moved) (present' : ℕ → ℕ) → KeptWith t c w.shared w.since (w.who c) memory' m present' → World
after_step t c w memory' m present' k = record { shared = k.s'; since = k.since'; who = put w.who c k.x' }

-- one caller is another
abbrev pub with_caller : World → ℕ → Caller → World
with_caller w c x = record w { who = put w.who c x }
