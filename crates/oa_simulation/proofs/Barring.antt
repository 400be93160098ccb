-- The laws over a target that was verified.
use Rattle.std.proofs.Common.{◌≡◌}
use Rattle.barrier_check.specs.Paired.{Paired, IsSound}
use Rattle.caller_parts.specs.Settings.{Setting, Fits, IsSetting}
use Rattle.target_laws.specs.target_runs.Runnable.{MayBeWalked}
use Rattle.oa_simulation.specs.Relation.{QuietIsKept, RunsAreSimulated}
use Rattle.oa_simulation.proofs.QuietSteps.{keeps_quiet}
use Rattle.oa_simulation.proofs.Refining.{simulates}
use Rattle.caller_parts.specs.declared.setting.Reclamation.TheVariants.{Optimistic}

-- callers may run it
runnable : (pair : Paired) → IsSound pair → MayBeWalked pair.target pair.source
runnable pair s = record { small = s.small; normal = s.normal; within = s.within; erases = s.barred.erases }

pub quiet_steps_keep : (pair : Paired) (setting : Setting) → IsSound pair → IsSetting setting → Fits pair.target setting → setting.reclamation ≡ Optimistic → QuietIsKept pair.target pair.source setting
quiet_steps_keep pair setting sound own fits optimistic = keeps_quiet pair.target pair.source setting (runnable pair sound) sound.barred own fits optimistic

pub refines : (pair : Paired) (setting : Setting) → IsSound pair → IsSetting setting → Fits pair.target setting → setting.reclamation ≡ Optimistic → RunsAreSimulated pair.target pair.source setting
refines pair setting sound own fits optimistic = simulates pair.target pair.source setting (runnable pair sound) sound.barred own fits optimistic
