-- The laws of the simulation, of one complete run.
use Rattle.std.proofs.Common.{◌≡◌}
use Rattle.barrier_check.specs.Paired.{Paired, IsSound}
use Rattle.caller_parts.specs.Settings.{Setting, Fits, IsSetting}
use Rattle.target_laws.specs.target_runs.Runnable.{MayBeWalked}
use Rattle.oa_simulation.proofs.Refining.{refines}
use Rattle.run_laws.proofs.begin_laws.ScriptsBegun.{scripts_begin}
use Rattle.run_laws.proofs.guarded_claims.Law.{no_guarded_claim}
use Rattle.run_laws.proofs.stale_laws.Passing.{no_stale_pass}
use Rattle.run_laws.proofs.lone_claims.Together.{lone_claims}
use Rattle.run_laws.specs.Source.{RunsFollowSource}
use Rattle.caller_parts.specs.declared.setting.Reclamation.TheVariants.{Optimistic}

pub follows : (pair : Paired) (setting : Setting) → IsSound pair → IsSetting setting → Fits pair.target setting → setting.reclamation ≡ Optimistic → RunsFollowSource pair.target pair.source setting
follows pair setting sound own fits optimistic proper scripts fuel events state some complete =
    let may : MayBeWalked pair.target pair.source = record { small = sound.small; normal = sound.normal; within = sound.within; erases = sound.barred.erases } in
    record {
      refined = refines pair.target pair.source setting events state may sound.barred own fits optimistic proper complete.run.runs;
      refined_so_far = λ before later there part runs. refines pair.target pair.source setting before there may sound.barred own fits optimistic proper runs;
      begins = (scripts_begin pair.target setting).each optimistic pair.source scripts fuel events state some complete;
      guarded = λ before later there part runs. no_guarded_claim pair setting sound own fits optimistic proper before there runs;
      warned = λ before later there part runs. no_stale_pass pair setting sound own fits optimistic proper before there runs;
      lone = λ one before later there part runs. lone_claims pair setting sound own fits optimistic proper one before there runs;
    }
