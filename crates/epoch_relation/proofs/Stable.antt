-- What a step of one caller leaves of what is known of another.
use Rattle.std.proofs.Common.{ℕ, ◌≡◌, ◌≢◌, ◌≤◌, ◌<◌, ◌⊎◌, ◌∙◌, true, false, arith, inl, inr, ⊎_elim, sym, ap}
use Rattle.oa_words.specs.Words.{Phase}
use Rattle.phase_pools.specs.declared.stages.SweepStage.{SweepStage}
use Rattle.phase_pools.specs.declared.stages.SweepStage.TheVariants as sweeps
use Rattle.phase_pools.specs.Pools.{Sweep}
use Rattle.phase_pools.specs.declared.stages.ClaimStage.{ClaimStage}
use Rattle.phase_pools.specs.declared.stages.ClaimStage.TheVariants as claims
use Rattle.norm_lang.specs.Registers.{node_in}
use Rattle.caller_parts.specs.declared.routine.Announcing.{Announcing}
use Rattle.caller_parts.specs.declared.routine.Announcing.TheVariants as announces
use Rattle.caller_parts.specs.declared.routine.Routine.{Routine}
use Rattle.caller_parts.specs.declared.routine.Routine.TheVariants.{Idle, At, InList, Retires, Claims, Zeroes, Announces}
use Rattle.caller_steps.specs.Entries.{cradle_of}
use Rattle.oa_simulation.specs.sim_relation.Views.{Plan, Null, Held, Shared, link, Resident}
use Rattle.oa_simulation.specs.sim_relation.Callers.{tag_at}
use Rattle.oa_simulation.proofs.sim_relation.Names.{KeepsNames, residents_apart}
use Rattle.oa_simulation.proofs.sim_relation.Stable.{stable_retires, stable_zeroed}
use Rattle.epoch_relation.specs.Reckoned.{reckoned, EpochHolds}
use Rattle.epoch_relation.specs.Callers.{Caller, Base, IsSafe, IsAnnounced, Passed, SweepAt, ClaimAt, Changes}
use Rattle.epoch_relation.specs.Walking.{IsPlan, Trail, Pairs, IsLoaded, has_withdrawn, HoldsAt, AnnouncesAt, CallerHolds}
use Rattle.epoch_relation.proofs.Announcing.{stable_base}
use Rattle.epoch_relation.proofs.Local.{Standing, safe_here}
use Rattle.epoch_relation.proofs.Same.{Leaves, safe_kept, running_kept, behind_kept, goes_on_kept, claims_kept}

-- two steps' ends, seen from another caller
pub record Beside (t : Plan) (c d : ℕ) (s : Shared) (since : ℕ → ℕ) (s' : Shared) (since' : ℕ → ℕ) (x : Caller) : Type 0 where
  pub plan : IsPlan t
  pub goes : Changes t c s since s' since'
  pub before : EpochHolds t s since
  pub after : EpochHolds t s' since'
  pub other : d ≢ c
  pub below : d < t.setting.sizes.callers
  pub base : Base t s since d x

module _ (t : Plan) (c d : ℕ) (s : Shared) (since : ℕ → ℕ) (s' : Shared) (since' : ℕ → ℕ) (x : Caller) (b : Beside t c d s since s' since' x) where
  names : KeepsNames d s s'
  names = record { held = λ j k own. (let h = b.goes.goes.held j d k b.other own in (h.0, h.1)); public = b.goes.goes.public }

  stable_announced : IsAnnounced s d → IsAnnounced s' d
  stable_announced some = λ z. some (sym (b.goes.warning d b.other) ∙ z)

  standing : IsAnnounced s d → Standing t s' since' d x
  standing some = record { plan = b.plan; holds = b.after; base = stable_base t c d s since s' since' x b.goes b.before b.other b.base; below = b.below; announced = stable_announced some }

  stable_pairs : (m : Trail t) → IsAnnounced s d → ((r : ℕ) → IsSafe t s d x (node_in m.mirror r)) → Pairs t s m → Pairs t s' m
  stable_pairs m some safe pairs r e g = ⊎_elim
      (λ (same : link s' (node_in m.mirror r) g ≡ link s (node_in m.mirror r) g). λ at. same ∙ pairs r e g (ap t.home (sym same) ∙ at))
      (λ (k : Resident t s' (link s' (node_in m.mirror r) g) ⊎ (((k : ℕ) × (s'.owner (t.home (node_in m.mirror r)) ≡ Held c k)) × (s'.public (node_in m.mirror r) ≡ false))). ⊎_elim
      (λ (new : Resident t s' (link s' (node_in m.mirror r) g)). residents_apart t s' (link s' (node_in m.mirror r) g) (node_in m.mirror e) new (safe_here t s' since' d x (node_in m.mirror e) (standing some) (safe_kept t d s s' x names (node_in m.mirror e) (safe e))))
      (λ (fresh : ((k : ℕ) × (s'.owner (t.home (node_in m.mirror r)) ≡ Held c k)) × (s'.public (node_in m.mirror r) ≡ false)). absurd (not_theirs (node_in m.mirror r) (safe_kept t d s s' x names (node_in m.mirror r) (safe r)) fresh.0.0 fresh.0.1 fresh.1))
      k)
      (b.goes.goes.link (node_in m.mirror r) g)
    where
      not_theirs : (n : ℕ) → IsSafe t s' d x n → (k : ℕ) → s'.owner (t.home n) ≡ Held c k → s'.public n ≡ false → ⊥
      not_theirs n (inl z) k held private = let e : Null ≡ Held c k = sym b.after.holds.none_there ∙ (ap s'.owner (sym (ap t.home z ∙ b.plan.null)) ∙ held) in cc
      not_theirs n (inr (inl own)) k held private = b.other (let e : Held d own.0 ≡ Held c k = sym own.1 ∙ held in cc)
      not_theirs n (inr (inr public)) k held private = let e : true ≡ false = sym public.0 ∙ private in cc

  leaves : Leaves t d s s' since' x
  leaves = record { null = b.plan.null; after = b.after; names = names; announced = stable_announced; pairs = stable_pairs }

  -- ---- sweeps

  stable_passed : (low y : ℕ) → Passed t s since low y → Passed t s' since' low y
  stable_passed low y w = record {
    raised = let up = b.goes.goes.phase in let le = w.raised in omega (arith, up, le);
    passed = λ i lt. (let up = b.goes.goes.warning i in let le = w.passed i lt in omega (arith, up, le));
  }

  stable_sweep : (low : ℕ) (stage : SweepStage) → SweepAt t s since low stage → SweepAt t s' since' low stage
  stable_sweep low sweeps.ReadPhase w = tt
  stable_sweep low (sweeps.RaisePhase q) w = let up = b.goes.goes.phase in let le : q ≤ s.memory Phase = w in omega (arith, up, le)
  stable_sweep low (sweeps.Warn i) w = (stable_passed low i w.0, w.1)
  stable_sweep low (sweeps.ReadHazard i r) w = absurd w
  stable_sweep low (sweeps.MakeReady j q) w = (stable_passed low t.setting.sizes.callers w.0, w.1)
  stable_sweep low _ w = stable_passed low t.setting.sizes.callers w

  stable_claim : (sweep : Sweep) (stage : ClaimStage) → ClaimAt t s since d sweep stage → ClaimAt t s' since' d sweep stage
  stable_claim sweep claims.ReadHead w = tt
  stable_claim sweep claims.Sweeps w = stable_sweep sweep.low sweep.stage w
  stable_claim sweep _ w = w

  -- ---- where the caller stands

  stable_loaded : (p : ℕ) → IsLoaded s p → IsLoaded s' p
  stable_loaded p w = (w.0, let up = b.goes.goes.phase in let le = w.1 in omega (arith, up, le))

  stable_announces : (announcing : Announcing) → AnnouncesAt t s x announcing → AnnouncesAt t s' x announcing
  stable_announces (announces.Stores why p) w = (w.0, stable_loaded p w.1)
  stable_announces _ w = w

  stable_spot : (r : Routine) → HoldsAt t s since d x r → HoldsAt t s' since' d x r
  stable_spot Idle w = w
  stable_spot At w = running_kept t d s s' since' x leaves w
  stable_spot (InList k) w = behind_kept t d s s' since' x leaves k true w
  stable_spot (Retires retirement go) w = ((w.0.0, stable_retires t c d (reckoned s since) (reckoned s' since') retirement.slot w.0.0 (tag_at retirement.stage) b.goes.goes b.other w.0.1), goes_on_kept t d s s' since' x leaves go w.1)
  stable_spot (Claims claim) w = (w.0, stable_claim claim.sweep claim.stage w.1, claims_kept t d s s' since' x leaves (has_withdrawn claim.stage claim.sweeps) w.2)
  stable_spot (Zeroes k field) w = (w.0, stable_zeroed t c d k (reckoned s since) (reckoned s' since') (cradle_of x.entry k) field b.goes.goes b.other (b.base.cradle k w.0) w.1, running_kept t d s s' since' x leaves w.2)
  stable_spot (Announces announcing) w = stable_announces announcing w
  stable_spot _ w = absurd w

  -- all that is known of another caller stays
  pub stable : CallerHolds t s since d x → CallerHolds t s' since' d x
  stable w = record { base = stable_base t c d s since s' since' x b.goes b.before b.other w.base; spot = stable_spot x.entry.routine w.spot }
