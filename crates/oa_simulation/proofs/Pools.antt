-- The pool beside the relation: what a claim has taken is ready, and what a caller retires is used.
use Rattle.std.proofs.Common.{ℕ, ◌≡◌, ◌≤◌, ◌<◌, ◌∙◌, sym, ap, subst, refl}
use Rattle.target_code.specs.declared.target.Target.{Target}
use Rattle.oa_words.specs.declared.packed.Kind.TheVariants as kinds
use Rattle.oa_words.specs.Words.{Word, Status}
use Rattle.oa_words.specs.Within.{AreKinds}
use Rattle.oa_words.specs.Starts.{Suits}
use Rattle.phase_pools.specs.declared.stages.ClaimStage.{ClaimStage}
use Rattle.phase_pools.specs.declared.stages.ClaimStage.TheVariants as claims
use Rattle.phase_pools.specs.Pools.{Claim, Retirement}
use Rattle.chain_laws.specs.Machine.{Elsewhere}
use Rattle.chain_laws.specs.Machine as pool
use Rattle.chain_laws.specs.Chains.{IsOf}
use Rattle.caller_parts.specs.declared.routine.AfterRetire.{AfterRetire}
use Rattle.caller_parts.specs.declared.routine.Routine.{Routine}
use Rattle.caller_parts.specs.declared.routine.Routine.TheVariants.{Retires, Claims}
use Rattle.caller_parts.specs.Settings.{Setting}
use Rattle.caller_steps.specs.Asking.{NewsFit}
use Rattle.caller_steps.specs.Entries.{Entry}
use Rattle.core_runs.specs.Machine.{CoreState, CoreEvent, beginning_of}
use Rattle.core_runs.specs.Views.{IsShaped, Moves, view}
use Rattle.core_runs.specs.core_sound.Standing.{standing_of}
use Rattle.core_runs.specs.core_pools.Pooled.{Pooled, RetiresUsed, standings}
use Rattle.core_runs.proofs.core_pools.Pooling.{leads_tell, event_pooled}
use Rattle.oa_simulation.specs.sim_relation.Views.{Plan, Retiring, Shared}
use Rattle.oa_simulation.specs.sim_relation.Shared.{SlotAt}
use Rattle.oa_simulation.specs.sim_relation.Callers.{HoldsAt, IsRetiring}
use Rattle.oa_simulation.specs.sim_relation.Steps.{TakenIsReady, TakesReady}
use Rattle.oa_simulation.proofs.sim_relation.Names.{slot_by}
use Rattle.oa_simulation.specs.Shadow.{Shadow}
use Rattle.oa_simulation.specs.Beside.{Beside}

-- who stands in a retirement is in that routine
pub retires_at : (routine : Routine) (own : Retirement) → standing_of routine ≡ pool.Retires own → (go : AfterRetire) × (routine ≡ Retires own go)
retires_at (Retires other go) own is = let same : other ≡ own = (let z : pool.Retires other ≡ pool.Retires own = is in cc) in (go, ap (λ (r : Retirement). Retires r go) same)
retires_at (Claims claim) own is = absurd (let z : pool.Claims claim ≡ pool.Retires own = is in cc)
retires_at _ own is = absurd (let z : Elsewhere ≡ pool.Retires own = is in cc)

-- a slot that a caller retires is used, and nobody else retires it
pub owners_retire : (setting : Setting) (state : CoreState) (s : Shared) → ((j : ℕ) → SlotAt s j) → ((j : ℕ) → s.memory (Status j) ≡ (view setting state).memory (Status j))
    → ((c : ℕ) (own : Retirement) → c < setting.sizes.callers → standings (view setting state).who c ≡ pool.Retires own → s.owner own.slot ≡ Retiring c) → RetiresUsed setting (view setting state).memory (standings (view setting state).who)
owners_retire setting state s slot status retiring = record {
  used = λ c own lt at. subst (λ (word : ℕ). IsOf kinds.Used word) (status own.slot) (slot_by s own.slot (Retiring c) (retiring c own lt at) (slot own.slot)).0;
  alone = λ c d one other lc ld at there same. (let both : Retiring c ≡ Retiring d = sym (retiring c one lc at) ∙ (ap s.owner same ∙ retiring d other ld there) in cc);
}

module _ (t : Plan) (state : CoreState) (z : Shadow) (b : Beside t state z) where
  retiring : (c : ℕ) (own : Retirement) → c < t.setting.sizes.callers → standings (view t.setting state).who c ≡ pool.Retires own → b.w.shared.owner own.slot ≡ Retiring c
  retiring c own lt at =
      let there = retires_at ((view t.setting state).who c).routine own at in
      let routine : (b.w.who c).entry.routine ≡ Retires own there.0 = ap (λ (e : Entry). e.routine) (b.entry c lt) ∙ there.1 in
      let spot : HoldsAt t b.w.shared c (b.w.who c) (Retires own there.0) = subst (λ (r : Routine). HoldsAt t b.w.shared c (b.w.who c) r) routine (b.holds.caller_holds c lt).spot in
      let k : IsRetiring b.w.shared c own.slot spot.0.0 _ = spot.0.1 in
      k.owner

  pub retires_used : RetiresUsed t.setting (view t.setting state).memory (standings (view t.setting state).who)
  retires_used = owners_retire t.setting state b.w.shared b.holds.shared_holds.slot (λ j. ap (λ (memory : Word → ℕ). memory (Status j)) b.memory) retiring

-- each event goes on to a state of the pool
pub pool_goes : (t : Plan) (state behind : CoreState) (z' : Shadow) (event : CoreEvent) → AreKinds t.setting.sizes → t.setting.sizes.slots < t.setting.sizes.tops → NewsFit t.target t.setting.sizes → Suits t.setting.sizes (beginning_of t.target t.setting) → IsShaped t.target t.setting state
    → Moves t.target t.setting (view t.setting state) event (view t.setting behind) → Pooled t.target t.setting state → Beside t behind z' → Pooled t.target t.setting behind
pool_goes t state behind z' event are few news suits shaped m pooled b = event_pooled t.target t.setting are few suits news state behind event shaped m pooled (retires_used t behind z' b)

-- what a claim has taken is ready until the claim stores that it is used
pub takes_ready : (target : Target) (setting : Setting) (state : CoreState) (c : ℕ) → AreKinds setting.sizes → setting.sizes.slots < setting.sizes.tops → Suits setting.sizes (beginning_of target setting) → Pooled target setting state → TakesReady (view setting state).memory ((view setting state).who c).routine
takes_ready target setting state c are few suits pooled = of ((view setting state).who c).routine refl where
  in_claim : (claim : Claim) → standings (view setting state).who c ≡ pool.Claims claim → (stage : ClaimStage) → claim.stage ≡ stage → TakenIsReady (view setting state).memory stage
  in_claim claim at claims.ReadHead is = tt
  in_claim claim at (claims.ReadLink q j) is = tt
  in_claim claim at (claims.Take q j next) is = tt
  in_claim claim at (claims.StoreUsed q j) is = ((leads_tell target setting are few suits _ pooled.1).taken c claim q j at is).2
  in_claim claim at (claims.Withdraw own) is = tt
  in_claim claim at claims.Sweeps is = tt

  of : (routine : Routine) → ((view setting state).who c).routine ≡ routine → TakesReady (view setting state).memory routine
  of (Claims claim) is = in_claim claim (ap standing_of is) claim.stage refl
  of _ is = tt
