-- One step of a claim: how the claim ends, and what the step then found.
use Rattle.std.proofs.Common.{◌≡◌, ℕ, zero, ◌==◌, Bool, true, false, Option, Some, None, refl, ◌∙◌, ap, arith, if◌then◌else◌}
use Rattle.std.proofs.lemmas.Bool.Decides.{nat_tests}
use Rattle.oa_words.specs.declared.packed.Kind.TheVariants as kinds
use Rattle.oa_words.specs.Words.{Phase}
use Rattle.oa_words.specs.Packed.{StatusParts, status_parts, status_word, head_parts, head_word}
use Rattle.phase_pools.specs.declared.access.ClaimEnd.{ClaimEnd}
use Rattle.phase_pools.specs.declared.access.ClaimEnd.TheVariants as ends
use Rattle.phase_pools.specs.declared.access.SweepEnd.{SweepEnd}
use Rattle.phase_pools.specs.declared.access.SweepEnd.TheVariants as swept
use Rattle.phase_pools.specs.declared.stages.SweepStage.{SweepStage}
use Rattle.phase_pools.specs.declared.stages.SweepStage.TheVariants as sweeps
use Rattle.phase_pools.specs.declared.stages.ClaimStage.{ClaimStage}
use Rattle.phase_pools.specs.declared.stages.ClaimStage.TheVariants as claims
use Rattle.phase_pools.specs.Accesses.{Loads}
use Rattle.oa_words.specs.SlotKinds.{kind_of}
use Rattle.phase_pools.specs.declared.stages.Scheme.{Scheme}
use Rattle.phase_pools.specs.declared.stages.Scheme.TheVariants.{Warned, Announced}
use Rattle.phase_pools.specs.Pools.{Sweep, warn_wanted, sweep_follows, sweep_wants_at, sweep_goes, sweep_ends, sweep_on, sweep_accepts, sweep_accepts_at, status_read, Claim, claim_wants, claim_wants_at, claim_accepts, claim_accepts_at, claim_goes, claim_ends, look_ended, look_begun, sweep_ended}
use Rattle.phase_pools.proofs.Statuses.{from_slot, from_status}
use Rattle.caller_parts.specs.declared.routine.Routine.TheVariants.{Claims}
use Rattle.caller_parts.specs.Settings.{Setting}
use Rattle.claim_laws.specs.CallSteps.{StepMade}
use Rattle.claim_laws.specs.Causes.{FindsNoTop}

-- ---- sweeps

-- only the load of the phase ends a sweep for want of phases
abbrev SweepGives : Setting → SweepStage → ℕ → Option SweepEnd → Type 0
SweepGives setting stage word (Some (swept.PhasesOver p)) = (p ≡ setting.last) × (word ≡ p) × (stage ≡ sweeps.ReadPhase)
SweepGives setting stage word _ = Unit {0}

module _ (setting : Setting) (sweep : Sweep) where
  on_gives : (stage : SweepStage) (word j : ℕ) → SweepGives setting stage word (sweep_on setting.sizes sweep j).ended
  on_gives stage word j = from_slot (λ turn. SweepGives setting stage word turn.ended) setting.sizes sweep j (λ more. tt) tt

  status_gives : (stage : SweepStage) (word j : ℕ) (parts : Option StatusParts) → SweepGives setting stage word (status_read setting.sizes sweep j parts).ended
  status_gives stage word j parts = from_status (λ turn. SweepGives setting stage word turn.ended) setting.sizes sweep j parts (on_gives stage word j) (λ p is below away. tt)

  sweep_gives : (word : ℕ) (stage : SweepStage) → SweepGives setting stage word (sweep_accepts_at setting.sizes setting.last sweep word stage).ended
  sweep_gives word sweeps.ReadPhase = of (word == setting.last) refl where
    of : (b : Bool) → (word == setting.last) ≡ b
        → SweepGives setting sweeps.ReadPhase word (if b then sweep_ends sweep (swept.PhasesOver word) else sweep_goes sweep (sweeps.RaisePhase word)).ended
    of true is = let same : word ≡ setting.last = grind (arith, nat_tests) in (same, refl, refl)
    of false is = tt
  sweep_gives word (sweeps.ReadStatus j) = status_gives (sweeps.ReadStatus j) word j (status_parts word)
  sweep_gives word (sweeps.MakeReady j q) = of (word == status_word q kinds.Retired) where
    of : (b : Bool) → SweepGives setting (sweeps.MakeReady j q) word (if b then sweep_goes sweep (sweeps.PushHead (kind_of setting.sizes j) j) else sweep_on setting.sizes sweep j).ended
    of true = tt
    of false = on_gives (sweeps.MakeReady j q) word j
  sweep_gives word (sweeps.PushTop k j q t) = of (word == head_word setting.sizes.tops q t) where
    of : (b : Bool) → SweepGives setting (sweeps.PushTop k j q t) word (if b then sweep_on setting.sizes sweep j else sweep_goes sweep (sweeps.PushHead (kind_of setting.sizes j) j)).ended
    of true = on_gives (sweeps.PushTop k j q t) word j
    of false = tt
  sweep_gives word _ = tt

-- ---- claims

module _ (setting : Setting) (s : StepMade) (claim : Claim) (there : s.entry.routine ≡ Claims claim) where
  abbrev pub GivesAt : Option ClaimEnd → Type 0
  GivesAt None = Unit {0}
  GivesAt (Some (ends.Claimed j)) = Unit {0}
  GivesAt (Some ends.Full) = FindsNoTop setting s
  GivesAt (Some (ends.PhasesOver p)) = (p ≡ setting.last) × (s.found ≡ p) × (claim_wants claim ≡ Loads Phase)

  follows_gives : (scheme : Scheme) (made : ℕ) → GivesAt (sweep_follows scheme made claim).ended
  follows_gives (Announced own) zero = tt
  follows_gives _ _ = tt

  begun_gives : claim.stage ≡ claims.ReadHead → GivesAt (look_begun claim (head_parts setting.sizes.tops s.found)).ended
  begun_gives is = of ((head_parts setting.sizes.tops s.found).top == 0) refl (claim.sweeps == 2) refl where
    of : (b : Bool) → ((head_parts setting.sizes.tops s.found).top == 0) ≡ b → (d : Bool) → (claim.sweeps == 2) ≡ d
        → GivesAt (if b then (if d then claim_ends claim ends.Full else sweep_follows claim.sweep.scheme claim.sweeps claim)
        else claim_goes claim (claims.ReadLink (head_parts setting.sizes.tops s.found).phase (head_parts setting.sizes.tops s.found).top)).ended
    of true none true two = record { claim = claim; claims = there; sweeps = grind (arith, nat_tests); looks = is; empty = grind (arith, nat_tests) }
    of true none false two = follows_gives claim.sweep.scheme claim.sweeps
    of false none d two = tt

  swept_gives : (next : Sweep) (end : Option SweepEnd) → claim.stage ≡ claims.Sweeps → SweepGives setting claim.sweep.stage s.found end → GivesAt (sweep_ended claim next end).ended
  swept_gives next (Some (swept.PhasesOver p)) is gives =
      (gives.0, gives.1, ap (claim_wants_at claim.sweep.tops claim.kind claim.sweep) is ∙ ap (λ (stage : SweepStage). sweep_wants_at claim.sweep.tops claim.sweep.scheme stage claim.sweep.bound) gives.2)
  swept_gives next _ is gives = tt

  stage_gives : (stage : ClaimStage) → claim.stage ≡ stage → GivesAt (claim_accepts_at setting.sizes setting.last claim s.found stage).ended
  stage_gives claims.ReadHead is = begun_gives is
  stage_gives (claims.Take q t next) is = of (s.found == head_word setting.sizes.tops q t) where
    of : (b : Bool) → GivesAt (if b then claim_goes claim (claims.StoreUsed q t) else claim_goes claim claims.ReadHead).ended
    of true = tt
    of false = tt
  stage_gives claims.Sweeps is =
      let turn = sweep_accepts setting.sizes setting.last claim.sweep s.found in
      swept_gives turn.sweep turn.ended is (sweep_gives setting claim.sweep s.found claim.sweep.stage)
  stage_gives _ is = tt

  pub claim_gives : GivesAt (claim_accepts setting.sizes setting.last claim s.found).ended
  claim_gives = stage_gives claim.stage refl

-- ---- the other way

module _ (setting : Setting) (claim : Claim) (word : ℕ) where
  no_phase : (scheme : Scheme) (c s : ℕ) → warn_wanted scheme c s ≡ Loads Phase → ⊥
  no_phase Warned c s is = cc
  no_phase (Announced own) c s is = cc

  phase_ends : (stage : SweepStage) → sweep_wants_at claim.sweep.tops claim.sweep.scheme stage claim.sweep.bound ≡ Loads Phase → word ≡ setting.last
      → (sweep_accepts_at setting.sizes setting.last claim.sweep word stage).ended ≡ Some (swept.PhasesOver word)
  phase_ends sweeps.ReadPhase is last = let same : (word == setting.last) ≡ true = grind (arith, nat_tests) in
      ap (λ (b : Bool). (if b then sweep_ends claim.sweep (swept.PhasesOver word) else sweep_goes claim.sweep (sweeps.RaisePhase word)).ended) same
  phase_ends (sweeps.Warn c) is last = absurd (no_phase claim.sweep.scheme c claim.sweep.bound is)
  phase_ends _ is last = absurd cc

  over_ends : (next : Sweep) (end : Option SweepEnd) → end ≡ Some (swept.PhasesOver word) → (sweep_ended claim next end).ended ≡ Some (ends.PhasesOver word)
  over_ends next end is = rw is refl

  -- a sweep's load that finds the last phase ends the claim
  pub phases_end : (stage : ClaimStage) → claim_wants_at claim.sweep.tops claim.kind claim.sweep stage ≡ Loads Phase → word ≡ setting.last
      → (claim_accepts_at setting.sizes setting.last claim word stage).ended ≡ Some (ends.PhasesOver word)
  phases_end claims.Sweeps is last = let turn = sweep_accepts setting.sizes setting.last claim.sweep word in over_ends turn.sweep turn.ended (phase_ends claim.sweep.stage is last)
  phases_end _ is last = absurd cc

  -- a third look that finds no slot on top ends it too
  pub empty_ends : (stage : ClaimStage) → stage ≡ claims.ReadHead → claim.sweeps ≡ 2 → (head_parts setting.sizes.tops word).top ≡ 0 → (claim_accepts_at setting.sizes setting.last claim word stage).ended ≡ Some ends.Full
  empty_ends stage is two none =
      let here : ((head_parts setting.sizes.tops word).top == 0) ≡ true = grind (arith, nat_tests) in
      let second : (claim.sweeps == 2) ≡ true = grind (arith, nat_tests) in
      ap (λ (x : ClaimStage). (claim_accepts_at setting.sizes setting.last claim word x).ended) is
      ∙ (ap (λ (b : Bool). (if b then look_ended claim else claim_goes claim (claims.ReadLink (head_parts setting.sizes.tops word).phase (head_parts setting.sizes.tops word).top)).ended) here
      ∙ ap (λ (b : Bool). (if b then claim_ends claim ends.Full else sweep_follows claim.sweep.scheme claim.sweeps claim).ended) second)
