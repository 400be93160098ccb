-- What the sweeps under way know of a slot that a hazard word names: one that is past the word has gathered the slot, if the name there
-- was retired before the sweep's phase.
use Rattle.std.proofs.Common.{ℕ, zero, ◌≡◌, ◌≢◌, ◌==◌, ◌+◌, ◌*◌, ◌≤◌, ◌<◌, ◌∙◌, Bool, true, false, List, Option, Some, None, arith, ⊎_elim, sym, ap, subst, refl, if◌then◌else◌}
use Rattle.std.specs.Prelude.{nat_lt}
use Rattle.std.proofs.lemmas.Bool.Decides.{nat_tests}
use Rattle.oa_words.specs.declared.packed.Kind.TheVariants as kinds
use Rattle.oa_words.specs.Words.{Sizes, Phase, slot_range}
use Rattle.oa_words.specs.SlotKinds.{kind_of}
use Rattle.oa_words.specs.Packed.{StatusParts, HeadParts, status_word, status_parts, head_word, head_parts}
use Rattle.guard_words.specs.Guards.{with_slot, has_slot}
use Rattle.phase_pools.specs.declared.access.ClaimEnd.{ClaimEnd}
use Rattle.phase_pools.specs.declared.access.ClaimEnd.TheVariants as ends
use Rattle.phase_pools.specs.declared.access.SweepEnd.{SweepEnd}
use Rattle.phase_pools.specs.declared.access.SweepEnd.TheVariants as swept
use Rattle.phase_pools.specs.declared.stages.Scheme.{Scheme}
use Rattle.phase_pools.specs.declared.stages.Scheme.TheVariants.{Warned, Announced}
use Rattle.phase_pools.specs.declared.stages.SweepStage.{SweepStage}
use Rattle.phase_pools.specs.declared.stages.SweepStage.TheVariants as sweeps
use Rattle.phase_pools.specs.declared.stages.ClaimStage.{ClaimStage}
use Rattle.phase_pools.specs.declared.stages.ClaimStage.TheVariants as claims
use Rattle.phase_pools.specs.Pools.{Claim, Sweep, sweep_accepts_at, sweep_goes, sweep_ends, sweep_on, status_read, made_ready, pushed, claim_accepts_at, claim_goes, claim_ends, look_ended, look_begun, look_took, sweep_follows, sweep_ended}
use Rattle.phase_pools.proofs.Statuses.{from_slot, from_status}
use Rattle.caller_parts.specs.declared.routine.Routine.{Routine}
use Rattle.caller_parts.specs.declared.routine.Routine.TheVariants.{Claims}
use Rattle.oa_simulation.specs.sim_relation.Views.{Plan, Shared}
use Rattle.oa_simulation.specs.sim_relation.Callers.{SweepAt, ClaimAt}
use Rattle.oa_simulation.specs.sim_relation.MayChange.{MayChange}
use Rattle.oa_simulation.proofs.sim_steps.Pools.Sweeping.{has_before, has_now, here_or_before}

abbrev pub Knows : Shared → ℕ → ℕ → List ℕ → Type 0
Knows s j p g = (q : ℕ) → s.tag (s.present j) ≡ Some q → q < p → has_slot g j ≡ true

-- by where the sweep stands, for the hazard word (d, r)
abbrev pub KnowsAt : Shared → ℕ → ℕ → ℕ → ℕ → List ℕ → SweepStage → Type 0
KnowsAt s d r j p g (sweeps.ReadHazard c i) = 8 * d + r < 8 * c + i → Knows s j p g
KnowsAt s d r j p g (sweeps.ReadStatus i) = Knows s j p g
KnowsAt s d r j p g (sweeps.MakeReady i q) = Knows s j p g
KnowsAt s d r j p g (sweeps.PushHead kind i) = Knows s j p g
KnowsAt s d r j p g (sweeps.PushLink i q top) = Knows s j p g
KnowsAt s d r j p g (sweeps.PushTop kind i q top) = Knows s j p g
KnowsAt s d r j p g _ = Unit {0}

abbrev pub KnowsIn : Shared → ℕ → ℕ → ℕ → Sweep → ClaimStage → Type 0
KnowsIn s d r j sweep claims.Sweeps = KnowsAt s d r j sweep.bound sweep.gathered sweep.stage
KnowsIn s d r j sweep _ = Unit {0}

abbrev pub KnowsWhere : Shared → ℕ → ℕ → ℕ → Routine → Type 0
KnowsWhere s d r j (Claims claim) = KnowsIn s d r j claim.sweep claim.stage
KnowsWhere s d r j _ = Unit {0}

-- ---- what a step leaves of it, of which the slot keeps its name: a new tag is at least the phase, which is at least each sweep's

module _ (t : Plan) (c : ℕ) (s s' : Shared) (goes : MayChange t c s s') (d r j : ℕ) (same : s'.present j ≡ s.present j) where
  stays_known : (p : ℕ) (g : List ℕ) → p ≤ s.memory Phase → Knows s j p g → Knows s' j p g
  stays_known p g raised k q is below = ⊎_elim
      (λ (was : s.tag (s'.present j) ≡ Some q). k q (ap s.tag (sym same) ∙ was) below)
      (λ (le : s.memory Phase ≤ q). absurd (omega (arith, raised, le, below)))
      (goes.tag (s'.present j) q is)

  stays_at : (p : ℕ) (g : List ℕ) (stage : SweepStage) → SweepAt t s p g stage → KnowsAt s d r j p g stage → KnowsAt s' d r j p g stage
  stays_at p g sweeps.ReadPhase w k = tt
  stays_at p g (sweeps.RaisePhase q) w k = tt
  stays_at p g (sweeps.Warn x) w k = tt
  stays_at p g (sweeps.ReadHazard x i) w k = λ past. stays_known p g w.0.raised (k past)
  stays_at p g (sweeps.MakeReady i q) w k = stays_known p g w.0.raised k
  stays_at p g _ w k = stays_known p g w.raised k

  pub stays_in : (sweep : Sweep) (stage : ClaimStage) → ClaimAt t s sweep stage → KnowsIn s d r j sweep stage → KnowsIn s' d r j sweep stage
  stays_in sweep claims.Sweeps w k = stays_at sweep.bound sweep.gathered sweep.stage w k
  stays_in sweep _ w k = tt

-- ---- what a sweep's own step makes of it

abbrev SweepKnows : Shared → ℕ → ℕ → ℕ → Sweep → Option SweepEnd → Type 0
SweepKnows s d r j sweep None = KnowsAt s d r j sweep.bound sweep.gathered sweep.stage
SweepKnows s d r j sweep (Some end) = Unit {0}

abbrev pub ClaimKnows : Shared → ℕ → ℕ → ℕ → Claim → Option ClaimEnd → Type 0
ClaimKnows s d r j claim None = KnowsIn s d r j claim.sweep claim.stage
ClaimKnows s d r j claim (Some end) = Unit {0}

-- the word that is found is the slot, if it is the hazard word (d, r)
abbrev pub FindsAt : ℕ → ℕ → ℕ → ℕ → SweepStage → Type 0
FindsAt d r j word (sweeps.ReadHazard c i) = (i < 8) × (d ≡ c → r ≡ i → word ≡ j)
FindsAt d r j word _ = Unit {0}

abbrev pub FindsIn : ℕ → ℕ → ℕ → ℕ → Sweep → ClaimStage → Type 0
FindsIn d r j word sweep claims.Sweeps = FindsAt d r j word sweep.stage
FindsIn d r j word sweep _ = Unit {0}

module _ (sizes : Sizes) (last : ℕ) (s : Shared) (d r j : ℕ) (low : r < 8) (some : j ≢ 0) where
  on_knows : (sweep : Sweep) (i : ℕ) → Knows s j sweep.bound sweep.gathered → SweepKnows s d r j (sweep_on sizes sweep i).sweep (sweep_on sizes sweep i).ended
  on_knows sweep i k = from_slot (λ turn. SweepKnows s d r j turn.sweep turn.ended) sizes sweep i (λ more. k) tt

  status_knows : (sweep : Sweep) (i : ℕ) (parts : Option StatusParts) → Knows s j sweep.bound sweep.gathered → SweepKnows s d r j (status_read sizes sweep i parts).sweep (status_read sizes sweep i parts).ended
  status_knows sweep i parts k = from_status (λ turn. SweepKnows s d r j turn.sweep turn.ended) sizes sweep i parts (on_knows sweep i k) (λ p is below away. k)

  made_knows : (sweep : Sweep) (i q word : ℕ) → Knows s j sweep.bound sweep.gathered → SweepKnows s d r j (made_ready sizes sweep i q word).sweep (made_ready sizes sweep i q word).ended
  made_knows sweep i q word k = of (word == status_word q kinds.Retired) where
    of : (b : Bool) → SweepKnows s d r j (if b then sweep_goes sweep (sweeps.PushHead (kind_of sizes i) i) else sweep_on sizes sweep i).sweep (if b then sweep_goes sweep (sweeps.PushHead (kind_of sizes i) i) else sweep_on sizes sweep i).ended
    of true = k
    of false = on_knows sweep i k

  pushed_knows : (sweep : Sweep) (i q top word : ℕ) → Knows s j sweep.bound sweep.gathered → SweepKnows s d r j (pushed sizes sweep i q top word).sweep (pushed sizes sweep i q top word).ended
  pushed_knows sweep i q top word k = of (word == head_word sizes.tops q top) where
    of : (b : Bool) → SweepKnows s d r j (if b then sweep_on sizes sweep i else sweep_goes sweep (sweeps.PushHead (kind_of sizes i) i)).sweep (if b then sweep_on sizes sweep i else sweep_goes sweep (sweeps.PushHead (kind_of sizes i) i)).ended
    of true = on_knows sweep i k
    of false = k

  gathers : (p x i word : ℕ) (g : List ℕ) → i < 8 → (d ≡ x → r ≡ i → word ≡ j) → (8 * d + r < 8 * x + i → Knows s j p g) → 8 * d + r < 8 * x + i + 1 → Knows s j p (with_slot g word)
  gathers p x i word g lt found k past q is below = ⊎_elim
      (λ (earlier : 8 * d + r < 8 * x + i). has_before g word j (k earlier q is below))
      (λ (here : (d ≡ x) × (r ≡ i)). let at : word ≡ j = found here.0 here.1 in has_now g word j (λ z. some (sym at ∙ z)) at)
      (here_or_before d r x i past low lt)

  hazard_knows : (p x i : ℕ) (g : List ℕ) → d < sizes.callers → i < 8 → (8 * d + r < 8 * x + i + 1 → Knows s j p g)
      → KnowsAt s d r j p g (if nat_lt (i + 1) 8 then sweeps.ReadHazard x (i + 1) else (if nat_lt (x + 1) sizes.callers then sweeps.ReadHazard (x + 1) 0 else sweeps.ReadStatus (slot_range sizes).last))
  hazard_knows p x i g caller lt k = of (nat_lt (i + 1) 8) refl where
    ended : (b : Bool) → nat_lt (i + 1) 8 ≡ false → nat_lt (x + 1) sizes.callers ≡ b → KnowsAt s d r j p g (if b then sweeps.ReadHazard (x + 1) 0 else sweeps.ReadStatus (slot_range sizes).last)
    ended true full is = λ past. (let seven : i ≡ 7 = grind (arith, nat_tests) in k (omega (arith, seven, past)))
    ended false full is =
        let seven : i ≡ 7 = grind (arith, nat_tests) in
        let most : sizes.callers ≤ x + 1 = grind (arith, nat_tests) in
        k (omega (arith, seven, most, caller, low))

    of : (b : Bool) → nat_lt (i + 1) 8 ≡ b → KnowsAt s d r j p g (if b then sweeps.ReadHazard x (i + 1) else (if nat_lt (x + 1) sizes.callers then sweeps.ReadHazard (x + 1) 0 else sweeps.ReadStatus (slot_range sizes).last))
    of true is = λ past. k (omega (arith, past))
    of false is = ended (nat_lt (x + 1) sizes.callers) is refl

  -- if the sweep warns the callers: only then does it read the hazard words
  sweep_knows : (sweep : Sweep) (word : ℕ) (stage : SweepStage) → sweep.scheme ≡ Warned → d < sizes.callers → FindsAt d r j word stage → KnowsAt s d r j sweep.bound sweep.gathered stage
      → SweepKnows s d r j (sweep_accepts_at sizes last sweep word stage).sweep (sweep_accepts_at sizes last sweep word stage).ended
  sweep_knows sweep word sweeps.ReadPhase warns caller found k = of (word == last) where
    of : (b : Bool) → SweepKnows s d r j (if b then sweep_ends sweep (swept.PhasesOver word) else sweep_goes sweep (sweeps.RaisePhase word)).sweep (if b then sweep_ends sweep (swept.PhasesOver word) else sweep_goes sweep (sweeps.RaisePhase word)).ended
    of true = tt
    of false = tt
  sweep_knows sweep word (sweeps.RaisePhase p) warns caller found k = tt
  sweep_knows sweep word (sweeps.Warn x) warns caller found k = rw warns (of (nat_lt (x + 1) sizes.callers)) where
    of : (b : Bool) → KnowsAt s d r j sweep.bound sweep.gathered (if b then sweeps.Warn (x + 1) else sweeps.ReadHazard 0 0)
    of true = tt
    of false = λ past. absurd (omega (arith, past))
  sweep_knows sweep word (sweeps.ReadHazard x i) warns caller found k = hazard_knows sweep.bound x i (with_slot sweep.gathered word) caller found.0 (gathers sweep.bound x i word sweep.gathered found.0 found.1 k)
  sweep_knows sweep word (sweeps.ReadStatus i) warns caller found k = status_knows sweep i (status_parts word) k
  sweep_knows sweep word (sweeps.MakeReady i q) warns caller found k = made_knows sweep i q word k
  sweep_knows sweep word (sweeps.PushHead kind i) warns caller found k = k
  sweep_knows sweep word (sweeps.PushLink i q top) warns caller found k = k
  sweep_knows sweep word (sweeps.PushTop kind i q top) warns caller found k = pushed_knows sweep i q top word k

  -- ---- and a claim's

  look_ended_knows : (claim : Claim) → ClaimKnows s d r j (look_ended claim).claim (look_ended claim).ended
  look_ended_knows claim = of (claim.sweeps == 2) where
    follows : (scheme : Scheme) (made : ℕ) → ClaimKnows s d r j (sweep_follows scheme made claim).claim (sweep_follows scheme made claim).ended
    follows (Announced own) zero = tt
    follows _ _ = tt

    of : (b : Bool) → ClaimKnows s d r j (if b then claim_ends claim ends.Full else sweep_follows claim.sweep.scheme claim.sweeps claim).claim (if b then claim_ends claim ends.Full else sweep_follows claim.sweep.scheme claim.sweeps claim).ended
    of true = tt
    of false = follows claim.sweep.scheme claim.sweeps

  look_begun_knows : (claim : Claim) (head : HeadParts) → ClaimKnows s d r j (look_begun claim head).claim (look_begun claim head).ended
  look_begun_knows claim head = of (head.top == 0) where
    of : (b : Bool) → ClaimKnows s d r j (if b then look_ended claim else claim_goes claim (claims.ReadLink head.phase head.top)).claim (if b then look_ended claim else claim_goes claim (claims.ReadLink head.phase head.top)).ended
    of true = look_ended_knows claim
    of false = tt

  look_took_knows : (claim : Claim) (q i word : ℕ) → ClaimKnows s d r j (look_took sizes claim q i word).claim (look_took sizes claim q i word).ended
  look_took_knows claim q i word = of (word == head_word sizes.tops q i) where
    of : (b : Bool) → ClaimKnows s d r j (if b then claim_goes claim (claims.StoreUsed q i) else claim_goes claim claims.ReadHead).claim (if b then claim_goes claim (claims.StoreUsed q i) else claim_goes claim claims.ReadHead).ended
    of true = tt
    of false = tt

  swept_knows : (claim : Claim) (sweep : Sweep) (o : Option SweepEnd) → claim.stage ≡ claims.Sweeps → SweepKnows s d r j sweep o → ClaimKnows s d r j (sweep_ended claim sweep o).claim (sweep_ended claim sweep o).ended
  swept_knows claim sweep None at k = subst (λ (stage : ClaimStage). KnowsIn s d r j sweep stage) (sym at) k
  swept_knows claim sweep (Some swept.Swept) at k = tt
  swept_knows claim sweep (Some (swept.PhasesOver p)) at k = tt

  pub claim_knows : (claim : Claim) (word : ℕ) (stage : ClaimStage) → claim.stage ≡ stage → claim.sweep.scheme ≡ Warned → d < sizes.callers → FindsIn d r j word claim.sweep stage → KnowsIn s d r j claim.sweep stage
      → ClaimKnows s d r j (claim_accepts_at sizes last claim word stage).claim (claim_accepts_at sizes last claim word stage).ended
  claim_knows claim word claims.ReadHead at warns caller found k = look_begun_knows claim (head_parts sizes.tops word)
  claim_knows claim word (claims.Take q i next) at warns caller found k = look_took_knows claim q i word
  claim_knows claim word claims.Sweeps at warns caller found k =
      let turn = sweep_accepts_at sizes last claim.sweep word claim.sweep.stage in swept_knows claim turn.sweep turn.ended at (sweep_knows claim.sweep word claim.sweep.stage warns caller found k)
  claim_knows claim word _ at warns caller found k = tt
