-- What a caller knows of the pool where it stands in a claim, a sweep or a retirement.
use Rattle.std.specs.Prelude.{ℕ, ◌≡◌, ◌≢◌, ◌≤◌, ◌<◌, ◌⊎◌, length, Option, Some, None}
use Rattle.oa_words.specs.Words.{Word, Phase, Link, Sizes}
use Rattle.oa_words.specs.SlotKinds.{kind_of}
use Rattle.phase_pools.specs.declared.stages.SweepStage.{SweepStage}
use Rattle.phase_pools.specs.declared.stages.SweepStage.TheVariants as sweeps
use Rattle.phase_pools.specs.declared.stages.ClaimStage.{ClaimStage}
use Rattle.phase_pools.specs.declared.stages.ClaimStage.TheVariants as claims
use Rattle.phase_pools.specs.declared.stages.RetireStage.{RetireStage}
use Rattle.phase_pools.specs.declared.stages.RetireStage.TheVariants as retires
use Rattle.phase_pools.specs.declared.access.ClaimEnd.{ClaimEnd}
use Rattle.phase_pools.specs.declared.access.SweepEnd.{SweepEnd}
use Rattle.phase_pools.specs.Pools.{Sweep, Claim, Retirement}
use Rattle.chain_laws.specs.Chains.{Owner, Chained, Taken, Pushing, Outside, Retiring, Retired, caller_of, Hands, stamp, PoolHolds}

-- a slot outside its kind's chain that will be pushed only under a greater phase than this one: its retirement loads the phase after
-- it was taken, and a sweep pushes what was retired before a phase that isn't past the one to which it raises
abbrev pub ComesAbove : ℕ → Owner → Type 0
ComesAbove q Chained = ⊥
ComesAbove q (Taken c) = Unit {0}
ComesAbove q (Pushing c s) = q < s
ComesAbove q Outside = Unit {0}
ComesAbove q (Retiring c None) = Unit {0}
ComesAbove q (Retiring c (Some tag)) = q ≤ tag
ComesAbove q (Retired tag) = q ≤ tag

-- the head of its kind can't be stamped with q over this slot any more
abbrev pub Gone : Sizes → (Word → ℕ) → Hands → ℕ → ℕ → Type 0
Gone n memory hands q t = (q < stamp n.tops memory (kind_of n t)) ⊎ ComesAbove q (hands.owner t)

-- a look has loaded a kind's head (q, t): t is of the kind and has stood in its chain since, with what is known of its link; or the head
-- won't be (q, t) again
abbrev pub Loaded : Sizes → (Word → ℕ) → Hands → ℕ → ℕ → ℕ → Type 0 → Type 0
Loaded n memory hands k q t IsLinked =
    (t ≢ 0) × (t < n.tops) × (kind_of n t ≡ k) × (q ≤ stamp n.tops memory k) × (((hands.owner t ≡ Chained) × IsLinked) ⊎ Gone n memory hands q t)

-- a sweep of c that raises to s and recycles what was retired before low. What it pushes goes to the head of the slot's kind
abbrev pub SweepStands : Sizes → (Word → ℕ) → Hands → ℕ → ℕ → ℕ → SweepStage → Type 0
SweepStands n memory hands c s low sweeps.ReadPhase = Unit {0}
SweepStands n memory hands c s low (sweeps.RaisePhase p) = p ≤ memory Phase
SweepStands n memory hands c s low (sweeps.Warn d) = (s ≤ memory Phase) × (low ≤ s)
SweepStands n memory hands c s low (sweeps.ReadHazard d r) = (s ≤ memory Phase) × (low ≤ s)
SweepStands n memory hands c s low (sweeps.ReadStatus j) = (s ≤ memory Phase) × (low ≤ s) × (j ≤ n.slots)
SweepStands n memory hands c s low (sweeps.MakeReady j q) = (s ≤ memory Phase) × (low ≤ s) × (j ≤ n.slots) × (q < low)
SweepStands n memory hands c s low (sweeps.PushHead k j) = (s ≤ memory Phase) × (low ≤ s) × (hands.owner j ≡ Pushing c s) × (k ≡ kind_of n j)
SweepStands n memory hands c s low (sweeps.PushLink j q t) = (s ≤ memory Phase) × (low ≤ s) × (hands.owner j ≡ Pushing c s) × (t < n.tops)
SweepStands n memory hands c s low (sweeps.PushTop k j q t) =
    (s ≤ memory Phase) × (low ≤ s) × (hands.owner j ≡ Pushing c s) × (k ≡ kind_of n j) × (t < n.tops) × (memory (Link j) ≡ t)

-- a claim of c, of a slot of kind k
abbrev pub ClaimStands : Sizes → (Word → ℕ) → Hands → ℕ → ℕ → Sweep → ClaimStage → Type 0
ClaimStands n memory hands c k sweep claims.ReadHead = Unit {0}
ClaimStands n memory hands c k sweep (claims.ReadLink q t) = Loaded n memory hands k q t (Unit {0})
ClaimStands n memory hands c k sweep (claims.Take q t next) = Loaded n memory hands k q t (memory (Link t) ≡ next)
ClaimStands n memory hands c k sweep (claims.StoreUsed q t) = (hands.owner t ≡ Taken c) × (kind_of n t ≡ k)
ClaimStands n memory hands c k sweep (claims.Withdraw own) = Unit {0}
ClaimStands n memory hands c k sweep claims.Sweeps = SweepStands n memory hands c sweep.bound sweep.low sweep.stage

-- the retirement of a slot by c
abbrev pub RetireStands : Hands → ℕ → ℕ → RetireStage → Type 0
RetireStands hands c j retires.ReadPhase = hands.owner j ≡ Retiring c None
RetireStands hands c j (retires.StoreStatus p) = hands.owner j ≡ Retiring c (Some p)

-- the slot that a sweep or a claim has, 0 for none
abbrev pub slot_of_sweep : SweepStage → ℕ
slot_of_sweep sweeps.ReadPhase = 0
slot_of_sweep (sweeps.RaisePhase p) = 0
slot_of_sweep (sweeps.Warn d) = 0
slot_of_sweep (sweeps.ReadHazard d r) = 0
slot_of_sweep (sweeps.ReadStatus j) = 0
slot_of_sweep (sweeps.MakeReady j q) = 0
slot_of_sweep (sweeps.PushHead k j) = j
slot_of_sweep (sweeps.PushLink j q t) = j
slot_of_sweep (sweeps.PushTop k j q t) = j

abbrev pub slot_of_claim : Sweep → ClaimStage → ℕ
slot_of_claim sweep claims.ReadHead = 0
slot_of_claim sweep (claims.ReadLink q t) = 0
slot_of_claim sweep (claims.Take q t next) = 0
slot_of_claim sweep (claims.StoreUsed q t) = t
slot_of_claim sweep (claims.Withdraw own) = 0
slot_of_claim sweep claims.Sweeps = slot_of_sweep sweep.stage

-- a caller has at most this slot
abbrev pub HasOnly : Hands → ℕ → ℕ → Type 0
HasOnly hands c slot = (j : ℕ) → caller_of (hands.owner j) ≡ Some c → slot ≡ j

-- what a step of c may do to the pool, and so to what is known of the others
pub record MayMove (n : Sizes) (c : ℕ) (memory : Word → ℕ) (hands : Hands) (memory' : Word → ℕ) (hands' : Hands) : Type 0 where
  pub phase : memory Phase ≤ memory' Phase
  pub stamped : (k : ℕ) → stamp n.tops memory k ≤ stamp n.tops memory' k
  -- a slot of a chain stays there with its link, or c takes it
  pub chained : (j : ℕ) → hands.owner j ≡ Chained → ((hands'.owner j ≡ Chained) × (memory' (Link j) ≡ memory (Link j))) ⊎ (hands'.owner j ≡ Taken c)
  -- what comes above a phase up to the stamp still does, or has come
  pub gone : (q t : ℕ) → q ≤ stamp n.tops memory (kind_of n t) → ComesAbove q (hands.owner t) → Gone n memory' hands' q t
  -- what is another's stays so
  pub taken : (j d : ℕ) → d ≢ c → hands.owner j ≡ Taken d → hands'.owner j ≡ Taken d
  pub pushing : (j d s : ℕ) → d ≢ c → hands.owner j ≡ Pushing d s → (hands'.owner j ≡ Pushing d s) × (memory' (Link j) ≡ memory (Link j))
  pub retiring : (j d : ℕ) (tag : Option ℕ) → d ≢ c → hands.owner j ≡ Retiring d tag → hands'.owner j ≡ Retiring d tag
  -- and nothing becomes another's
  pub others : (j d : ℕ) → d ≢ c → caller_of (hands'.owner j) ≡ Some d → caller_of (hands.owner j) ≡ Some d

-- and the slot of one that has ended is no longer its routine's
abbrev pub slot_after_sweep : SweepStage → Option SweepEnd → ℕ
slot_after_sweep stage None = slot_of_sweep stage
slot_after_sweep stage (Some end) = 0

abbrev pub slot_after_claim : Claim → Option ClaimEnd → ℕ
slot_after_claim claim None = slot_of_claim claim.sweep claim.stage
slot_after_claim claim (Some end) = 0

abbrev pub slot_after_retirement : Option Retirement → ℕ
slot_after_retirement None = 0
slot_after_retirement (Some retirement) = retirement.slot

-- what a step of c keeps, and what its routine knows afterwards
pub record PoolKept (n : Sizes) (c : ℕ) (memory : Word → ℕ) (hands : Hands) (memory' : Word → ℕ) (hands' : Hands) (Next : Type 0) : Type 0 where
  pub fine : PoolHolds n memory' hands'
  pub goes : MayMove n c memory hands memory' hands'
  pub next : Next

-- a sweep and a claim that go on, or have ended
abbrev pub SweepNext : Sizes → (Word → ℕ) → Hands → ℕ → Sweep → Option SweepEnd → Type 0
SweepNext n memory hands c sweep None = SweepStands n memory hands c sweep.bound sweep.low sweep.stage
SweepNext n memory hands c sweep (Some end) = Unit {0}

abbrev pub ClaimNext : Sizes → (Word → ℕ) → Hands → ℕ → Claim → Option ClaimEnd → Type 0
ClaimNext n memory hands c claim None = (claim.kind < length n.kinds) × ClaimStands n memory hands c claim.kind claim.sweep claim.stage
ClaimNext n memory hands c claim (Some end) = Unit {0}

abbrev pub RetireNext : Hands → ℕ → Option Retirement → Type 0
RetireNext hands c None = Unit {0}
RetireNext hands c (Some retirement) = RetireStands hands c retirement.slot retirement.stage
