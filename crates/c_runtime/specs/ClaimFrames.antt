-- Where a claim stands in its lines, and what its locals are then. A local of which nothing is said is dead: it is set before it is read.
use Rattle.std.specs.Prelude.{◌≡◌, ◌⊎◌, ℕ, ◌+◌, ◌≤◌, ◌<◌, max, false, List, []}
use Rattle.oa_words.specs.Words.{Sizes}
use Rattle.oa_words.specs.SlotKinds.{kind_of}
use Rattle.oa_words.specs.Packed.{head_word, status_word}
use Rattle.oa_words.specs.declared.packed.Kind.TheVariants as kinds
use Rattle.guard_words.specs.Guards.{has_slot}
use Rattle.phase_pools.specs.declared.stages.SweepStage.{SweepStage}
use Rattle.phase_pools.specs.declared.stages.SweepStage.TheVariants as sweeps
use Rattle.phase_pools.specs.declared.stages.ClaimStage.{ClaimStage}
use Rattle.phase_pools.specs.declared.stages.ClaimStage.TheVariants as claims
use Rattle.phase_pools.specs.Pools.{Claim, Sweep}
use Rattle.phase_pools.specs.Ranges.{SweepsFew}
use Rattle.c_language.specs.Steps.{Kept, Frame}

-- no bit of a slot is set
abbrev pub Quiet : Kept → Type 0
Quiet kept = (j : ℕ) → 1 ≤ j → kept.noted j ≡ false

-- a slot's bit is set exactly if it was gathered
abbrev pub Gathered : List ℕ → Kept → Type 0
Gathered gathered kept = (j : ℕ) → 1 ≤ j → kept.noted j ≡ has_slot gathered j

-- and no bit past the last slot
abbrev pub GatheredHere : ℕ → List ℕ → Kept → Type 0
GatheredHere slots gathered kept = Gathered gathered kept × ((j : ℕ) → slots < j → kept.noted j ≡ false)

-- up to the slot at which a sweep stands, and no bit above it
abbrev pub GatheredTo : ℕ → List ℕ → Kept → Type 0
GatheredTo top gathered kept = ((j : ℕ) → 1 ≤ j → j ≤ top → kept.noted j ≡ has_slot gathered j) × ((j : ℕ) → top < j → kept.noted j ≡ false)

-- below it, and no bit from it on
abbrev pub GatheredBelow : ℕ → List ℕ → Kept → Type 0
GatheredBelow top gathered kept = ((j : ℕ) → 1 ≤ j → j < top → kept.noted j ≡ has_slot gathered j) × ((j : ℕ) → top ≤ j → kept.noted j ≡ false)

-- a sweep at a stage: the line, the locals that live, and the bits. A warning is raised by a load or by an exchange
abbrev pub SweepKnows : Sizes → Sweep → SweepStage → ℕ → (ℕ → ℕ) → Kept → Type 0
SweepKnows n sweep sweeps.ReadPhase at l kept = (at ≡ 16) × Quiet kept × (sweep.gathered ≡ [])
SweepKnows n sweep (sweeps.RaisePhase p) at l kept = (at ≡ 20) × (l 11 ≡ p) × (l 6 ≡ p + 1) × Quiet kept × (sweep.gathered ≡ [])
SweepKnows n sweep (sweeps.Warn c) at l kept =
    ((at ≡ 22) ⊎ ((at ≡ 25) × (l 4 < sweep.bound))) × (l 6 ≡ sweep.bound) × (l 7 ≡ c) × Quiet kept × (sweep.gathered ≡ [])
SweepKnows n sweep (sweeps.ReadHazard c r) at l kept =
    (at ≡ 31) × (l 6 ≡ sweep.bound) × (l 7 ≡ c) × (l 8 ≡ r) × GatheredHere n.slots sweep.gathered kept
SweepKnows n sweep (sweeps.ReadStatus j) at l kept = (at ≡ 38) × (l 6 ≡ sweep.bound) × (l 2 ≡ j) × GatheredTo j sweep.gathered kept
SweepKnows n sweep (sweeps.MakeReady j q) at l kept =
    (at ≡ 46) × (l 6 ≡ sweep.bound) × (l 2 ≡ j) × (l 9 ≡ status_word q kinds.Retired) × (l 5 ≡ status_word sweep.bound kinds.Ready)
    × GatheredBelow j sweep.gathered kept
SweepKnows n sweep (sweeps.PushHead k j) at l kept =
    (at ≡ 54) × (l 6 ≡ sweep.bound) × (l 2 ≡ j) × (l 12 ≡ k) × GatheredBelow j sweep.gathered kept
SweepKnows n sweep (sweeps.PushLink j q t) at l kept =
    (at ≡ 56) × (l 6 ≡ sweep.bound) × (l 2 ≡ j) × (l 12 ≡ kind_of n j) × (l 1 ≡ head_word n.tops q t) × (l 3 ≡ t) × GatheredBelow j sweep.gathered kept
SweepKnows n sweep (sweeps.PushTop k j q t) at l kept =
    (at ≡ 62) × (l 6 ≡ sweep.bound) × (l 2 ≡ j) × (l 12 ≡ k) × (l 1 ≡ head_word n.tops q t) × (l 3 ≡ head_word n.tops (max q sweep.bound) j)
    × GatheredBelow j sweep.gathered kept

-- a claim at a stage. A caller that announces runs no such lines
abbrev pub ClaimKnows : Sizes → Claim → ClaimStage → ℕ → (ℕ → ℕ) → Kept → Type 0
ClaimKnows n claim claims.ReadHead at l kept = (at ≡ 1) × Quiet kept
ClaimKnows n claim (claims.ReadLink q t) at l kept = (at ≡ 4) × (l 1 ≡ head_word n.tops q t) × (l 2 ≡ t) × Quiet kept
ClaimKnows n claim (claims.Take q t next) at l kept = (at ≡ 7) × (l 1 ≡ head_word n.tops q t) × (l 2 ≡ t) × (l 3 ≡ head_word n.tops q next) × Quiet kept
ClaimKnows n claim (claims.StoreUsed q t) at l kept = (at ≡ 12) × (l 2 ≡ t) × (l 5 ≡ status_word q kinds.Used) × Quiet kept
ClaimKnows n claim (claims.Withdraw own) at l kept = ⊥
ClaimKnows n claim claims.Sweeps at l kept = SweepKnows n claim.sweep claim.sweep.stage at l kept

pub record Stands (n : Sizes) (claim : Claim) (f : Frame) : Type 0 where
  pub sweeps : f.locals 0 ≡ claim.sweeps
  -- a third sweep is never begun: nothing that belongs says so, so the relation does
  pub few : SweepsFew claim.stage claim.sweeps
  pub knows : ClaimKnows n claim claim.stage f.at f.locals f.kept
