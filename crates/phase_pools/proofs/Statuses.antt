-- Where a sweep goes from a slot: what holds of each of its ways holds of its turn.
use Rattle.std.proofs.Common.{◌≡◌, ℕ, ◌-◌, ◌<◌, ◌&&◌, not, Bool, true, false, Option, Some, None, if◌then◌else◌, refl, arith}
use Rattle.std.specs.Prelude.{nat_lt}
use Rattle.std.proofs.lemmas.Bool.Decides.{nat_tests}
use Rattle.oa_words.specs.declared.packed.Kind.{Kind}
use Rattle.oa_words.specs.declared.packed.Kind.TheVariants as kinds
use Rattle.oa_words.specs.Words.{Sizes}
use Rattle.oa_words.specs.Packed.{StatusParts}
use Rattle.guard_words.specs.Guards.{has_slot}
use Rattle.phase_pools.specs.declared.access.SweepEnd.TheVariants as swept
use Rattle.phase_pools.specs.declared.stages.SweepStage.TheVariants as sweeps
use Rattle.phase_pools.specs.Pools.{has_lower, Sweep, SweepTurn, sweep_goes, sweep_ends, sweep_on, freeing, status_read}

-- it is done with the slot: the next lower one follows, or the sweep ends
pub from_slot : (P : SweepTurn → Type 0) (n : Sizes) (sweep : Sweep) (j : ℕ) → (1 < j → P (sweep_goes sweep (sweeps.ReadStatus (j - 1)))) → P (sweep_ends sweep swept.Swept) → P (sweep_on n sweep j)
from_slot P n sweep j on end = of (has_lower n j) refl where
  of : (b : Bool) → has_lower n j ≡ b → P (if b then sweep_goes sweep (sweeps.ReadStatus (j - 1)) else sweep_ends sweep swept.Swept)
  of true is = on (grind (arith, nat_tests))
  of false is = end

-- it has read the slot's status: it recycles the slot, or is done with it
pub from_status : (P : SweepTurn → Type 0) (n : Sizes) (sweep : Sweep) (j : ℕ) (parts : Option StatusParts) → P (sweep_on n sweep j)
    → ((p : StatusParts) → parts ≡ Some p → p.phase < sweep.low → has_slot sweep.gathered j ≡ false → P (sweep_goes sweep (sweeps.MakeReady j p.phase))) → P (status_read n sweep j parts)
from_status P n sweep j None on frees = on
from_status P n sweep j (Some parts) on frees = of parts.kind where
  may : (b : Bool) → (nat_lt parts.phase sweep.low && not (has_slot sweep.gathered j)) ≡ b → P (if b then sweep_goes sweep (sweeps.MakeReady j parts.phase) else sweep_on n sweep j)
  may true is = frees parts refl (grind (arith, nat_tests)) (grind (arith, nat_tests))
  may false is = on

  of : (kind : Kind) → P (freeing n sweep j parts.phase kind)
  of kinds.Retired = may (nat_lt parts.phase sweep.low && not (has_slot sweep.gathered j)) refl
  of _ = on
