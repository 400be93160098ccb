-- The phase before which a sweep recycles, as it comes to the callers' warnings.
use Rattle.std.proofs.Common.{ℕ, zero, suc, ◌≢◌, ◌≤◌, arith, refl}
use Rattle.phase_pools.specs.declared.stages.Scheme.{Scheme}
use Rattle.phase_pools.specs.declared.stages.Scheme.TheVariants.{Warned, Announced}
use Rattle.phase_pools.specs.Pools.{lower, low_after}

-- it never rises
pub lower_less : (low word : ℕ) → lower low word ≤ low
lower_less low zero = omega arith
lower_less low (suc p) = omega arith

-- and no announced phase is below it
pub lower_announced : (low word : ℕ) → word ≢ 0 → lower low word ≤ word
lower_announced low zero some = absurd (some refl)
lower_announced low (suc p) some = omega arith

pub low_less : (scheme : Scheme) (low word : ℕ) → low_after scheme low word ≤ low
low_less Warned low word = omega arith
low_less (Announced own) low word = lower_less low word
