-- The most instructions of a target's method, one less and one more, by computing.
use Rattle.std.proofs.Common.{◌≡◌, ℕ, true, false, refl}
use Rattle.std.specs.Prelude.{nat_le}
use Rattle.target_code.specs.TargetLimits.{most_target_instrs}

pub instrs_below : nat_le 4095 most_target_instrs ≡ true
instrs_below = refl

pub instrs_last : nat_le 4096 most_target_instrs ≡ true
instrs_last = refl

pub instrs_past : nat_le 4097 most_target_instrs ≡ false
instrs_past = refl
