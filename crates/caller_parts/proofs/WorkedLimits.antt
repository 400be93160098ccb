-- Phases at their limits, by computing.
use Rattle.std.proofs.Common.{◌≡◌, ℕ, true, false, refl}
use Rattle.std.specs.Prelude.{◌^◌, ◌+◌, ◌-◌}
use Rattle.caller_parts.specs.Settings.{are_phases}

pub no_phase : are_phases 0 1 ≡ false
no_phase = refl

pub phases_below : are_phases 1 (2 ^ 50 - 1) ≡ true
phases_below = refl

pub phases_last : are_phases 1 (2 ^ 50) ≡ true
phases_last = refl

pub phases_past : are_phases 1 (2 ^ 50 + 1) ≡ false
phases_past = refl

pub phases_turned : are_phases 2 1 ≡ false
phases_turned = refl

pub one_phase : are_phases (2 ^ 50) (2 ^ 50) ≡ true
one_phase = refl
