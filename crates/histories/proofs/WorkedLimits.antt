-- The longest history that is searched, one call less and one more, by computing.
use Rattle.std.proofs.Common.{◌≡◌, ℕ, true, false, refl}
use Rattle.std.specs.Prelude.{nat_le}
use Rattle.histories.specs.declared.limits.TheConstants.{MOST_CALLS}

pub calls_below : nat_le 9 MOST_CALLS ≡ true
calls_below = refl

pub calls_last : nat_le 10 MOST_CALLS ≡ true
calls_last = refl

pub calls_past : nat_le 11 MOST_CALLS ≡ false
calls_past = refl
