-- The most steps of a run that is certified, and one more, by computing.
use Rattle.std.proofs.Common.{◌≡◌, ℕ, true, false, refl}
use Rattle.std.specs.Prelude.{nat_le}
use Rattle.run_judge.specs.Made.{certificate_limit}

pub steps_last : nat_le 2000000 certificate_limit ≡ true
unfolding certificate_limit
steps_last = refl

pub steps_past : nat_le 2000001 certificate_limit ≡ false
unfolding certificate_limit
steps_past = refl
