-- The most steps of a replay, and one more, by computing.
use Rattle.std.proofs.Common.{◌≡◌, ℕ, true, false, refl}
use Rattle.std.specs.Prelude.{nat_le}
use Rattle.oa_core.specs.Finals.{replay_limit}

pub steps_last : nat_le 20000000 replay_limit ≡ true
unfolding replay_limit
steps_last = refl

pub steps_past : nat_le 20000001 replay_limit ≡ false
unfolding replay_limit
steps_past = refl
