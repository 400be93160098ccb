-- The rows compute.
use Rattle.std.proofs.Common.{◌≡◌, ℕ, List, Some, None, refl}
use Rattle.queue_laws.specs.Rows.{RowsWorked}

no_state : (a : List ℕ) → None ≡ Some a → ⊥
no_state a e = let z : None ≡ Some a = e in cc

pub rows_worked : RowsWorked
rows_worked = record {
  alone = refl;
  helped = refl;
  alone_log = refl;
  helped_log = refl;
  helper_log = refl;
  failing_log = refl;
  early = λ k. no_state k.0 k.1;
  twice = λ k. no_state k.0 k.1;
  turn = λ k. no_state k.0 k.1;
  missed = λ k. no_state k.0 k.1;
  other = λ k. no_state k.0 k.1;
  silent = λ k. no_state k.0 k.1;
}
