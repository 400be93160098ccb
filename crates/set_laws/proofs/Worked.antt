-- The rows compute.
use Rattle.std.proofs.Common.{◌≡◌, ℕ, List, [], Some, None, refl}
use Rattle.set_laws.specs.Rows.{RowsWorked}

no_state : (a : List ℕ) → None ≡ Some a → ⊥
no_state a e = let z : None ≡ Some a = e in cc

pub rows_worked : RowsWorked
rows_worked = record {
  found = refl;
  missed = refl;
  again = refl;
  after_again = refl;
  again_log = refl;
  failing_log = refl;
  after_again_log = refl;
  other_log = refl;
  searching_log = refl;
  found_log = refl;
  legal = ([], refl);
  early = λ k. no_state k.0 k.1;
  twice = λ k. no_state k.0 k.1;
  gone = λ k. no_state k.0 k.1;
  absent = λ k. no_state k.0 k.1;
  said_there = λ k. no_state k.0 k.1;
  said_absent = λ k. no_state k.0 k.1;
}
