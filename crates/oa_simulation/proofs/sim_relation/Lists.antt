-- Lists changed at one place, read with a default.
use Rattle.std.proofs.Common.{ℕ, zero, suc, ◌≡◌, ◌≢◌, ◌<◌, List, [], ◌∷◌, length, set, refl, arith, ap}
use Rattle.std.specs.Prelude.{slice_index}
use Rattle.source_machine.specs.declared.state.Value.{Value}
use Rattle.source_machine.specs.Memory.{value_at}

pub index_set : (xs : List ℕ) (k x : ℕ) → k < length xs → slice_index (set xs k x) k ≡ x
index_set [] k x lt = absurd (omega (arith, lt))
index_set (y ∷ ys) zero x lt = refl
index_set (y ∷ ys) (suc k) x lt = index_set ys k x (omega (arith, lt))

pub index_set_other : (xs : List ℕ) (k x i : ℕ) → i ≢ k → slice_index (set xs k x) i ≡ slice_index xs i
index_set_other [] k x i ne = refl
index_set_other (y ∷ ys) zero x zero ne = absurd (ne refl)
index_set_other (y ∷ ys) zero x (suc i) ne = refl
index_set_other (y ∷ ys) (suc k) x zero ne = refl
index_set_other (y ∷ ys) (suc k) x (suc i) ne = index_set_other ys k x i (λ e. ne (ap suc e))

pub value_set : (xs : List Value) (k : ℕ) (x : Value) → k < length xs → value_at (set xs k x) k ≡ x
value_set [] k x lt = absurd (omega (arith, lt))
value_set (y ∷ ys) zero x lt = refl
value_set (y ∷ ys) (suc k) x lt = value_set ys k x (omega (arith, lt))

pub value_set_other : (xs : List Value) (k i : ℕ) (x : Value) → i ≢ k → value_at (set xs k x) i ≡ value_at xs i
value_set_other [] k i x ne = refl
value_set_other (y ∷ ys) zero zero x ne = absurd (ne refl)
value_set_other (y ∷ ys) zero (suc i) x ne = refl
value_set_other (y ∷ ys) (suc k) zero x ne = refl
value_set_other (y ∷ ys) (suc k) (suc i) x ne = value_set_other ys k i x (λ e. ne (ap suc e))
