-- A load leaves the words as they are.
use Rattle.std.proofs.Common.{◌≡◌, ℕ, zero, suc, List, [], ◌∷◌, refl, ap}
use Rattle.std.specs.Prelude.{slice_index, slice_set}

pub stays_same : (words : List ℕ) (at : ℕ) → words ≡ slice_set words at (slice_index words at)
stays_same [] at = refl
stays_same (w ∷ words) zero = refl
stays_same (w ∷ words) (suc at) = ap (λ (l : List ℕ). w ∷ l) (stays_same words at)
