-- A turn of a loop that replaces each item by a function of it.
use Rattle.std.proofs.Common.{◌≡◌, ℕ, zero, suc, ◌+◌, ◌<◌, List, [], ◌∷◌, ◌++◌, length, map, take, drop, set, get_or, refl, ap, arith}

turned : {X : Type 0} (f : X → X) (xs : List X) (i : ℕ) (d : X) → i < length xs
    → set (map f (take i xs) ++ drop i xs) i (f (get_or (map f (take i xs) ++ drop i xs) i d)) ≡ map f (take (suc i) xs) ++ drop (suc i) xs
turned f [] i d lt = absurd (omega (arith, lt))
turned f (x ∷ xs) zero d lt = refl
turned f (x ∷ xs) (suc i) d lt = ap (λ ys. f x ∷ ys) (turned f xs i d (omega (arith, lt)))

pub map_turn : {X : Type 0} (f : X → X) (xs now next : List X) (i : ℕ) (d y : X) → i < length xs → now ≡ map f (take i xs) ++ drop i xs → y ≡ f (get_or now i d) → next ≡ set now i y
    → next ≡ map f (take (i + 1) xs) ++ drop (i + 1) xs
map_turn f xs now next i d y lt is value step = let one : i + 1 ≡ suc i = omega arith in rw (one, step, value, is) (turned f xs i d lt)
