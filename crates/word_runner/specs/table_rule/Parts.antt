-- That seats come from seats alone. All seats in use are parts of the first one, which are the whole together: a seat that splits
-- gives half of each of its parts away, and one that takes another in gets its parts. So a seat with the parts that it had before
-- has given none away, and no seat was made of it.
use Rattle.std.specs.Prelude.{◌≡◌, ℕ, zero, suc, ◌+◌, ◌-◌, ◌≤◌, ◌<◌, true, false, List, [], ◌∷◌, length}
use mathlib.Core.Option.{some}
use lib.ListN.{get_elem?}
use Rattle.word_runner.specs.table_rule.Seen.{SeatView}

-- a sum over a list
abbrev pub total : {X : Type 0} → (X → ℕ) → List X → ℕ
total f [] = 0
total f (x ∷ xs) = f x + total f xs

-- 2 to the power of n
abbrev pub doubled : ℕ → ℕ
doubled zero = 1
doubled (suc n) = doubled n + doubled n

-- the size of parts, if the whole is 2 to the power of m grains
abbrev pub grains : ℕ → List ℕ → ℕ
grains m [] = 0
grains m (k ∷ ks) = doubled (m - k) + grains m ks

-- none of them is smaller than a grain
abbrev pub AreCoarse : ℕ → List ℕ → Type 0
AreCoarse m [] = Unit {0}
AreCoarse m (k ∷ ks) = (k ≤ m) × AreCoarse m ks

-- the halves of parts
abbrev pub halved : List ℕ → List ℕ
halved [] = []
halved (k ∷ ks) = suc k ∷ halved ks

-- none of the parts of any seat is
abbrev pub AllCoarse : ℕ → List SeatView → Type 0
AllCoarse m views = (by : ℕ) (v : SeatView) → get_elem? views by ≡ some v → AreCoarse m v.parts

-- a seat in use has a part, and one that was joined away has no entry
pub record IsPart (v : SeatView) : Type 0 where
  pub holds : v.live ≡ true → 0 < length v.parts
  pub bare : v.live ≡ false → v.entries ≡ []

-- and all parts together are the whole, in grains of whatever size
pub record IsWhole (views : List SeatView) : Type 0 where
  pub each : (by : ℕ) (v : SeatView) → get_elem? views by ≡ some v → IsPart v
  pub all : (m : ℕ) → AllCoarse m views → total (λ (v : SeatView). grains m v.parts) views ≡ doubled m
