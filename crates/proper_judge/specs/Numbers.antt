-- Numbers of names, and the numbers of retirements.
use Rattle.std.specs.Prelude.{◌≡◌, ℕ, zero, suc, Bool, not, ◌&&◌, ◌==◌, nat_lt, if◌then◌else◌, List, [], ◌∷◌, unwrap_or, slice_index}
use Rattle.std.specs.Ordering.{nat_cmp}
use Rattle.std.specs.BTreeMap.{BTreeMap, get}
use Rattle.proper_judge.specs.declared.numbers.TheConstants.{NEAR}
use Rattle.proper_judge.specs.declared.numbers.Numbers.{Numbers}

-- the number at a place, 0 past the end
abbrev pub number_near : List ℕ → ℕ → ℕ
number_near near place = slice_index near place

-- the number of a name
abbrev pub number_at : List ℕ → BTreeMap ℕ ℕ → ℕ → ℕ
number_at near far name = if nat_lt name NEAR then number_near near name else unwrap_or (get nat_cmp far name) 0

abbrev pub numbering : Numbers → ℕ → ℕ
numbering numbers name = number_at numbers.near.items numbers.far name

-- the numbers after that of a name is set
abbrev pub numbered : (ℕ → ℕ) → ℕ → ℕ → ℕ → ℕ
numbered numbers name number other = if name == other then number else numbers other

abbrev pub IsSetNear : List ℕ → ℕ → ℕ → List ℕ → Type 0
IsSetNear old place number new = (other : ℕ) → number_near new other ≡ numbered (number_near old) place number other

-- the place of a name's first retirement, from 1; 0 if the name isn't retired
abbrev pub later : ℕ → ℕ
later zero = zero
later (suc n) = suc (suc n)

abbrev pub retirement : List ℕ → ℕ → ℕ
retirement [] name = 0
retirement (n ∷ ns) name = if n == name then 1 else later (retirement ns name)

-- each name has the number of its first retirement
abbrev pub AreRetirements : (ℕ → ℕ) → List ℕ → Type 0
AreRetirements numbers retired = (name : ℕ) → numbers name ≡ retirement retired name

-- a name is among the first of the retirements, so many of them
abbrev pub is_among : (ℕ → ℕ) → ℕ → ℕ → Bool
is_among numbers count name = not (numbers name == 0) && not (nat_lt count (numbers name))

-- whether a retirement is a second one; null is none
abbrev pub is_second : (ℕ → ℕ) → ℕ → Bool
is_second numbers name = not (name == 0) && not (numbers name == 0)

-- whether it is a first one
abbrev pub is_first : (ℕ → ℕ) → ℕ → Bool
is_first numbers name = not (name == 0) && (numbers name == 0)

-- the numbers after a retirement that is the last of so many
abbrev pub with_retirement : (ℕ → ℕ) → ℕ → ℕ → ℕ → ℕ
with_retirement numbers name count other = if is_first numbers name then numbered numbers name count other else numbers other
