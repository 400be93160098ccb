-- Worked rows of retired lists: node 3 was retired first, then 5, and then 3 again.
use Rattle.std.specs.Prelude.{◌≡◌, true, false, List, ℕ, [], ◌∷◌}
use Rattle.proper_judge.specs.Numbers.{retirement, is_among, is_second, with_retirement}

abbrev pub retired : List ℕ
retired = 3 ∷ 5 ∷ 3 ∷ []

pub record RetiredRows : Type 0 where
  pub first : retirement retired 3 ≡ 1
  pub second : retirement retired 5 ≡ 2
  pub never : retirement retired 7 ≡ 0
  -- of before two retirements are 3 and 5, of before one is 3 alone, and of before none is nothing
  pub both : is_among (retirement retired) 2 5 ≡ true
  pub later : is_among (retirement retired) 1 5 ≡ false
  pub earlier : is_among (retirement retired) 1 3 ≡ true
  pub none : is_among (retirement retired) 0 3 ≡ false
  pub other : is_among (retirement retired) 3 7 ≡ false
  -- whether a retirement is a second one; null is retired never
  pub again : is_second (retirement (3 ∷ 5 ∷ [])) 3 ≡ true
  pub once : is_second (retirement (3 ∷ [])) 5 ≡ false
  pub null : is_second (retirement (3 ∷ [])) 0 ≡ false
  -- the first retirement keeps its number
  pub kept : with_retirement (retirement (3 ∷ 5 ∷ [])) 3 3 3 ≡ 1
  pub numbered : with_retirement (retirement (3 ∷ [])) 5 2 5 ≡ 2
