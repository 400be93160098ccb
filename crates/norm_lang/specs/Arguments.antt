-- The arguments of a call.
use Rattle.std.specs.Prelude.{ℕ, ◌^◌, Bool, ◌&&◌, List, [], ◌∷◌, length, drop, slice_index, nat_lt, ◌==◌}
use Rattle.std.specs.List.{list_all}

-- four words of 64 bits
abbrev pub are_words : List ℕ → Bool
are_words args = length args == 4 && list_all (λ word. nat_lt word (2 ^ 64)) args

-- they are the arguments of an operation that takes so many: those past the count are 0
abbrev pub are_arguments : ℕ → List ℕ → Bool
are_arguments count args = are_words args && list_all (λ word. word == 0) (drop count args)

-- four words: the first ones of a list, with 0s added if it is shorter
abbrev pub padded : List ℕ → List ℕ
padded numbers = slice_index numbers 0 ∷ slice_index numbers 1 ∷ slice_index numbers 2 ∷ slice_index numbers 3 ∷ []
