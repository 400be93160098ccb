-- Words by their names, as a function.
use Rattle.std.specs.Prelude.{ℕ, Bool, ◌&&◌, List, ◌==◌, if◌then◌else◌, slice_index}
use Rattle.oa_words.specs.Words.{Word, Phase, Place, Warning, Hazard, Status, FieldOf, Cell, Head, Link, Sizes, address_of, in_row}

-- a name as three numbers
abbrev pub kind_code : Word → ℕ
kind_code Phase = 0
kind_code (Place c) = 1
kind_code (Warning c) = 2
kind_code (Hazard c r) = 3
kind_code (Status j) = 4
kind_code (FieldOf j g) = 5
kind_code (Cell x) = 6
kind_code (Head t) = 7
kind_code (Link j) = 8

abbrev pub first_code : Word → ℕ
first_code Phase = 0
first_code (Place c) = c
first_code (Warning c) = c
first_code (Hazard c r) = c
first_code (Status j) = j
first_code (FieldOf j g) = j
first_code (Cell x) = x
first_code (Head t) = t
first_code (Link j) = j

abbrev pub second_code : Word → ℕ
second_code Phase = 0
second_code (Place c) = 0
second_code (Warning c) = 0
second_code (Hazard c r) = r
second_code (Status j) = 0
second_code (FieldOf j g) = g
second_code (Cell x) = 0
second_code (Head t) = 0
second_code (Link j) = 0

abbrev pub same_word : Word → Word → Bool
same_word v w = (kind_code v == kind_code w) && ((first_code v == first_code w) && (second_code v == second_code w))

-- a memory after a store
abbrev pub store : (Word → ℕ) → Word → ℕ → Word → ℕ
store memory w x v = if same_word v w then x else memory v

-- what stands at each word of a list of words; 0 at a name that the row hasn't
abbrev pub seen : Sizes → List ℕ → Word → ℕ
seen n words w = if in_row n w then slice_index words (address_of n w) else 0
