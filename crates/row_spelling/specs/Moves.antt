-- Numbers in rows, and what a row has callers do.
use Rattle.std.specs.Prelude.{ℕ, Bool, ◌&&◌, List, [], ◌∷◌, length, Option, Some, None, codes, nat_lt, ◌==◌, if◌then◌else◌}
use Rattle.std.specs.List.{list_all, slice_split, onto_first}
use Rattle.std.specs.Option.{option_map, option_and_then, option_zip}
use Rattle.std.specs.Str.{bytes_eq}
use Rattle.std.specs.Str.Parse.{without_leading_plus}
use Rattle.oa_text.specs.Numbers.{is_digit, number_of, fitting}
use Rattle.row_spelling.specs.declared.moves.Who.{Who}
use Rattle.row_spelling.specs.declared.moves.Who.TheVariants.{First, Second}
use Rattle.row_spelling.specs.declared.moves.Deed.{Deed}
use Rattle.row_spelling.specs.declared.moves.Deed.TheVariants.{Begins, GoesOn}

-- what each item says, or nothing if one of them says nothing
abbrev pub each_in : {X Y : Type 0} → (X → Option Y) → List X → Option (List Y)
each_in f [] = Some []
each_in f (x ∷ xs) = option_and_then (λ y. option_map (λ ys. y ∷ ys) (each_in f xs)) (f x)

-- what stands between words
abbrev pub is_space : ℕ → Bool
is_space b = b == 32

-- the words of a text, one between each two spaces, empty ones too
abbrev pub words_of : List ℕ → List (List ℕ)
words_of text = slice_split is_space text

-- the number that digits spell, of which there is one at least, if it fits 64 bits
abbrev pub digits_in : List ℕ → Option ℕ
digits_in digits = if nat_lt 0 (length digits) && list_all is_digit digits then fitting (number_of digits) else None

-- the number that a word spells, in digits, or in digits after a plus
abbrev pub number_in : List ℕ → Option ℕ
number_in word = digits_in (without_leading_plus word)

-- the numbers that the words of a text spell
abbrev pub numbers_in : List ℕ → Option (List ℕ)
numbers_in text = each_in number_in (words_of text)

-- who a word names: `first` or `second`
abbrev pub who_in : List ℕ → Option Who
who_in word = if bytes_eq word (codes "first") then Some First else (if bytes_eq word (codes "second") then Some Second else None)

-- a call of this with that begins, if both are there
abbrev pub begun : Option ℕ → Option ℕ → Option Deed
begun None with = None
begun (Some call) None = None
begun (Some call) (Some with) = Some (Begins call with)

-- what a verb and the words after it say that a caller does: one verb begins a call and has two numbers, the other goes on and has one
abbrev pub deed_in : List ℕ → List ℕ → List (List ℕ) → Option Deed
deed_in begins goes_on [] = None
deed_in begins goes_on (verb ∷ []) = None
deed_in begins goes_on (verb ∷ steps ∷ []) = if bytes_eq verb goes_on then option_map GoesOn (number_in steps) else None
deed_in begins goes_on (verb ∷ call ∷ with ∷ []) = if bytes_eq verb begins then begun (number_in call) (number_in with) else None
deed_in begins goes_on (verb ∷ call ∷ with ∷ other ∷ words) = None

-- what the words of a move say: who, and what they do
abbrev pub move_of : List ℕ → List ℕ → List (List ℕ) → Option (Who × Deed)
move_of begins goes_on [] = None
move_of begins goes_on (who ∷ words) = option_zip (who_in who) (deed_in begins goes_on words)

-- the move that a text says by these two verbs
abbrev pub move_in : List ℕ → List ℕ → List ℕ → Option (Who × Deed)
move_in begins goes_on text = move_of begins goes_on (words_of text)

-- the parts of a text, one between each two `, `, empty ones too
abbrev pub parts_of : List ℕ → List (List ℕ)
parts_of [] = [] ∷ []
parts_of (b ∷ []) = (b ∷ []) ∷ []
parts_of (b ∷ next ∷ text) = if b == 44 && next == 32 then [] ∷ parts_of text else onto_first b (parts_of (next ∷ text))

-- the moves that the parts of a text say by these two verbs
abbrev pub moves_in : List ℕ → List ℕ → List ℕ → Option (List (Who × Deed))
moves_in begins goes_on text = each_in (move_in begins goes_on) (parts_of text)
