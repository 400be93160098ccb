-- What lines, words and names are, told by their bytes alone.
use Rattle.std.specs.Prelude.{◌≡◌, ℕ, ◌≤◌, ◌⊎◌, ◌↔◌, Bool, true, false, ◌&&◌, ◌||◌, not, List, [], ◌∷◌, ◌++◌, length, nat_le, ◌==◌, IsTrue}
use Rattle.std.specs.List.{list_all}
use Rattle.oa_text.specs.Lines.{lines_of}
use Rattle.oa_text.specs.Tokens.{words_of}
use Rattle.norm_lang.specs.LineWords.{is_name}

abbrev pub is_newline : ℕ → Bool
is_newline b = b == 10

-- a last line that no newline ends, which isn't empty
abbrev pub EndsUnended : List ℕ → List ℕ → List (List ℕ) → Type 0
EndsUnended bytes line lines = (bytes ≡ line) × (1 ≤ length line) × (lines ≡ [])

-- bytes are these lines: none has a newline, and each ends with one, but that what follows the last newline is a line if it
-- isn't empty
abbrev pub AreLines : List ℕ → List (List ℕ) → Type 0
AreLines bytes [] = bytes ≡ []
AreLines bytes (line ∷ lines) =
    IsTrue (list_all (λ b. not (is_newline b)) line) × (EndsUnended bytes line lines ⊎ ((rest : List ℕ) × (bytes ≡ line ++ 10 ∷ rest) × AreLines rest lines))

-- a space, or a tab
abbrev pub is_space_or_tab : ℕ → Bool
is_space_or_tab b = (b == 32) || (b == 9)

-- bytes that end, or begin with a blank
abbrev pub ends_or_is_spaced : List ℕ → Bool
ends_or_is_spaced [] = true
ends_or_is_spaced (b ∷ bytes) = is_space_or_tab b

-- a line's words are its longest runs without a blank: any blanks, a word of at least one byte, and after its end or a blank
-- the words of the rest
abbrev pub AreWords : List ℕ → List (List ℕ) → Type 0
AreWords bytes [] = IsTrue (list_all is_space_or_tab bytes)
AreWords bytes (word ∷ words) =
    (blanks : List ℕ) × (rest : List ℕ) × (bytes ≡ blanks ++ (word ++ rest)) × IsTrue (list_all is_space_or_tab blanks)
    × (1 ≤ length word) × IsTrue (list_all (λ b. not (is_space_or_tab b)) word) × IsTrue (ends_or_is_spaced rest) × AreWords rest words

abbrev pub is_lower_case : ℕ → Bool
is_lower_case b = nat_le 97 b && nat_le b 122

-- a lower-case letter, a digit or `_`
abbrev pub is_of_a_name : ℕ → Bool
is_of_a_name b = is_lower_case b || ((nat_le 48 b && nat_le b 57) || (b == 95))

abbrev pub begins_lower_case : List ℕ → Bool
begins_lower_case [] = false
begins_lower_case (b ∷ bytes) = is_lower_case b

-- 1 to 16 bytes, lower-case letters, digits and `_`, of which the first is a letter
abbrev pub IsName : List ℕ → Type 0
IsName name = (1 ≤ length name) × (length name ≤ 16) × IsTrue (begins_lower_case name) × IsTrue (list_all is_of_a_name name)

-- the lines that are read are the lines of the bytes, and these alone
abbrev pub LinesAreCut : Type 0
LinesAreCut = (bytes : List ℕ) (lines : List (List ℕ)) → (lines_of bytes ≡ lines) ↔ AreLines bytes lines

-- the words that are read are the words of the bytes, and these alone
abbrev pub WordsAreRuns : Type 0
WordsAreRuns = (bytes : List ℕ) (words : List (List ℕ)) → (words_of bytes ≡ words) ↔ AreWords bytes words

-- the names that are read are the names
abbrev pub NamesAreShort : Type 0
NamesAreShort = (name : List ℕ) → IsTrue (is_name name) ↔ IsName name
