-- The words of a line, its first word unless it is skipped, and what readers of more or fewer words than one leave.
use Rattle.std.specs.Prelude.{ℕ, List, [], ◌∷◌, drop, codes, Option, Some, None, Result, Ok, if◌then◌else◌}
use Rattle.std.specs.Str.{bytes_eq}
use Rattle.oa_text.specs.Lines.{TextLine}
use Rattle.oa_text.specs.Tokens.{words_of, line_fault}
use Rattle.norm_lang.specs.declared.text.Version.{Version}
use Rattle.norm_lang.specs.declared.text.Version.TheVariants.{First, Second}
use Rattle.norm_lang.specs.Faults.{◌>>=◌}
use Rattle.norm_lang.specs.Grammar.{is_comment, plain}

-- the words of a line, unless its bytes have a fault: they are judged even if the line is skipped
abbrev pub words_in : TextLine → Result (List (List ℕ)) ℕ
words_in line = plain (line_fault line) >>= λ done. Ok (words_of line.bytes)

-- the first word, and those after it: none of a line that is skipped, that is without a word, or whose first word begins with `#`
abbrev pub first_word : List (List ℕ) → Option (List ℕ × List (List ℕ))
first_word [] = None
first_word (word ∷ rest) = if is_comment word then None else Some (word, rest)

-- the words after the kind that a line means, even if its word is no name: a line of the first version has no word for it
abbrev pub after_owner : Version → List (List ℕ) → List (List ℕ)
after_owner First words = words
after_owner Second words = drop 1 words

-- the words after what a field or a root holds, even if they don't say it: behind `ref` those after the kind, and behind any
-- other word all
abbrev pub after_holding : Version → List (List ℕ) → List (List ℕ)
after_holding version [] = []
after_holding version (word ∷ rest) = if bytes_eq word (codes "ref") then after_owner version rest else rest
