-- Which lines of standard input are rows, which give lines a name, a line's first word, and which answers may be written.
use Rattle.std.specs.Prelude.{ℕ, List, [], Bool, not, ◌&&◌, ◌==◌, if◌then◌else◌, length, drop, slice_index, Result, Ok, Err, codes}
use Rattle.std.specs.List.{starts_with, before_first, after_first}
use Rattle.std.specs.Option.{option_to_list}
use Rattle.row_spelling.specs.declared.error.RowError.{RowError}
use Rattle.row_spelling.specs.declared.error.RowError.TheVariants as errors
use Rattle.row_spelling.specs.declared.spelling.NamedLines.{NamedLines}
use Rattle.row_spelling.specs.Spelling.{lines_in}

-- whether a line is a row: it isn't empty, doesn't begin with `lines `, behind which a name and its lines stand, and isn't a heading, which
-- begins with `#`
abbrev pub is_row : List ℕ → Bool
is_row line = not (length line == 0) && (not (starts_with (λ a b. a == b) line (codes "lines ")) && not (slice_index line 0 == 35))

-- the name and the lines that a line gives behind `lines `, if they are spelled so
abbrev pub lines_given : List NamedLines → List ℕ → List (List ℕ × List ℕ)
lines_given named line = if starts_with (λ a b. a == b) line (codes "lines ") then option_to_list (lines_in named (drop 6 line)) else []

-- what stands in a line before its first space: all of it, if it has none
abbrev pub before_space : List ℕ → List ℕ
before_space = before_first (λ b. b == 32)

-- what stands after it
abbrev pub after_space : List ℕ → List ℕ
after_space = after_first (λ b. b == 32)

-- the answers with which writing may succeed: lines, and that the row is wrong, but not that memory ran out
abbrev pub MayBeWritten : {X : Type 0} → Result X RowError → Type 0
MayBeWritten (Ok done) = Unit {0}
MayBeWritten (Err errors.Wrong) = Unit {0}
MayBeWritten (Err (errors.Memory error)) = ⊥
