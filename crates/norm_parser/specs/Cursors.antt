-- What contracts see of a cursor.
use Rattle.std.specs.Prelude.{◌≡◌, ℕ, ◌+◌, List, [], ◌∷◌, ◌++◌, length, Option, Some, None}
use Rattle.oa_text.specs.Lines.{TextLine, lines_of, numbered}
use Rattle.line_words.specs.declared.fault.ParseError.{ParseError}
use Rattle.line_words.specs.declared.fault.ParseError.TheVariants as errors
use Rattle.norm_parser.specs.Instruction.{AreFrom}
use Rattle.norm_parser.specs.FrontRead.{from_line}

-- the lines that are left, and the number of the first of them. If there is none, it is one more than that of the last
-- line
pub record LinesLeft : Type 0 where
  pub number : ℕ
  pub lines : List TextLine

-- all lines of an input
abbrev pub all_lines : List ℕ → LinesLeft
all_lines bytes = record { number = 1; lines = numbered 1 (lines_of bytes) }

-- the number past that of the last line
abbrev pub past_of : LinesLeft → ℕ
past_of left = left.number + length left.lines

-- the lines after the first
abbrev pub rest_in : ℕ → List TextLine → LinesLeft
rest_in number [] = record { number = number; lines = [] }
rest_in number (line ∷ lines) = record { number = number + 1; lines = lines }

abbrev pub rest_of : LinesLeft → LinesLeft
rest_of left = rest_in left.number left.lines

-- a line is the next one, and the lines bear their numbers
pub record StandsNext (line : TextLine) (left : LinesLeft) : Type 0 where
  pub first : left.lines ≡ line ∷ (rest_of left).lines
  pub number : line.number ≡ left.number
  pub ordered : AreFrom left.number left.lines

-- what is left after some of the lines were taken
pub record IsRestOf (whole left : LinesLeft) : Type 0 where
  pub taken : List TextLine
  pub same : taken ++ left.lines ≡ whole.lines
  pub count : whole.number + length taken ≡ left.number

-- what is left are the lines from its number on
abbrev pub AreTheLater : LinesLeft → LinesLeft → Type 0
AreTheLater whole left = left.lines ≡ from_line left.number whole.lines

-- a fault's line is the first that is left after it, and none is left if the fault stands past the last line. If memory runs
-- out, any lines may be left
abbrev pub AreLeftFrom : ParseError → List TextLine → List TextLine → Type 0
AreLeftFrom errors.Memory whole left = Unit {0}
AreLeftFrom (errors.Fault fault) whole left = left ≡ from_line fault.line whole

-- a line, if there is one, before others
abbrev pub with_next : Option TextLine → List TextLine → List TextLine
with_next None lines = lines
with_next (Some line) lines = line ∷ lines

-- after no line there is none
abbrev pub IsLast : Option TextLine → List TextLine → Type 0
IsLast None lines = lines ≡ []
IsLast (Some line) lines = Unit {0}
