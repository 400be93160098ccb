-- What a header's bytes say: its functions, line by line. Nothing here says how lines are printed; what stands before the functions, the head of
-- each, and what stands behind them must be as it is printed.
use Rattle.std.specs.Prelude.{ℕ, zero, suc, ◌+◌, Bool, true, false, ◌&&◌, not, List, [], ◌∷◌, ◌++◌, map, Option, Some, None, if◌then◌else◌, ◌==◌}
use Rattle.std.specs.List.{list_any}
use Rattle.std.specs.Str.{bytes_eq}
use Rattle.oa_text.specs.Lines.{lines_of}
use Rattle.oa_text.specs.Tokens.{words_of}
use Rattle.norm_lang.specs.declared.text.RootDecl.{RootDecl}
use Rattle.norm_lang.specs.declared.text.NodeDecl.{NodeDecl}
use Rattle.c_language.specs.declared.lines.Line.{Line}
use Rattle.c_printer.specs.declared.operations.Operation.{Operation}
use Rattle.c_printer.specs.declared.tokens.Sign.TheVariants as signs
use Rattle.c_printer.specs.declared.tokens.Token.{Token}
use Rattle.c_printer.specs.declared.tokens.Token.TheVariants as tokens
use Rattle.c_printer.specs.Lexing.{after_said, tokens_said}
use Rattle.c_printer.specs.Reading.{is_sign, past, line_said}
use Rattle.c_printer.specs.Functions.{jumps_to, Function, claim_function}
use Rattle.c_printer.specs.Operations.{operation_function}
use Rattle.c_printer.specs.Header.{front_text, closing}

-- a line that was read, and whether a label stands before it
pub record Placed : Type 0 where
  pub labelled : Bool
  pub line : Line

-- lines that were read, and the lines of bytes that follow them
pub record CodeRead : Type 0 where
  pub placed : List Placed
  pub rest : List (List ℕ)

-- a line with its number: a label before it is its own
abbrev pub placed_said : ℕ → List Token → Option Placed
placed_said at (tokens.Label l ∷ ts) =
    if l == at then after_said (past (signs.Colon ∷ []) ts) (λ ts. after_said (line_said ts) (λ line. Some (record { labelled = true; line = line }))) else None
placed_said at ts = after_said (line_said ts) (λ line. Some (record { labelled = false; line = line }))

-- `}`
abbrev pub is_end : List Token → Bool
is_end (tokens.Sign s ∷ []) = is_sign signs.CloseBrace s
is_end _ = false

abbrev pub before : Placed → CodeRead → Option CodeRead
before placed code = Some (record code { placed = placed ∷ code.placed })

-- the lines up to a `}`, of which the first has this number
abbrev pub code_said : List ℕ → List (List ℕ) → ℕ → List (List ℕ) → Option CodeRead
code_said name names at [] = None
code_said name names at (bytes ∷ lines) =
    after_said (tokens_said name names (words_of bytes)) (λ ts.
    if is_end ts then Some (record { placed = []; rest = lines })
    else after_said (placed_said at ts) (λ placed. after_said (code_said name names (at + 1) lines) (before placed)))

abbrev pub same_bool : Bool → Bool → Bool
same_bool true b = b
same_bool false b = not b

-- a label stands where a line of the function jumps to, and nowhere else
abbrev pub labels_stand : List Line → ℕ → List Placed → Bool
labels_stand code at [] = true
labels_stand code at (placed ∷ rest) = same_bool placed.labelled (list_any (jumps_to at) code) && labels_stand code (at + 1) rest

abbrev pub lines_in : List Placed → List Line
lines_in placed = map (λ p. p.line) placed

-- a function's lines, and the lines of bytes that follow it
pub record FunctionRead : Type 0 where
  pub code : List Line
  pub rest : List (List ℕ)

abbrev pub function_of : CodeRead → Option FunctionRead
function_of read = if labels_stand (lines_in read.placed) 0 read.placed then Some (record { code = lines_in read.placed; rest = read.rest }) else None

-- the lines of bytes behind these
abbrev pub lines_behind : List (List ℕ) → List (List ℕ) → Option (List (List ℕ))
lines_behind [] lines = Some lines
lines_behind (front ∷ fronts) [] = None
lines_behind (front ∷ fronts) (line ∷ lines) = if bytes_eq line front then lines_behind fronts lines else None

-- what is known of a function before it is read: the names of its locals, and its head without the newline at its end
pub record Head : Type 0 where
  pub names : List (List ℕ)
  pub front : List ℕ

abbrev pub head_of : Function → Head
head_of function = record { names = function.names; front = function.front }

abbrev pub function_said : List ℕ → Head → List (List ℕ) → Option FunctionRead
function_said name head lines =
    after_said (lines_behind (lines_of (head.front ++ 10 ∷ [])) lines) (λ rest. after_said (code_said name head.names 0 rest) function_of)

-- no function, if no line of bytes is left
abbrev pub none_left : List (List ℕ) → Option (List (List Line))
none_left [] = Some []
none_left (line ∷ lines) = None

-- functions with these heads, and then the end of the header and nothing else
abbrev pub functions_said : List ℕ → List Head → List (List ℕ) → Option (List (List Line))
functions_said name [] lines = after_said (lines_behind (lines_of (closing name)) lines) none_left
functions_said name (head ∷ heads) lines =
    after_said (function_said name head lines) (λ read. after_said (functions_said name heads read.rest) (λ codes. Some (read.code ∷ codes)))

-- the heads of so many claims, of which the first is of this kind
abbrev pub claim_heads : List ℕ → List ℕ → ℕ → ℕ → List Head
claim_heads name strides kind zero = []
claim_heads name strides kind (suc count) = head_of (claim_function name strides kind []) ∷ claim_heads name strides (kind + 1) count

-- those of operations, whose lines don't matter
abbrev pub operation_heads : List ℕ → List ℕ → List Operation → List Head
operation_heads name strides operations = map (λ operation. head_of (operation_function name strides operation)) operations

-- the lines of the functions of a header: those of so many claims, and then those of operations with these names and counts of arguments
abbrev pub header_said : List ℕ → List ℕ → List RootDecl → List NodeDecl → ℕ → List Operation → List ℕ → Option (List (List Line))
header_said name strides roots nodes count operations bytes =
    after_said (lines_behind (lines_of (front_text name strides roots nodes operations ++ 10 ∷ [])) (lines_of bytes))
    (functions_said name (claim_heads name strides 0 count ++ operation_heads name strides operations))
