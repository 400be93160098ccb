-- A function: its head, its lines and its end. The templates are the code's constants.
use Rattle.std.specs.Prelude.{ℕ, ◌+◌, Bool, false, List, [], ◌∷◌, ◌++◌, if◌then◌else◌, ◌==◌}
use Rattle.std.specs.List.{flat_map, list_any}
use Rattle.c_language.specs.declared.lines.Line.{Line}
use Rattle.c_language.specs.declared.lines.Line.TheVariants as lines
use Rattle.c_printer.specs.declared.tokens.Sign.TheVariants as signs
use Rattle.c_printer.specs.declared.tokens.Token.{Token}
use Rattle.c_printer.specs.declared.tokens.Token.TheVariants as tokens
use Rattle.c_printer.specs.declared.templates.TheConstants.{CLAIM_HEAD, FIRST_KIND, FURTHER_KIND, LOCAL, POOL_NAMES}
use Rattle.c_printer.specs.Names.{claim_names}
use Rattle.c_printer.specs.Words.{token_line}
use Rattle.c_printer.specs.Tokens.{sign, line_tokens}
use Rattle.c_printer.specs.Filling.{filled}

abbrev pub jumps_to : ℕ → Line → Bool
jumps_to at (lines.Goto l) = l == at
jumps_to at (lines.If test l) = l == at
jumps_to at (lines.IfNoted a l) = l == at
jumps_to at _ = false

-- the tokens of a line of a function, with its number: after a label, if a line jumps to it
abbrev pub placed_tokens : List Line → ℕ → Line → List Token
placed_tokens code at line =
    (if list_any (jumps_to at) code then tokens.Label at ∷ sign signs.Colon ∷ [] else []) ++ line_tokens line

-- some of a function's lines, of which the first has this number
abbrev pub code_text : List ℕ → List (List ℕ) → List Line → ℕ → List Line → List ℕ
code_text name names code at [] = []
code_text name names code at (line ∷ rest) = token_line name names (placed_tokens code at line) ++ code_text name names code (at + 1) rest

-- the names of a kind
unfoldable pub kind_text : ℕ → ℕ → List ℕ
kind_text kind stride = if kind == 0 then filled [] kind stride FIRST_KIND.now else filled [] kind stride FURTHER_KIND.now

-- those of kinds, of which the first has this number
abbrev pub kind_texts : ℕ → List ℕ → List ℕ
kind_texts kind [] = []
kind_texts kind (stride ∷ strides) = kind_text kind stride ++ kind_texts (kind + 1) strides

unfoldable pub local_text : List ℕ → List ℕ
local_text name = filled name 0 0 LOCAL.now

abbrev pub local_texts : List (List ℕ) → List ℕ
local_texts names = flat_map local_text names

-- what a function reads of the pool
unfoldable pub pool_names : List ℕ → List ℕ
pool_names name = filled name 0 0 POOL_NAMES.now

unfoldable pub claim_head : List ℕ → ℕ → List ℕ
claim_head name kind = filled name kind 0 CLAIM_HEAD.now

-- the head of a kind's claim, without the newline at its end
abbrev pub claim_front : List ℕ → List ℕ → ℕ → List ℕ
claim_front name strides kind = claim_head name kind ++ (pool_names name ++ (kind_texts 0 strides ++ local_texts claim_names))

-- a function: the names of its locals, its head without the newline at its end, and its lines
pub record Function : Type 0 where
  pub names : List (List ℕ)
  pub front : List ℕ
  pub code : List Line

abbrev pub claim_function : List ℕ → List ℕ → ℕ → List Line → Function
claim_function name strides kind code = record { names = claim_names; front = claim_front name strides kind; code = code }

-- the lines of a function and its end
abbrev pub body_text : List ℕ → List (List ℕ) → List Line → List ℕ
body_text name names code = code_text name names code 0 code ++ token_line name names (sign signs.CloseBrace ∷ [])

abbrev pub function_text : List ℕ → Function → List ℕ
function_text name function = function.front ++ (10 ∷ body_text name function.names function.code)
