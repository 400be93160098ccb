-- The bytes of a token. A token is one word of a line, with a space before it.
use Rattle.std.specs.Prelude.{ℕ, List, [], ◌∷◌, ◌++◌, map, codes, decimal, Option, Some, None, slice_get}
use Rattle.norm_lang.specs.Spelling.{spaced}
use Rattle.c_language.specs.declared.lines.Parameter.{Parameter}
use Rattle.c_language.specs.declared.lines.Parameter.TheVariants as parameters
use Rattle.c_language.specs.declared.lines.Operand.{Operand}
use Rattle.c_language.specs.declared.lines.Operand.TheVariants as operands
use Rattle.c_language.specs.declared.lines.Answer.{Answer}
use Rattle.c_language.specs.declared.lines.Answer.TheVariants as answers
use Rattle.c_printer.specs.declared.tokens.Sign.{Sign}
use Rattle.c_printer.specs.declared.tokens.Sign.TheVariants as signs
use Rattle.c_printer.specs.declared.tokens.Entry.{Entry}
use Rattle.c_printer.specs.declared.tokens.Entry.TheVariants as entries
use Rattle.c_printer.specs.declared.tokens.Token.{Token}
use Rattle.c_printer.specs.declared.tokens.Token.TheVariants as tokens

abbrev pub sign_word : Sign → List ℕ
sign_word signs.Becomes = codes "="
sign_word signs.Semicolon = codes ";"
sign_word signs.Comma = codes ","
sign_word signs.Open = codes "("
sign_word signs.Close = codes ")"
sign_word signs.OpenBracket = codes "["
sign_word signs.CloseBracket = codes "]"
sign_word signs.OpenBrace = codes "{"
sign_word signs.CloseBrace = codes "}"
sign_word signs.Plus = codes "+"
sign_word signs.Minus = codes "-"
sign_word signs.Star = codes "*"
sign_word signs.Slash = codes "/"
sign_word signs.Percent = codes "%"
sign_word signs.Equal = codes "=="
sign_word signs.Differ = codes "!="
sign_word signs.Less = codes "<"
sign_word signs.Greater = codes ">"
sign_word signs.Question = codes "?"
sign_word signs.Colon = codes ":"
sign_word signs.Address = codes "&"
sign_word signs.Goto = codes "goto"
sign_word signs.If = codes "if"
sign_word signs.Return = codes "return"
sign_word signs.Uint64 = codes "uint64_t"
sign_word signs.Temporary = codes "w"
sign_word signs.Reply = codes "reply"
sign_word signs.Caller = codes "caller"
sign_word signs.Phase = codes "pool->phase.word"
sign_word signs.Row = codes "row"
sign_word signs.Warning = codes ".warning"
sign_word signs.Hazard = codes ".hazard"
sign_word signs.Status = codes "status"
sign_word signs.Link = codes "link"
sign_word signs.Head = codes "head"
sign_word signs.Word = codes ".word"
sign_word signs.Root = codes "root"
sign_word signs.RootStride = codes "root_stride"
sign_word signs.Noted = codes "noted"
sign_word signs.Cradle = codes "cradle"

-- bytes, and a number in decimal
abbrev pub numbered : List ℕ → ℕ → List ℕ
numbered bytes number = bytes ++ decimal number

-- the suffix makes a constant 64 bits wide
abbrev pub constant_word : ℕ → List ℕ
constant_word number = decimal number ++ codes "ull"

abbrev pub parameter_word : Parameter → List ℕ
parameter_word parameters.Slots = codes "slots"
parameter_word parameters.Callers = codes "callers"
parameter_word parameters.LastPhase = codes "last_phase"
parameter_word (parameters.FirstSlot k) = numbered (codes "first_") k
parameter_word parameters.Tops = codes "tops"
parameter_word parameters.Own = codes "own"

abbrev pub name_or_none : Option (List ℕ) → List ℕ
name_or_none None = []
name_or_none (Some name) = name

-- the name of a local; no bytes past the end of the table
abbrev pub local_name : List (List ℕ) → ℕ → List ℕ
local_name names d = name_or_none (slice_get names d)

abbrev pub operand_word : List (List ℕ) → Operand → List ℕ
operand_word names (operands.Number n) = constant_word n
operand_word names (operands.Local d) = local_name names d
operand_word names (operands.Of parameter) = parameter_word parameter

abbrev pub answer_word : Answer → List ℕ
answer_word answers.Number = codes "_Number"
answer_word answers.Nothing = codes "_Nothing"
answer_word answers.Full = codes "_Full"
answer_word answers.Phases = codes "_Phases"

-- what follows the header's name
abbrev pub entry_end : Entry → List ℕ
entry_end entries.Load = codes "_LOAD"
entry_end entries.Store = codes "_STORE"
entry_end entries.Swap = codes "_SWAP"
entry_end (entries.Answer answer) = answer_word answer
entry_end (entries.Claim function) = numbered (codes "_Claim") function

abbrev pub entry_word : List ℕ → Entry → List ℕ
entry_word name entry = name ++ entry_end entry

abbrev pub token_word : List ℕ → List (List ℕ) → Token → List ℕ
token_word name names (tokens.Sign sign) = sign_word sign
token_word name names (tokens.Operand operand) = operand_word names operand
token_word name names (tokens.Label l) = numbered (codes "line_") l
token_word name names (tokens.Field k) = numbered (codes "field_") k
token_word name names (tokens.Below k) = numbered (codes "below_") k
token_word name names (tokens.Stride k) = numbered (codes "stride_") k
token_word name names (tokens.Entry entry) = entry_word name entry

-- the tokens of a line, each after a space
abbrev pub token_bytes : List ℕ → List (List ℕ) → List Token → List ℕ
token_bytes name names tokens = spaced (map (token_word name names) tokens)

-- the same with a newline
abbrev pub token_line : List ℕ → List (List ℕ) → List Token → List ℕ
token_line name names tokens = token_bytes name names tokens ++ 10 ∷ []
