-- The token that a word is. Nothing here says how tokens are printed.
use Rattle.std.specs.Prelude.{ℕ, ◌-◌, Bool, false, ◌&&◌, List, [], ◌∷◌, codes, take, drop, length, nat_le, Option, Some, None, if◌then◌else◌, ◌==◌}
use Rattle.std.specs.List.{list_any, position}
use Rattle.std.specs.Str.{bytes_eq}
use Rattle.oa_text.specs.Numbers.{is_digit, is_numeral, number_of, fitting}
use Rattle.c_language.specs.declared.lines.Parameter.TheVariants as parameters
use Rattle.c_language.specs.declared.lines.Operand.{Operand}
use Rattle.c_language.specs.declared.lines.Operand.TheVariants as operands
use Rattle.c_language.specs.declared.lines.Answer.TheVariants as answers
use Rattle.c_printer.specs.declared.tokens.Sign.{Sign}
use Rattle.c_printer.specs.declared.tokens.Sign.TheVariants as signs
use Rattle.c_printer.specs.declared.tokens.Entry.{Entry}
use Rattle.c_printer.specs.declared.tokens.Entry.TheVariants as entries
use Rattle.c_printer.specs.declared.tokens.Token.{Token}
use Rattle.c_printer.specs.declared.tokens.Token.TheVariants as tokens

abbrev pub after_said : {X Y : Type 0} → Option X → (X → Option Y) → Option Y
after_said None f = None
after_said (Some x) f = f x

-- the first that is said
abbrev pub or_said : {X : Type 0} → Option X → Option X → Option X
or_said None other = other
or_said (Some x) other = Some x

-- a numeral in decimal, of a number that fits 64 bits
abbrev pub number_said : List ℕ → Option ℕ
number_said word = if is_numeral word then fitting (number_of word) else None

-- what follows these bytes, if a word begins with them
abbrev pub behind : List ℕ → List ℕ → Option (List ℕ)
behind [] word = Some word
behind (b ∷ front) [] = None
behind (b ∷ front) (c ∷ word) = if c == b then behind front word else None

-- the number that follows these bytes
abbrev pub number_behind : List ℕ → List ℕ → Option ℕ
number_behind front word = after_said (behind front word) number_said

-- a numeral and `ull`
abbrev pub constant_said : List ℕ → Option ℕ
constant_said word = if bytes_eq (drop (length word - 3) word) (codes "ull") then number_said (take (length word - 3) word) else None

abbrev pub sign_said : List ℕ → Option Sign
sign_said word =
    if bytes_eq word (codes "=") then Some signs.Becomes
    else (if bytes_eq word (codes ";") then Some signs.Semicolon
    else (if bytes_eq word (codes ",") then Some signs.Comma
    else (if bytes_eq word (codes "(") then Some signs.Open
    else (if bytes_eq word (codes ")") then Some signs.Close
    else (if bytes_eq word (codes "[") then Some signs.OpenBracket
    else (if bytes_eq word (codes "]") then Some signs.CloseBracket
    else (if bytes_eq word (codes "{") then Some signs.OpenBrace
    else (if bytes_eq word (codes "}") then Some signs.CloseBrace
    else (if bytes_eq word (codes "+") then Some signs.Plus
    else (if bytes_eq word (codes "-") then Some signs.Minus
    else (if bytes_eq word (codes "*") then Some signs.Star
    else (if bytes_eq word (codes "/") then Some signs.Slash
    else (if bytes_eq word (codes "%") then Some signs.Percent
    else (if bytes_eq word (codes "==") then Some signs.Equal
    else (if bytes_eq word (codes "!=") then Some signs.Differ
    else (if bytes_eq word (codes "<") then Some signs.Less
    else (if bytes_eq word (codes ">") then Some signs.Greater
    else (if bytes_eq word (codes "?") then Some signs.Question
    else (if bytes_eq word (codes ":") then Some signs.Colon
    else (if bytes_eq word (codes "&") then Some signs.Address
    else (if bytes_eq word (codes "goto") then Some signs.Goto
    else (if bytes_eq word (codes "if") then Some signs.If
    else (if bytes_eq word (codes "return") then Some signs.Return
    else (if bytes_eq word (codes "uint64_t") then Some signs.Uint64
    else (if bytes_eq word (codes "w") then Some signs.Temporary
    else (if bytes_eq word (codes "reply") then Some signs.Reply
    else (if bytes_eq word (codes "caller") then Some signs.Caller
    else (if bytes_eq word (codes "pool->phase.word") then Some signs.Phase
    else (if bytes_eq word (codes "row") then Some signs.Row
    else (if bytes_eq word (codes ".warning") then Some signs.Warning
    else (if bytes_eq word (codes ".hazard") then Some signs.Hazard
    else (if bytes_eq word (codes "status") then Some signs.Status
    else (if bytes_eq word (codes "link") then Some signs.Link
    else (if bytes_eq word (codes "head") then Some signs.Head
    else (if bytes_eq word (codes ".word") then Some signs.Word
    else (if bytes_eq word (codes "root") then Some signs.Root
    else (if bytes_eq word (codes "root_stride") then Some signs.RootStride
    else (if bytes_eq word (codes "noted") then Some signs.Noted
    else (if bytes_eq word (codes "cradle") then Some signs.Cradle
    else None)))))))))))))))))))))))))))))))))))))))

abbrev pub parameter_said : List ℕ → Option Operand
parameter_said word =
    if bytes_eq word (codes "slots") then Some (operands.Of parameters.Slots)
    else (if bytes_eq word (codes "callers") then Some (operands.Of parameters.Callers)
    else (if bytes_eq word (codes "last_phase") then Some (operands.Of parameters.LastPhase)
    else (if bytes_eq word (codes "tops") then Some (operands.Of parameters.Tops)
    else (if bytes_eq word (codes "own") then Some (operands.Of parameters.Own)
    else after_said (number_behind (codes "first_") word) (λ k. Some (operands.Of (parameters.FirstSlot k)))))))

-- a label, or a name of a kind's
abbrev pub numbered_said : List ℕ → Option Token
numbered_said word =
    or_said (after_said (number_behind (codes "line_") word) (λ l. Some (tokens.Label l)))
    (or_said (after_said (number_behind (codes "field_") word) (λ k. Some (tokens.Field k)))
    (or_said (after_said (number_behind (codes "below_") word) (λ k. Some (tokens.Below k)))
    (after_said (number_behind (codes "stride_") word) (λ k. Some (tokens.Stride k)))))

-- a local: the place of the name in the table
abbrev pub local_said : List (List ℕ) → List ℕ → Option Operand
local_said names word = after_said (position (λ name. bytes_eq name word) names) (λ d. Some (operands.Local d))

-- what follows the header's name
abbrev pub entry_said : List ℕ → Option Entry
entry_said end =
    if bytes_eq end (codes "_LOAD") then Some entries.Load
    else (if bytes_eq end (codes "_STORE") then Some entries.Store
    else (if bytes_eq end (codes "_SWAP") then Some entries.Swap
    else (if bytes_eq end (codes "_Number") then Some (entries.Answer answers.Number)
    else (if bytes_eq end (codes "_Nothing") then Some (entries.Answer answers.Nothing)
    else (if bytes_eq end (codes "_Full") then Some (entries.Answer answers.Full)
    else (if bytes_eq end (codes "_Phases") then Some (entries.Answer answers.Phases)
    else after_said (number_behind (codes "_Claim") end) (λ function. Some (entries.Claim function))))))))

abbrev pub is_capital : ℕ → Bool
is_capital b = nat_le 65 b && nat_le b 90

abbrev pub begins_with_digit : List ℕ → Bool
begins_with_digit [] = false
begins_with_digit (b ∷ bytes) = is_digit b

-- a word without a capital letter that isn't a constant: a sign, a number of the pool, a label or a kind's, or a local
abbrev pub small_said : List (List ℕ) → List ℕ → Option Token
small_said names word =
    or_said (after_said (sign_said word) (λ s. Some (tokens.Sign s)))
    (or_said (after_said (parameter_said word) (λ a. Some (tokens.Operand a)))
    (or_said (numbered_said word) (after_said (local_said names word) (λ a. Some (tokens.Operand a)))))

-- a word's token. Those with a capital letter begin with the header's name, and no others have one
abbrev pub token_said : List ℕ → List (List ℕ) → List ℕ → Option Token
token_said name names word =
    if list_any is_capital word then after_said (behind name word) (λ end. after_said (entry_said end) (λ e. Some (tokens.Entry e)))
    else (if begins_with_digit word then after_said (constant_said word) (λ n. Some (tokens.Operand (operands.Number n)))
    else small_said names word)

-- the tokens of words, if each is one
abbrev pub tokens_said : List ℕ → List (List ℕ) → List (List ℕ) → Option (List Token)
tokens_said name names [] = Some []
tokens_said name names (word ∷ words) = after_said (token_said name names word) (λ t. after_said (tokens_said name names words) (λ ts. Some (t ∷ ts)))
