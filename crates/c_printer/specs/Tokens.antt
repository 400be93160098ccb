-- The tokens of values, tests, places and lines.
use Rattle.std.specs.Prelude.{ℕ, List, [], ◌∷◌, ◌++◌}
use Rattle.c_language.specs.declared.lines.Operand.{Operand}
use Rattle.c_language.specs.declared.lines.Operand.TheVariants.{Number, Local}
use Rattle.c_language.specs.declared.lines.Value.{Value}
use Rattle.c_language.specs.declared.lines.Value.TheVariants as values
use Rattle.c_language.specs.declared.lines.Place.{Place}
use Rattle.c_language.specs.declared.lines.Place.TheVariants as places
use Rattle.c_language.specs.declared.lines.Test.{Test}
use Rattle.c_language.specs.declared.lines.Test.TheVariants as tests
use Rattle.c_language.specs.declared.lines.Line.{Line}
use Rattle.c_language.specs.declared.lines.Line.TheVariants as lines
use Rattle.c_printer.specs.declared.tokens.Sign.{Sign}
use Rattle.c_printer.specs.declared.tokens.Sign.TheVariants as signs
use Rattle.c_printer.specs.declared.tokens.Entry.{Entry}
use Rattle.c_printer.specs.declared.tokens.Entry.TheVariants as entries
use Rattle.c_printer.specs.declared.tokens.Token.{Token}
use Rattle.c_printer.specs.declared.tokens.Token.TheVariants as tokens

abbrev pub sign : Sign → Token
sign s = tokens.Sign s

abbrev pub reads : Operand → Token
reads a = tokens.Operand a

-- `ARRAY [ A ]`
abbrev pub indexed : Sign → Operand → List Token
indexed array a = sign array ∷ sign signs.OpenBracket ∷ reads a ∷ sign signs.CloseBracket ∷ []

-- `( J > below_K ? J - below_K : 0ull )`: which of a kind's nodes a slot is, null being the first
abbrev pub node_tokens : ℕ → Operand → List Token
node_tokens k j =
    sign signs.Open ∷ reads j ∷ sign signs.Greater ∷ tokens.Below k ∷ sign signs.Question ∷ reads j ∷ sign signs.Minus ∷ tokens.Below k ∷ sign signs.Colon
    ∷ reads (Number 0) ∷ sign signs.Close ∷ []

-- `field_K [ NODE * stride_K + Gull ]`
abbrev pub field_tokens : ℕ → Operand → ℕ → List Token
field_tokens k j g =
    tokens.Field k ∷ sign signs.OpenBracket
    ∷ (node_tokens k j ++ (sign signs.Star ∷ tokens.Stride k ∷ sign signs.Plus ∷ reads (Number g) ∷ sign signs.CloseBracket ∷ []))

-- `root [ ( Xull + A ) * root_stride ]`
abbrev pub root_tokens : ℕ → Operand → List Token
root_tokens x a =
    sign signs.Root ∷ sign signs.OpenBracket ∷ sign signs.Open ∷ reads (Number x) ∷ sign signs.Plus ∷ reads a ∷ sign signs.Close ∷ sign signs.Star
    ∷ sign signs.RootStride ∷ sign signs.CloseBracket ∷ []

abbrev pub place_tokens : Place → List Token
place_tokens places.Phase = sign signs.Phase ∷ []
place_tokens (places.Warning c) = indexed signs.Row c ++ (sign signs.Warning ∷ [])
place_tokens (places.Hazard c r) = indexed signs.Row c ++ indexed signs.Hazard r
place_tokens (places.Status j) = indexed signs.Status j
place_tokens (places.Field k j g) = field_tokens k j g
place_tokens (places.Root x a) = root_tokens x a
place_tokens (places.Head k) = indexed signs.Head k ++ (sign signs.Word ∷ [])
place_tokens (places.Link j) = indexed signs.Link j

abbrev pub two_tokens : Operand → Sign → Operand → List Token
two_tokens a s b = reads a ∷ sign s ∷ reads b ∷ []

abbrev pub value_tokens : Value → List Token
value_tokens (values.Is a) = reads a ∷ []
value_tokens (values.Plus a b) = two_tokens a signs.Plus b
value_tokens (values.Minus a b) = two_tokens a signs.Minus b
value_tokens (values.Times a b) = two_tokens a signs.Star b
value_tokens (values.Over a b) = two_tokens a signs.Slash b
value_tokens (values.Rest a b) = two_tokens a signs.Percent b

abbrev pub test_tokens : Test → List Token
test_tokens (tests.Equal a b) = two_tokens a signs.Equal b
test_tokens (tests.Differ a b) = two_tokens a signs.Differ b
test_tokens (tests.Less a b) = two_tokens a signs.Less b

-- `goto line_L ;`
abbrev pub jump_tokens : ℕ → List Token
jump_tokens l = sign signs.Goto ∷ tokens.Label l ∷ sign signs.Semicolon ∷ []

-- `D =`
abbrev pub becomes_tokens : ℕ → List Token
becomes_tokens d = reads (Local d) ∷ sign signs.Becomes ∷ []

-- `NAME_LOAD ( & PLACE`
abbrev pub access_tokens : Entry → Place → List Token
access_tokens entry place = tokens.Entry entry ∷ sign signs.Open ∷ sign signs.Address ∷ place_tokens place

-- `noted [ J ] = 1ull ;`
abbrev pub bit_tokens : Operand → ℕ → List Token
bit_tokens j bit = indexed signs.Noted j ++ (sign signs.Becomes ∷ reads (Number bit) ∷ sign signs.Semicolon ∷ [])

-- a line. An exchange reads all its operands before it sets its local, by a temporary
abbrev pub line_tokens : Line → List Token
line_tokens (lines.Let d value) = becomes_tokens d ++ (value_tokens value ++ (sign signs.Semicolon ∷ []))
line_tokens (lines.Goto l) = jump_tokens l
line_tokens (lines.If test l) = sign signs.If ∷ sign signs.Open ∷ (test_tokens test ++ (sign signs.Close ∷ jump_tokens l))
line_tokens (lines.Load d place) = becomes_tokens d ++ (access_tokens entries.Load place ++ (sign signs.Close ∷ sign signs.Semicolon ∷ []))
line_tokens (lines.Store place a) =
    access_tokens entries.Store place ++ (sign signs.Comma ∷ reads a ∷ sign signs.Close ∷ sign signs.Semicolon ∷ [])
line_tokens (lines.Exchange d place expected replacement) =
    sign signs.OpenBrace ∷ sign signs.Uint64 ∷ sign signs.Temporary ∷ sign signs.Becomes ∷ reads expected ∷ sign signs.Semicolon
    ∷ (access_tokens entries.Swap place
    ++ (sign signs.Comma ∷ sign signs.Address ∷ sign signs.Temporary ∷ sign signs.Comma ∷ reads replacement ∷ sign signs.Close ∷ sign signs.Semicolon
    ∷ (becomes_tokens d ++ (sign signs.Temporary ∷ sign signs.Semicolon ∷ sign signs.CloseBrace ∷ []))))
line_tokens (lines.Note j) = bit_tokens j 1
line_tokens (lines.IfNoted j l) =
    sign signs.If ∷ sign signs.Open ∷ (indexed signs.Noted j ++ (sign signs.Close ∷ sign signs.OpenBrace ∷ (bit_tokens j 0 ++ (jump_tokens l ++ (sign signs.CloseBrace ∷ [])))))
line_tokens (lines.Get d k) = becomes_tokens d ++ (indexed signs.Cradle (Number k) ++ (sign signs.Semicolon ∷ []))
line_tokens (lines.Keep k a) = indexed signs.Cradle (Number k) ++ (sign signs.Becomes ∷ reads a ∷ sign signs.Semicolon ∷ [])
line_tokens (lines.Call d function) =
    becomes_tokens d ++ (tokens.Entry (entries.Claim function) ∷ sign signs.Open ∷ sign signs.Caller ∷ sign signs.Close ∷ sign signs.Semicolon ∷ [])
line_tokens (lines.Return a) = sign signs.Return ∷ reads a ∷ sign signs.Semicolon ∷ []
line_tokens (lines.Reply answer a) =
    sign signs.OpenBrace ∷ sign signs.Star ∷ sign signs.Reply ∷ sign signs.Becomes ∷ reads a ∷ sign signs.Semicolon ∷ sign signs.Return
    ∷ tokens.Entry (entries.Answer answer) ∷ sign signs.Semicolon ∷ sign signs.CloseBrace ∷ []
