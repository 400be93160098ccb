-- The line that tokens say, told by the tokens from left to right, as a reader of C would. Nothing here says how lines are printed.
use Rattle.std.specs.Prelude.{ℕ, Bool, true, false, List, [], ◌∷◌, Option, Some, None, if◌then◌else◌, ◌==◌}
use Rattle.std.specs.Str.{bytes_eq}
use Rattle.c_language.specs.declared.lines.Parameter.{Parameter}
use Rattle.c_language.specs.declared.lines.Parameter.TheVariants as parameters
use Rattle.c_language.specs.declared.lines.Operand.{Operand}
use Rattle.c_language.specs.declared.lines.Operand.TheVariants.{Number, Local, Of}
use Rattle.c_language.specs.declared.lines.Value.{Value}
use Rattle.c_language.specs.declared.lines.Value.TheVariants as values
use Rattle.c_language.specs.declared.lines.Place.{Place}
use Rattle.c_language.specs.declared.lines.Place.TheVariants as places
use Rattle.c_language.specs.declared.lines.Test.{Test}
use Rattle.c_language.specs.declared.lines.Test.TheVariants as tests
use Rattle.c_language.specs.declared.lines.Line.{Line}
use Rattle.c_language.specs.declared.lines.Line.TheVariants as lines
use Rattle.c_printer.specs.declared.tokens.Sign.{Sign}
use Rattle.c_printer.specs.declared.tokens.Sign.TheVariants as signs
use Rattle.c_printer.specs.declared.tokens.Entry.{Entry}
use Rattle.c_printer.specs.declared.tokens.Entry.TheVariants as entries
use Rattle.c_printer.specs.declared.tokens.Token.{Token}
use Rattle.c_printer.specs.declared.tokens.Token.TheVariants as tokens
use Rattle.c_printer.specs.Words.{sign_word}
use Rattle.c_printer.specs.Lexing.{after_said}

-- what is read, and the tokens that follow it
abbrev pub Read : Type 0 → Type 0
Read X = Option (X × List Token)

-- signs are one if they are written so
abbrev pub is_sign : Sign → Sign → Bool
is_sign s t = bytes_eq (sign_word s) (sign_word t)

abbrev pub is_token : Sign → Token → Bool
is_token s (tokens.Sign t) = is_sign s t
is_token s _ = false

-- the tokens after these signs, if they begin with them
abbrev pub past : List Sign → List Token → Option (List Token)
past [] ts = Some ts
past (s ∷ ss) [] = None
past (s ∷ ss) (t ∷ ts) = if is_token s t then past ss ts else None

abbrev pub operand_read : List Token → Read Operand
operand_read (tokens.Operand a ∷ ts) = Some (a, ts)
operand_read _ = None

-- `ull` constants where nothing else may stand
abbrev pub number_read : List Token → Read ℕ
number_read (tokens.Operand (Number n) ∷ ts) = Some (n, ts)
number_read _ = None

abbrev pub local_read : List Token → Read ℕ
local_read (tokens.Operand (Local d) ∷ ts) = Some (d, ts)
local_read _ = None

abbrev pub label_read : List Token → Read ℕ
label_read (tokens.Label l ∷ ts) = Some (l, ts)
label_read _ = None

abbrev pub below_read : List Token → Read ℕ
below_read (tokens.Below k ∷ ts) = Some (k, ts)
below_read _ = None

abbrev pub stride_read : List Token → Read ℕ
stride_read (tokens.Stride k ∷ ts) = Some (k, ts)
stride_read _ = None

-- operands are the same
abbrev pub is_parameter : Parameter → Parameter → Bool
is_parameter parameters.Slots parameters.Slots = true
is_parameter parameters.Callers parameters.Callers = true
is_parameter parameters.LastPhase parameters.LastPhase = true
is_parameter (parameters.FirstSlot k) (parameters.FirstSlot l) = k == l
is_parameter parameters.Tops parameters.Tops = true
is_parameter parameters.Own parameters.Own = true
is_parameter _ _ = false

abbrev pub is_operand : Operand → Operand → Bool
is_operand (Number m) (Number n) = m == n
is_operand (Local c) (Local d) = c == d
is_operand (Of p) (Of q) = is_parameter p q
is_operand _ _ = false

-- `[ A ]`
abbrev pub index_read : List Token → Read Operand
index_read ts = after_said (past (signs.OpenBracket ∷ []) ts) (λ ts. after_said (operand_read ts) (λ a. after_said (past (signs.CloseBracket ∷ []) a.1) (λ ts. Some (a.0, ts))))

abbrev pub same_operand : Operand → Read Operand → Option (List Token)
same_operand a None = None
same_operand a (Some (b, ts)) = if is_operand b a then Some ts else None

abbrev pub same_number : ℕ → Read ℕ → Option (List Token)
same_number k None = None
same_number k (Some (n, ts)) = if n == k then Some ts else None

-- after `field_K`: `[ ( J > below_K ? J - below_K : 0ull ) * stride_K + Gull ]`
abbrev pub field_read : ℕ → List Token → Read Place
field_read k ts =
    after_said (past (signs.OpenBracket ∷ signs.Open ∷ []) ts) (λ ts. after_said (operand_read ts) (λ j.
    after_said (past (signs.Greater ∷ []) j.1) (λ ts. after_said (same_number k (below_read ts)) (λ ts.
    after_said (past (signs.Question ∷ []) ts) (λ ts. after_said (same_operand j.0 (operand_read ts)) (λ ts.
    after_said (past (signs.Minus ∷ []) ts) (λ ts. after_said (same_number k (below_read ts)) (λ ts.
    after_said (past (signs.Colon ∷ []) ts) (λ ts. after_said (same_number 0 (number_read ts)) (λ ts.
    after_said (past (signs.Close ∷ signs.Star ∷ []) ts) (λ ts. after_said (same_number k (stride_read ts)) (λ ts.
    after_said (past (signs.Plus ∷ []) ts) (λ ts. after_said (number_read ts) (λ g.
    after_said (past (signs.CloseBracket ∷ []) g.1) (λ ts. Some (places.Field k j.0 g.0, ts))))))))))))))))

-- after `root`: `[ ( Xull + A ) * root_stride ]`
abbrev pub root_read : List Token → Read Place
root_read ts =
    after_said (past (signs.OpenBracket ∷ signs.Open ∷ []) ts) (λ ts. after_said (number_read ts) (λ x.
    after_said (past (signs.Plus ∷ []) x.1) (λ ts. after_said (operand_read ts) (λ a.
    after_said (past (signs.Close ∷ signs.Star ∷ signs.RootStride ∷ signs.CloseBracket ∷ []) a.1) (λ ts. Some (places.Root x.0 a.0, ts))))))

-- after `row [ C ]`
abbrev pub row_read : Operand → List Token → Read Place
row_read c (tokens.Sign signs.Warning ∷ ts) = Some (places.Warning c, ts)
row_read c (tokens.Sign signs.Hazard ∷ ts) = after_said (index_read ts) (λ r. Some (places.Hazard c r.0, r.1))
row_read c _ = None

abbrev pub array_read : Sign → List Token → Read Place
array_read signs.Phase ts = Some (places.Phase, ts)
array_read signs.Row ts = after_said (index_read ts) (λ c. row_read c.0 c.1)
array_read signs.Status ts = after_said (index_read ts) (λ j. Some (places.Status j.0, j.1))
array_read signs.Link ts = after_said (index_read ts) (λ j. Some (places.Link j.0, j.1))
array_read signs.Head ts = after_said (index_read ts) (λ k. after_said (past (signs.Word ∷ []) k.1) (λ ts. Some (places.Head k.0, ts)))
array_read signs.Root ts = root_read ts
array_read _ ts = None

abbrev pub place_read : List Token → Read Place
place_read (tokens.Sign s ∷ ts) = array_read s ts
place_read (tokens.Field k ∷ ts) = field_read k ts
place_read _ = None

abbrev pub value_of : Operand → Sign → Operand → Option Value
value_of a signs.Plus b = Some (values.Plus a b)
value_of a signs.Minus b = Some (values.Minus a b)
value_of a signs.Star b = Some (values.Times a b)
value_of a signs.Slash b = Some (values.Over a b)
value_of a signs.Percent b = Some (values.Rest a b)
value_of a _ b = None

-- a value up to the `;` that ends the line
abbrev pub value_said : List Token → Option Value
value_said (tokens.Operand a ∷ tokens.Sign signs.Semicolon ∷ []) = Some (values.Is a)
value_said (tokens.Operand a ∷ tokens.Sign s ∷ tokens.Operand b ∷ tokens.Sign signs.Semicolon ∷ []) = value_of a s b
value_said _ = None

abbrev pub test_of : Operand → Sign → Operand → Option Test
test_of a signs.Equal b = Some (tests.Equal a b)
test_of a signs.Differ b = Some (tests.Differ a b)
test_of a signs.Less b = Some (tests.Less a b)
test_of a _ b = None

abbrev pub sign_read : List Token → Read Sign
sign_read (tokens.Sign s ∷ ts) = Some (s, ts)
sign_read _ = None

abbrev pub test_read : List Token → Read Test
test_read ts =
    after_said (operand_read ts) (λ a. after_said (sign_read a.1) (λ s. after_said (operand_read s.1) (λ b. after_said (test_of a.0 s.0 b.0) (λ t. Some (t, b.1)))))

-- nothing follows
abbrev pub ends : {X : Type 0} → X → Option (List Token) → Option X
ends x (Some []) = Some x
ends x _ = None

-- `goto line_L ;`
abbrev pub jump_read : List Token → Read ℕ
jump_read ts =
    after_said (past (signs.Goto ∷ []) ts) (λ ts. after_said (label_read ts) (λ l. after_said (past (signs.Semicolon ∷ []) l.1) (λ ts. Some (l.0, ts))))

-- after `( &`, the place of an access
abbrev pub at_place : List Token → Read Place
at_place ts = after_said (past (signs.Open ∷ signs.Address ∷ []) ts) place_read

-- after `D =`: a load, a call, a cradle, or a value
abbrev pub entry_set : ℕ → Entry → List Token → Option Line
entry_set d entries.Load ts = after_said (at_place ts) (λ p. ends (lines.Load d p.0) (past (signs.Close ∷ signs.Semicolon ∷ []) p.1))
entry_set d (entries.Claim function) ts =
    ends (lines.Call d function) (past (signs.Open ∷ signs.Caller ∷ signs.Close ∷ signs.Semicolon ∷ []) ts)
entry_set d _ ts = None

abbrev pub bracketed_number : List Token → Read ℕ
bracketed_number ts = after_said (past (signs.OpenBracket ∷ []) ts) (λ ts. after_said (number_read ts) (λ k. after_said (past (signs.CloseBracket ∷ []) k.1) (λ ts. Some (k.0, ts))))

abbrev pub set_said : ℕ → List Token → Option Line
set_said d (tokens.Entry e ∷ ts) = entry_set d e ts
set_said d (tokens.Sign signs.Cradle ∷ ts) = after_said (bracketed_number ts) (λ k. ends (lines.Get d k.0) (past (signs.Semicolon ∷ []) k.1))
set_said d ts = after_said (value_said ts) (λ v. Some (lines.Let d v))

-- after `NAME_STORE`
abbrev pub store_said : List Token → Option Line
store_said ts =
    after_said (at_place ts) (λ p. after_said (past (signs.Comma ∷ []) p.1) (λ ts. after_said (operand_read ts) (λ a.
    ends (lines.Store p.0 a.0) (past (signs.Close ∷ signs.Semicolon ∷ []) a.1))))

-- after `{ uint64_t w = E ; NAME_SWAP`: `( & PLACE , & w , R ) ; D = w ; }`
abbrev pub swap_said : Operand → List Token → Option Line
swap_said expected ts =
    after_said (at_place ts) (λ p. after_said (past (signs.Comma ∷ signs.Address ∷ signs.Temporary ∷ signs.Comma ∷ []) p.1) (λ ts.
    after_said (operand_read ts) (λ a. after_said (past (signs.Close ∷ signs.Semicolon ∷ []) a.1) (λ ts. after_said (local_read ts) (λ d.
    ends (lines.Exchange d.0 p.0 expected a.0) (past (signs.Becomes ∷ signs.Temporary ∷ signs.Semicolon ∷ signs.CloseBrace ∷ []) d.1))))))

abbrev pub swaps : Operand → List Token → Option Line
swaps expected (tokens.Entry entries.Swap ∷ ts) = swap_said expected ts
swaps expected _ = None

-- after `{ * reply = A ; return`
abbrev pub replies : Operand → List Token → Option Line
replies a (tokens.Entry (entries.Answer answer) ∷ ts) = ends (lines.Reply answer a) (past (signs.Semicolon ∷ signs.CloseBrace ∷ []) ts)
replies a _ = None

-- after `{`
abbrev pub block_said : List Token → Option Line
block_said (tokens.Sign signs.Uint64 ∷ ts) =
    after_said (past (signs.Temporary ∷ signs.Becomes ∷ []) ts) (λ ts. after_said (operand_read ts) (λ e. after_said (past (signs.Semicolon ∷ []) e.1) (swaps e.0)))
block_said (tokens.Sign signs.Star ∷ ts) =
    after_said (past (signs.Reply ∷ signs.Becomes ∷ []) ts) (λ ts. after_said (operand_read ts) (λ a.
    after_said (past (signs.Semicolon ∷ signs.Return ∷ []) a.1) (replies a.0)))
block_said _ = None

-- after `noted [ J ]`: `= B ;`, and what follows
abbrev pub bit_read : ℕ → List Token → Option (List Token)
bit_read bit ts = after_said (past (signs.Becomes ∷ []) ts) (λ ts. after_said (same_number bit (number_read ts)) (past (signs.Semicolon ∷ [])))

-- after `if ( noted [ J ]`: `) { noted [ J ] = 0ull ; goto line_L ; }`
abbrev pub noted_said : Operand → List Token → Option Line
noted_said j ts =
    after_said (past (signs.Close ∷ signs.OpenBrace ∷ signs.Noted ∷ []) ts) (λ ts. after_said (same_operand j (index_read ts)) (λ ts.
    after_said (bit_read 0 ts) (λ ts. after_said (jump_read ts) (λ l. ends (lines.IfNoted j l.0) (past (signs.CloseBrace ∷ []) l.1)))))

-- after `if (`
abbrev pub if_said : List Token → Option Line
if_said (tokens.Sign signs.Noted ∷ ts) = after_said (index_read ts) (λ j. noted_said j.0 j.1)
if_said ts = after_said (test_read ts) (λ t. after_said (past (signs.Close ∷ []) t.1) (λ ts. after_said (jump_read ts) (λ l. ends (lines.If t.0 l.0) (Some l.1))))

-- by its first token
abbrev pub sign_line : Sign → List Token → Option Line
sign_line signs.Goto ts = after_said (label_read ts) (λ l. ends (lines.Goto l.0) (past (signs.Semicolon ∷ []) l.1))
sign_line signs.If ts = after_said (past (signs.Open ∷ []) ts) if_said
sign_line signs.OpenBrace ts = block_said ts
sign_line signs.Noted ts = after_said (index_read ts) (λ j. ends (lines.Note j.0) (bit_read 1 j.1))
sign_line signs.Cradle ts =
    after_said (bracketed_number ts) (λ k. after_said (past (signs.Becomes ∷ []) k.1) (λ ts. after_said (operand_read ts) (λ a.
    ends (lines.Keep k.0 a.0) (past (signs.Semicolon ∷ []) a.1))))
sign_line signs.Return ts = after_said (operand_read ts) (λ a. ends (lines.Return a.0) (past (signs.Semicolon ∷ []) a.1))
sign_line _ ts = None

abbrev pub line_said : List Token → Option Line
line_said (tokens.Sign s ∷ ts) = sign_line s ts
line_said (tokens.Operand (Local d) ∷ ts) = after_said (past (signs.Becomes ∷ []) ts) (set_said d)
line_said (tokens.Entry entries.Store ∷ ts) = store_said ts
line_said _ = None
