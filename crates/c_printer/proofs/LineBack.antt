-- Tokens say the line that they were made of.
use Rattle.std.proofs.Common.{◌≡◌, ℕ, true, List, [], ◌∷◌, ◌++◌, Option, Some, refl, ap, eqb}
use Rattle.std.proofs.lemmas.Bool.{eq-eqb}
use Rattle.c_language.specs.declared.lines.Parameter.{Parameter}
use Rattle.c_language.specs.declared.lines.Parameter.TheVariants as parameters
use Rattle.c_language.specs.declared.lines.Operand.{Operand}
use Rattle.c_language.specs.declared.lines.Operand.TheVariants.{Number, Local, Of}
use Rattle.c_language.specs.declared.lines.Value.{Value}
use Rattle.c_language.specs.declared.lines.Value.TheVariants as values
use Rattle.c_language.specs.declared.lines.Place.{Place}
use Rattle.c_language.specs.declared.lines.Place.TheVariants as places
use Rattle.c_language.specs.declared.lines.Test.{Test}
use Rattle.c_language.specs.declared.lines.Test.TheVariants as tests
use Rattle.c_language.specs.declared.lines.Line.{Line}
use Rattle.c_language.specs.declared.lines.Line.TheVariants as lines
use Rattle.c_printer.specs.declared.tokens.Sign.TheVariants as signs
use Rattle.c_printer.specs.declared.tokens.Token.{Token}
use Rattle.c_printer.specs.Tokens.{sign, reads, place_tokens, line_tokens}
use Rattle.c_printer.specs.Lexing.{after_said}
use Rattle.c_printer.specs.Reading.{is_parameter, is_operand, place_read, line_said, Read}

-- a number is itself
alike : (n : ℕ) → eqb n n ≡ true
alike n = eq-eqb n n refl

same_parameter : (p : Parameter) → is_parameter p p ≡ true
same_parameter parameters.Slots = refl
same_parameter parameters.Callers = refl
same_parameter parameters.LastPhase = refl
same_parameter (parameters.FirstSlot k) = alike k
same_parameter parameters.Tops = refl
same_parameter parameters.Own = refl

same : (a : Operand) → is_operand a a ≡ true
same (Number n) = alike n
same (Local d) = alike d
same (Of p) = same_parameter p

place_back : (place : Place) (rest : List Token) → place_read (place_tokens place ++ rest) ≡ Some (place, rest)
place_back places.Phase rest = refl
place_back (places.Warning c) rest = refl
place_back (places.Hazard c r) rest = refl
place_back (places.Status j) rest = refl
place_back (places.Field k j g) rest = rw (alike k, same j, alike k, alike k) refl
place_back (places.Root x a) rest = refl
place_back (places.Head k) rest = refl
place_back (places.Link j) rest = refl

-- a place is read, and what follows it is read on
onward : {X : Type 0} (place : Place) (rest : List Token) (f : Place × List Token → Option X) → after_said (place_read (place_tokens place ++ rest)) f ≡ f (place, rest)
onward place rest f = ap (λ (r : Read Place). after_said r f) (place_back place rest)

let_back : (d : ℕ) (value : Value) → line_said (line_tokens (lines.Let d value)) ≡ Some (lines.Let d value)
let_back d (values.Is a) = refl
let_back d (values.Plus a b) = refl
let_back d (values.Minus a b) = refl
let_back d (values.Times a b) = refl
let_back d (values.Over a b) = refl
let_back d (values.Rest a b) = refl

if_back : (test : Test) (l : ℕ) → line_said (line_tokens (lines.If test l)) ≡ Some (lines.If test l)
if_back (tests.Equal a b) l = refl
if_back (tests.Differ a b) l = refl
if_back (tests.Less a b) l = refl

pub line_back : (line : Line) → line_said (line_tokens line) ≡ Some line
line_back (lines.Let d value) = let_back d value
line_back (lines.Goto l) = refl
line_back (lines.If test l) = if_back test l
line_back (lines.Load d place) = onward place (sign signs.Close ∷ sign signs.Semicolon ∷ []) _
line_back (lines.Store place a) = onward place (sign signs.Comma ∷ reads a ∷ sign signs.Close ∷ sign signs.Semicolon ∷ []) _
line_back (lines.Exchange d place expected replacement) =
    onward place (sign signs.Comma ∷ sign signs.Address ∷ sign signs.Temporary ∷ sign signs.Comma ∷ reads replacement ∷ sign signs.Close ∷ sign signs.Semicolon
    ∷ reads (Local d) ∷ sign signs.Becomes ∷ sign signs.Temporary ∷ sign signs.Semicolon ∷ sign signs.CloseBrace ∷ []) _
line_back (lines.Note j) = refl
line_back (lines.IfNoted j l) = rw (same j) refl
line_back (lines.Get d k) = refl
line_back (lines.Keep k a) = refl
line_back (lines.Call d function) = refl
line_back (lines.Return a) = refl
line_back (lines.Reply answer a) = refl
