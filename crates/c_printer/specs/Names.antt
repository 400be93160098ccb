-- The tables of names, and what a table may have.
use Rattle.std.specs.Prelude.{ℕ, Bool, true, false, ◌&&◌, ◌||◌, not, List, [], ◌∷◌, codes, nat_le, Option, Some, None}
use Rattle.std.specs.List.{list_all, list_any}
use Rattle.std.specs.Str.{bytes_eq}
use Rattle.norm_lang.specs.Limits.{are_different}
use Rattle.c_printer.specs.Lexing.{sign_said, parameter_said, numbered_said}
use Rattle.c_printer.specs.declared.locals.Table.{Table}
use Rattle.c_printer.specs.declared.locals.Table.TheVariants.{Claims, Operations}

abbrev pub claim_names : List (List ℕ)
claim_names =
    codes "sweeps" ∷ codes "top" ∷ codes "slot" ∷ codes "other" ∷ codes "found" ∷ codes "word" ∷ codes "bound" ∷ codes "each" ∷ codes "number"
    ∷ codes "state" ∷ codes "old" ∷ codes "phase" ∷ codes "kind" ∷ []

-- the registers of numbers and of references; the arguments; the warning that was seen and what stands in the own hazards; a word that was found,
-- a slot, another word, and how many exchanges were made; and what the registers held at the start of the wrap-up
abbrev pub operation_names : List (List ℕ)
operation_names =
    codes "n0" ∷ codes "n1" ∷ codes "n2" ∷ codes "n3" ∷ codes "n4" ∷ codes "n5" ∷ codes "n6" ∷ codes "n7" ∷ codes "r0" ∷ codes "r1" ∷ codes "r2"
    ∷ codes "r3" ∷ codes "r4" ∷ codes "r5" ∷ codes "r6" ∷ codes "r7" ∷ codes "a0" ∷ codes "a1" ∷ codes "a2" ∷ codes "a3" ∷ codes "seen" ∷ codes "h0"
    ∷ codes "h1" ∷ codes "h2" ∷ codes "h3" ∷ codes "h4" ∷ codes "h5" ∷ codes "h6" ∷ codes "h7" ∷ codes "found" ∷ codes "slot" ∷ codes "word"
    ∷ codes "made" ∷ codes "keptn0" ∷ codes "keptn1" ∷ codes "keptn2" ∷ codes "keptn3" ∷ codes "keptn4" ∷ codes "keptn5" ∷ codes "keptn6"
    ∷ codes "keptn7" ∷ codes "keptr0" ∷ codes "keptr1" ∷ codes "keptr2" ∷ codes "keptr3" ∷ codes "keptr4" ∷ codes "keptr5" ∷ codes "keptr6"
    ∷ codes "keptr7" ∷ []

abbrev pub names_of : Table → List (List ℕ)
names_of Claims = claim_names
names_of Operations = operation_names

abbrev pub is_letter : ℕ → Bool
is_letter b = nat_le 97 b && nat_le b 122

abbrev pub is_letter_or_digit : ℕ → Bool
is_letter_or_digit b = is_letter b || (nat_le 48 b && nat_le b 57)

-- a lower-case letter, and lower-case letters and digits: so no name is one of those of the head that have a `_`
abbrev pub is_local_name : List ℕ → Bool
is_local_name [] = false
is_local_name (b ∷ bytes) = is_letter b && list_all is_letter_or_digit bytes

-- the names of a function's head that have letters alone, the tokens of its lines, and the keywords of C11, C17 and C23
abbrev pub taken_names : List (List ℕ)
taken_names =
    codes "caller" ∷ codes "reply" ∷ codes "pool" ∷ codes "row" ∷ codes "head" ∷ codes "status" ∷ codes "link" ∷ codes "root" ∷ codes "noted" ∷ codes "cradle"
    ∷ codes "slots" ∷ codes "callers" ∷ codes "tops" ∷ codes "own" ∷ codes "w"
    ∷ codes "alignas" ∷ codes "alignof" ∷ codes "auto" ∷ codes "bool" ∷ codes "break" ∷ codes "case" ∷ codes "char" ∷ codes "const" ∷ codes "constexpr"
    ∷ codes "continue" ∷ codes "default" ∷ codes "do" ∷ codes "double" ∷ codes "else" ∷ codes "enum" ∷ codes "extern" ∷ codes "false" ∷ codes "float"
    ∷ codes "for" ∷ codes "goto" ∷ codes "if" ∷ codes "inline" ∷ codes "int" ∷ codes "long" ∷ codes "nullptr" ∷ codes "register" ∷ codes "restrict"
    ∷ codes "return" ∷ codes "short" ∷ codes "signed" ∷ codes "sizeof" ∷ codes "static" ∷ codes "struct" ∷ codes "switch" ∷ codes "true" ∷ codes "typedef"
    ∷ codes "typeof" ∷ codes "union" ∷ codes "unsigned" ∷ codes "void" ∷ codes "volatile" ∷ codes "while" ∷ []

abbrev pub is_none : {X : Type 0} → Option X → Bool
is_none None = true
is_none (Some x) = false

-- nor does a reader of lines take the name for another token
abbrev pub is_free : List ℕ → Bool
is_free name =
    not (list_any (λ taken. bytes_eq taken name) taken_names) && (is_none (sign_said name) && (is_none (parameter_said name) && is_none (numbered_said name)))

-- the names are different from each other and from the head's, and each is an identifier of C
abbrev pub are_names : List (List ℕ) → Bool
are_names names = are_different names && (list_all is_local_name names && list_all is_free names)
