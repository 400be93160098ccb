-- Words are the tokens that they were printed from.
use Rattle.std.proofs.Common.{◌≡◌, ℕ, zero, suc, ◌-◌, ◌<◌, ◌^◌, Bool, true, false, ◌&&◌, ◌||◌, List, [], ◌∷◌, ◌++◌, map, length, take, drop, Option, Some, None, refl, sym, ◌∙◌, ap, arith, length-append}
use Rattle.std.specs.Prelude.{not, codes, decimal, nat_lt, nat_le, slice_get}
use Rattle.std.specs.List.{list_all, list_any, position}
use Rattle.std.specs.Str.{bytes_eq}
use Rattle.std.proofs.lemmas.Bool.{and_from, and_parts, or_from, eq-eqb}
use Rattle.std.proofs.lemmas.Bool.Decides.{nat_tests}
use Rattle.std.proofs.lemmas.List.Folds.{list_all-append, list_any-append}
use Rattle.oa_text.specs.Numbers.{is_digit, is_numeral}
use Rattle.oa_text.proofs.Again.{decimal_digits, decimal_numeral, number_of_decimal}
use Rattle.norm_lang.specs.Limits.{are_different}
use Rattle.norm_lang.specs.LineWords.{is_lower, is_name, is_name_byte}
use Rattle.norm_lang.proofs.SpelledLines.{is_visible, each}
use Rattle.text_laws.proofs.WordsRead.{named_at}
use Rattle.c_language.specs.declared.lines.Parameter.{Parameter}
use Rattle.c_language.specs.declared.lines.Parameter.TheVariants as parameters
use Rattle.c_language.specs.declared.lines.Operand.TheVariants as operands
use Rattle.c_language.specs.declared.lines.Answer.{Answer}
use Rattle.c_language.specs.declared.lines.Answer.TheVariants as answers
use Rattle.c_printer.specs.declared.tokens.Sign.{Sign}
use Rattle.c_printer.specs.declared.tokens.Sign.TheVariants as signs
use Rattle.c_printer.specs.declared.tokens.Entry.{Entry}
use Rattle.c_printer.specs.declared.tokens.Entry.TheVariants as entries
use Rattle.c_printer.specs.declared.tokens.Token.{Token}
use Rattle.c_printer.specs.declared.tokens.Token.TheVariants as tokens
use Rattle.c_printer.specs.Names.{is_letter, is_letter_or_digit, is_local_name, is_none, is_free, are_names, taken_names}
use Rattle.c_printer.specs.Words.{constant_word, entry_end, token_word}
use Rattle.c_printer.specs.Lexing.{number_said, behind, constant_said, sign_said, parameter_said, numbered_said, entry_said, is_capital, begins_with_digit, token_said}
use Rattle.c_printer.specs.Fitting.{is_fitting}

-- a word of a line: visible bytes, at least one
abbrev pub is_word : List ℕ → Bool
is_word [] = false
is_word (b ∷ bytes) = list_all is_visible (b ∷ bytes)

-- how a token is printed: a word, which is read as the token
pub record IsPrinted (name : List ℕ) (names : List (List ℕ)) (t : Token) : Type 0 where
  pub said : token_said name names (token_word name names t) ≡ Some t
  pub word : is_word (token_word name names t) ≡ true

-- ---- bytes

none_of : (p q : ℕ → Bool) (bytes : List ℕ) → ((b : ℕ) → p b ≡ true → q b ≡ false) → list_all p bytes ≡ true → list_any q bytes ≡ false
none_of p q [] implies all = refl
none_of p q (b ∷ bytes) implies all =
    let parts = and_parts (p b) (list_all p bytes) all in
    or_from (q b) (list_any q bytes) (implies b parts.0) (none_of p q bytes implies parts.1)

digit_small : (b : ℕ) → is_digit b ≡ true → is_capital b ≡ false
digit_small b is = grind (arith, nat_tests)

digit_visible : (b : ℕ) → is_digit b ≡ true → is_visible b ≡ true
digit_visible b is = grind (arith, nat_tests)

letter_small : (b : ℕ) → is_letter_or_digit b ≡ true → is_capital b ≡ false
letter_small b is = grind (arith, nat_tests)

letter_visible : (b : ℕ) → is_letter_or_digit b ≡ true → is_visible b ≡ true
letter_visible b is = grind (arith, nat_tests)

letter_no_digit : (b : ℕ) → is_letter b ≡ true → is_digit b ≡ false
letter_no_digit b is = grind (arith, nat_tests)

letter_too : (b : ℕ) → is_letter b ≡ true → is_letter_or_digit b ≡ true
letter_too b is = grind (arith, nat_tests)

name_visible : (b : ℕ) → is_name_byte b ≡ true → is_visible b ≡ true
name_visible b is = grind (arith, nat_tests)

-- ---- numbers

number_back : (n : ℕ) → nat_lt n (2 ^ 64) ≡ true → number_said (decimal n) ≡ Some n
number_back n fits =
    let lt : n < 2 ^ 64 = grind (arith, nat_tests) in
    rw (decimal_numeral n lt, number_of_decimal n lt, fits) refl

digits : (n : ℕ) → nat_lt n (2 ^ 64) ≡ true → list_all is_digit (decimal n) ≡ true
digits n fits = decimal_digits n (grind (arith, nat_tests))

decimal_small : (n : ℕ) → nat_lt n (2 ^ 64) ≡ true → list_any is_capital (decimal n) ≡ false
decimal_small n fits = none_of is_digit is_capital (decimal n) digit_small (digits n fits)

decimal_visible : (n : ℕ) → nat_lt n (2 ^ 64) ≡ true → list_all is_visible (decimal n) ≡ true
decimal_visible n fits = each is_digit is_visible (decimal n) digit_visible (digits n fits)

-- a numeral has a digit first
numeral_begins : (word rest : List ℕ) → is_numeral word ≡ true → list_all is_digit word ≡ true → begins_with_digit (word ++ rest) ≡ true
numeral_begins [] rest numeral all = let e : false ≡ true = numeral in absurd (let f : ⊥ = cc in f)
numeral_begins (b ∷ word) rest numeral all = (and_parts (is_digit b) (list_all is_digit word) all).0

decimal_begins : (n : ℕ) (rest : List ℕ) → nat_lt n (2 ^ 64) ≡ true → begins_with_digit (decimal n ++ rest) ≡ true
decimal_begins n rest fits = numeral_begins (decimal n) rest (decimal_numeral n (grind (arith, nat_tests))) (digits n fits)

front_taken : (xs ys : List ℕ) → take (length xs) (xs ++ ys) ≡ xs
front_taken [] ys = refl
front_taken (x ∷ xs) ys = ap (λ (l : List ℕ). x ∷ l) (front_taken xs ys)

front_dropped : (xs ys : List ℕ) → drop (length xs) (xs ++ ys) ≡ ys
front_dropped [] ys = refl
front_dropped (x ∷ xs) ys = front_dropped xs ys

-- the numeral of a constant stands before the suffix
suffix_off : (xs ys : List ℕ) → length (xs ++ ys) - length ys ≡ length xs
suffix_off xs ys = omega (arith, length-append xs ys)

constant_back : (n : ℕ) → nat_lt n (2 ^ 64) ≡ true → constant_said (constant_word n) ≡ Some n
constant_back n fits = rw (suffix_off (decimal n) (codes "ull"), front_dropped (decimal n) (codes "ull"), front_taken (decimal n) (codes "ull")) (number_back n fits)

constant_small : (n : ℕ) → nat_lt n (2 ^ 64) ≡ true → list_any is_capital (constant_word n) ≡ false
constant_small n fits = list_any-append is_capital (decimal n) (codes "ull") ∙ or_from (list_any is_capital (decimal n)) false (decimal_small n fits) refl

-- ---- words

-- visible bytes, of which there are some
word_from : (bytes : List ℕ) → begins_with_digit bytes ≡ true → list_all is_visible bytes ≡ true → is_word bytes ≡ true
word_from [] begins all = begins
word_from (b ∷ bytes) begins all = all

both_visible : (xs ys : List ℕ) → list_all is_visible xs ≡ true → list_all is_visible ys ≡ true → list_all is_visible (xs ++ ys) ≡ true
both_visible xs ys one other = list_all-append is_visible xs ys ∙ and_from (list_all is_visible xs) (list_all is_visible ys) one other

constant_printed : (name : List ℕ) (names : List (List ℕ)) (n : ℕ) → nat_lt n (2 ^ 64) ≡ true → IsPrinted name names (tokens.Operand (operands.Number n))
constant_printed name names n fits = record {
  said = rw (constant_small n fits, decimal_begins n (codes "ull") fits, constant_back n fits) refl;
  word = word_from (constant_word n) (decimal_begins n (codes "ull") fits) (both_visible (decimal n) (codes "ull") (decimal_visible n fits) refl);
}

sign_printed : (name : List ℕ) (names : List (List ℕ)) (s : Sign) → IsPrinted name names (tokens.Sign s)
sign_printed name names signs.Becomes = record { said = refl; word = refl }
sign_printed name names signs.Semicolon = record { said = refl; word = refl }
sign_printed name names signs.Comma = record { said = refl; word = refl }
sign_printed name names signs.Open = record { said = refl; word = refl }
sign_printed name names signs.Close = record { said = refl; word = refl }
sign_printed name names signs.OpenBracket = record { said = refl; word = refl }
sign_printed name names signs.CloseBracket = record { said = refl; word = refl }
sign_printed name names signs.OpenBrace = record { said = refl; word = refl }
sign_printed name names signs.CloseBrace = record { said = refl; word = refl }
sign_printed name names signs.Plus = record { said = refl; word = refl }
sign_printed name names signs.Minus = record { said = refl; word = refl }
sign_printed name names signs.Star = record { said = refl; word = refl }
sign_printed name names signs.Slash = record { said = refl; word = refl }
sign_printed name names signs.Percent = record { said = refl; word = refl }
sign_printed name names signs.Equal = record { said = refl; word = refl }
sign_printed name names signs.Differ = record { said = refl; word = refl }
sign_printed name names signs.Less = record { said = refl; word = refl }
sign_printed name names signs.Greater = record { said = refl; word = refl }
sign_printed name names signs.Question = record { said = refl; word = refl }
sign_printed name names signs.Colon = record { said = refl; word = refl }
sign_printed name names signs.Address = record { said = refl; word = refl }
sign_printed name names signs.Goto = record { said = refl; word = refl }
sign_printed name names signs.If = record { said = refl; word = refl }
sign_printed name names signs.Return = record { said = refl; word = refl }
sign_printed name names signs.Uint64 = record { said = refl; word = refl }
sign_printed name names signs.Temporary = record { said = refl; word = refl }
sign_printed name names signs.Reply = record { said = refl; word = refl }
sign_printed name names signs.Caller = record { said = refl; word = refl }
sign_printed name names signs.Phase = record { said = refl; word = refl }
sign_printed name names signs.Row = record { said = refl; word = refl }
sign_printed name names signs.Warning = record { said = refl; word = refl }
sign_printed name names signs.Hazard = record { said = refl; word = refl }
sign_printed name names signs.Status = record { said = refl; word = refl }
sign_printed name names signs.Link = record { said = refl; word = refl }
sign_printed name names signs.Head = record { said = refl; word = refl }
sign_printed name names signs.Word = record { said = refl; word = refl }
sign_printed name names signs.Root = record { said = refl; word = refl }
sign_printed name names signs.RootStride = record { said = refl; word = refl }
sign_printed name names signs.Noted = record { said = refl; word = refl }
sign_printed name names signs.Cradle = record { said = refl; word = refl }

-- ---- names that end in a number

label_printed : (name : List ℕ) (names : List (List ℕ)) (l : ℕ) → nat_lt l (2 ^ 64) ≡ true → IsPrinted name names (tokens.Label l)
label_printed name names l fits = record { said = rw (decimal_small l fits, number_back l fits) refl; word = rw (decimal_visible l fits) refl }

field_printed : (name : List ℕ) (names : List (List ℕ)) (k : ℕ) → nat_lt k (2 ^ 64) ≡ true → IsPrinted name names (tokens.Field k)
field_printed name names k fits = record { said = rw (decimal_small k fits, number_back k fits) refl; word = rw (decimal_visible k fits) refl }

below_printed : (name : List ℕ) (names : List (List ℕ)) (k : ℕ) → nat_lt k (2 ^ 64) ≡ true → IsPrinted name names (tokens.Below k)
below_printed name names k fits = record { said = rw (decimal_small k fits, number_back k fits) refl; word = rw (decimal_visible k fits) refl }

stride_printed : (name : List ℕ) (names : List (List ℕ)) (k : ℕ) → nat_lt k (2 ^ 64) ≡ true → IsPrinted name names (tokens.Stride k)
stride_printed name names k fits = record { said = rw (decimal_small k fits, number_back k fits) refl; word = rw (decimal_visible k fits) refl }

first_printed : (name : List ℕ) (names : List (List ℕ)) (k : ℕ) → nat_lt k (2 ^ 64) ≡ true → IsPrinted name names (tokens.Operand (operands.Of (parameters.FirstSlot k)))
first_printed name names k fits = record { said = rw (decimal_small k fits, number_back k fits) refl; word = rw (decimal_visible k fits) refl }

-- ---- the header's own names

behind_front : (front rest : List ℕ) → behind front (front ++ rest) ≡ Some rest
behind_front [] rest = refl
behind_front (b ∷ front) rest = rw (eq-eqb b b refl) (behind_front front rest)

or_true : (b : Bool) → (b || true) ≡ true
or_true true = refl
or_true false = refl

bytes_visible : (b : ℕ) (bytes : List ℕ) → is_name (b ∷ bytes) ≡ true → list_all is_visible (b ∷ bytes) ≡ true
bytes_visible b bytes is =
    let parts = and_parts (is_lower b) (list_all is_name_byte bytes && nat_le (length bytes) 15) is in
    let lower : is_lower b ≡ true = parts.0 in
    let first : is_visible b ≡ true = grind (arith, nat_tests) in
    and_from (is_visible b) (list_all is_visible bytes) first
    (each is_name_byte is_visible bytes name_visible (and_parts (list_all is_name_byte bytes) (nat_le (length bytes) 15) parts.1).0)

name_begins : (name : List ℕ) (rest : List ℕ) → is_name name ≡ true → list_all is_visible rest ≡ true → is_word (name ++ rest) ≡ true
name_begins [] rest is all = let e : false ≡ true = is in absurd (let f : ⊥ = cc in f)
name_begins (b ∷ bytes) rest is all = both_visible (b ∷ bytes) rest (bytes_visible b bytes is) all

-- an end that has a capital letter, is visible, and says the entry
record IsEnd (e : Entry) : Type 0 where
  capital : list_any is_capital (entry_end e) ≡ true
  visible : list_all is_visible (entry_end e) ≡ true
  said : entry_said (entry_end e) ≡ Some e

answer_end : (answer : Answer) → IsEnd (entries.Answer answer)
answer_end answers.Number = record { capital = refl; visible = refl; said = refl }
answer_end answers.Nothing = record { capital = refl; visible = refl; said = refl }
answer_end answers.Full = record { capital = refl; visible = refl; said = refl }
answer_end answers.Phases = record { capital = refl; visible = refl; said = refl }

end_is : (names : List (List ℕ)) (e : Entry) → is_fitting names (tokens.Entry e) ≡ true → IsEnd e
end_is names entries.Load fits = record { capital = refl; visible = refl; said = refl }
end_is names entries.Store fits = record { capital = refl; visible = refl; said = refl }
end_is names entries.Swap fits = record { capital = refl; visible = refl; said = refl }
end_is names (entries.Answer answer) fits = answer_end answer
end_is names (entries.Claim function) fits = record { capital = refl; visible = rw (decimal_visible function fits) refl; said = rw (number_back function fits) refl }

entry_printed : (name : List ℕ) (names : List (List ℕ)) (e : Entry) → is_name name ≡ true → is_fitting names (tokens.Entry e) ≡ true → IsPrinted name names (tokens.Entry e)
entry_printed name names e is fits =
    let end = end_is names e fits in
    let capital : list_any is_capital (name ++ entry_end e) ≡ true = list_any-append is_capital name (entry_end e) ∙ ap (λ (b : Bool). list_any is_capital name || b) end.capital ∙ or_true (list_any is_capital name) in
    record { said = rw (capital, behind_front name (entry_end e), end.said) refl; word = name_begins name (entry_end e) is end.visible }

-- ---- locals

none_said : {X : Type 0} (o : Option X) → is_none o ≡ true → o ≡ None
none_said None is = refl
none_said (Some x) is = let e : false ≡ true = is in absurd (let f : ⊥ = cc in f)

-- a name of a table
record IsLocal (local : List ℕ) : Type 0 where
  small : list_any is_capital local ≡ false
  begins : begins_with_digit local ≡ false
  sign : sign_said local ≡ None
  parameter : parameter_said local ≡ None
  numbered : numbered_said local ≡ None
  word : is_word local ≡ true

local_is : (word : List ℕ) → is_local_name word ≡ true → is_free word ≡ true → IsLocal word
local_is [] name free = let e : false ≡ true = name in absurd (let f : ⊥ = cc in f)
local_is (b ∷ bytes) name free =
    let parts = and_parts (is_letter b) (list_all is_letter_or_digit bytes) name in
    let all : list_all is_letter_or_digit (b ∷ bytes) ≡ true = and_from (is_letter_or_digit b) (list_all is_letter_or_digit bytes) (letter_too b parts.0) parts.1 in
    let others = and_parts (not (list_any (λ taken. bytes_eq taken (b ∷ bytes)) taken_names)) (is_none (sign_said (b ∷ bytes)) && (is_none (parameter_said (b ∷ bytes)) && is_none (numbered_said (b ∷ bytes)))) free in
    let rest = and_parts (is_none (sign_said (b ∷ bytes))) (is_none (parameter_said (b ∷ bytes)) && is_none (numbered_said (b ∷ bytes))) others.1 in
    let last = and_parts (is_none (parameter_said (b ∷ bytes))) (is_none (numbered_said (b ∷ bytes))) rest.1 in
    record {
      small = none_of is_letter_or_digit is_capital (b ∷ bytes) letter_small all;
      begins = letter_no_digit b parts.0;
      sign = none_said (sign_said (b ∷ bytes)) rest.0;
      parameter = none_said (parameter_said (b ∷ bytes)) last.0;
      numbered = none_said (numbered_said (b ∷ bytes)) last.1;
      word = each is_letter_or_digit is_visible (b ∷ bytes) letter_visible all;
    }

passes_at : {A : Type 0} (test : A → Bool) (items : List A) (at : ℕ) (item : A) → slice_get items at ≡ Some item → list_all test items ≡ true → test item ≡ true
passes_at test [] at item is all = let f : ⊥ = cc in absurd f
passes_at test (x ∷ items) zero item is all =
    let same : x ≡ item = cc in
    ap test (sym same) ∙ (and_parts (test x) (list_all test items) all).0
passes_at test (x ∷ items) (suc at) item is all = passes_at test items at item is (and_parts (test x) (list_all test items) all).1

item_at : {A : Type 0} (items : List A) (at : ℕ) → at < length items → (item : A) × (slice_get items at ≡ Some item)
item_at [] at lt = absurd (let f : ⊥ = omega (arith, lt) in f)
item_at (x ∷ items) zero lt = (x, refl)
item_at (x ∷ items) (suc at) lt = item_at items at (omega (arith, lt))

map_itself : (names : List (List ℕ)) → map (λ (name : List ℕ). name) names ≡ names
map_itself [] = refl
map_itself (name ∷ names) = ap (λ (l : List (List ℕ)). name ∷ l) (map_itself names)

local_printed : (name : List ℕ) (names : List (List ℕ)) (d : ℕ) → are_names names ≡ true → nat_lt d (length names) ≡ true → IsPrinted name names (tokens.Operand (operands.Local d))
local_printed name names d are fits =
    let item = item_at names d (grind (arith, nat_tests)) in
    let parts = and_parts (are_different names) (list_all is_local_name names && list_all is_free names) are in
    let others = and_parts (list_all is_local_name names) (list_all is_free names) parts.1 in
    let is = local_is item.0 (passes_at is_local_name names d item.0 item.1 others.0) (passes_at is_free names d item.0 item.1 others.1) in
    let different : are_different (map (λ (name : List ℕ). name) names) ≡ true = ap are_different (map_itself names) ∙ parts.0 in
    let found : position (λ x. bytes_eq x item.0) names ≡ Some d = named_at (λ (name : List ℕ). name) names d item.0 item.1 different in
    record { said = rw (item.1, is.small, is.begins, is.sign, is.parameter, is.numbered, found) refl; word = rw (item.1) is.word }

-- ---- all tokens

parameter_printed : (name : List ℕ) (names : List (List ℕ)) (p : Parameter) → is_fitting names (tokens.Operand (operands.Of p)) ≡ true → IsPrinted name names (tokens.Operand (operands.Of p))
parameter_printed name names parameters.Slots fits = record { said = refl; word = refl }
parameter_printed name names parameters.Callers fits = record { said = refl; word = refl }
parameter_printed name names parameters.LastPhase fits = record { said = refl; word = refl }
parameter_printed name names (parameters.FirstSlot k) fits = first_printed name names k fits
parameter_printed name names parameters.Tops fits = record { said = refl; word = refl }
parameter_printed name names parameters.Own fits = record { said = refl; word = refl }

pub printed : (name : List ℕ) (names : List (List ℕ)) (t : Token) → is_name name ≡ true → are_names names ≡ true → is_fitting names t ≡ true → IsPrinted name names t
printed name names (tokens.Sign s) is are fits = sign_printed name names s
printed name names (tokens.Operand (operands.Number n)) is are fits = constant_printed name names n fits
printed name names (tokens.Operand (operands.Local d)) is are fits = local_printed name names d are fits
printed name names (tokens.Operand (operands.Of p)) is are fits = parameter_printed name names p fits
printed name names (tokens.Label l) is are fits = label_printed name names l fits
printed name names (tokens.Field k) is are fits = field_printed name names k fits
printed name names (tokens.Below k) is are fits = below_printed name names k fits
printed name names (tokens.Stride k) is are fits = stride_printed name names k fits
printed name names (tokens.Entry e) is are fits = entry_printed name names e is fits
