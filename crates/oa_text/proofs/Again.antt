-- What was spelled is read again: lines that end in a newline, plain lines, and decimal numbers.
use Rattle.std.proofs.Common.{◌≡◌, ℕ, zero, suc, ◌+◌, ◌/◌, ◌%◌, ◌<◌, ◌≤◌, ◌^◌, Bool, true, false, List, [], ◌∷◌, ◌++◌, length, get_or, eqb, None, decimal, ⊎_elim, refl, arith}
use Rattle.std.proofs.lemmas.Bool.{cases_lt, and_parts, and_from, le-ltb}
use Rattle.std.proofs.lemmas.Bool.Decides.{nat_tests}
use Rattle.std.proofs.lemmas.Fmt.{decimal_digit, decimal_step, first_decimal}
use Rattle.std.proofs.lemmas.List.Folds.{list_all-append}
use Rattle.std.proofs.lemmas.List.Sums.{fold_push}
use Rattle.std.specs.List.{list_all}
use Rattle.oa_text.specs.Lines.{TextLine, lines_of}
use Rattle.oa_text.specs.Tokens.{is_plain, odd_column_from, line_fault}
use Rattle.oa_text.specs.Numbers.{is_digit, is_numeral, with_digit, number_of}

plain_inside : (b : ℕ) → is_plain b ≡ true → eqb b 10 ≡ false
plain_inside b plain = grind (arith, nat_tests)

-- a plain line with its newline is the first line
pub lines_of_line : (line rest : List ℕ) → list_all is_plain line ≡ true → lines_of (line ++ 10 ∷ rest) ≡ line ∷ lines_of rest
lines_of_line [] rest plain = refl
lines_of_line (b ∷ line) rest plain =
    let parts = and_parts (is_plain b) (list_all is_plain line) plain in
    rw (plain_inside b parts.0, lines_of_line line rest parts.1) refl

none_odd : (c : ℕ) (bytes : List ℕ) → list_all is_plain bytes ≡ true → odd_column_from c bytes ≡ None
none_odd c [] plain = refl
none_odd c (b ∷ bytes) plain =
    let parts = and_parts (is_plain b) (list_all is_plain bytes) plain in
    rw parts.0 (none_odd (c + 1) bytes parts.1)

-- a plain line that isn't too long has no fault
pub no_line_fault : (line : TextLine) → length line.bytes ≤ 200 → list_all is_plain line.bytes ≡ true → line_fault line ≡ None
no_line_fault line short plain = rw (le-ltb 200 (length line.bytes) short, none_odd 1 line.bytes plain) refl

a_digit : (d : ℕ) → d < 10 → is_digit (48 + d) ≡ true
a_digit d lt = grind (arith, nat_tests)

list_all_by : (p q : ℕ → Bool) (bytes : List ℕ) → ((b : ℕ) → p b ≡ true → q b ≡ true) → list_all p bytes ≡ true → list_all q bytes ≡ true
list_all_by p q [] by all = refl
list_all_by p q (b ∷ bytes) by all =
    let parts = and_parts (p b) (list_all p bytes) all in
    and_from (q b) (list_all q bytes) (by b parts.0) (list_all_by p q bytes by parts.1)

-- the number's digits are digits, and spell it
abbrev IsSpelled : ℕ → Type 0
IsSpelled n = (list_all is_digit (decimal n) ≡ true) × (number_of (decimal n) ≡ n)

one_digit : (n : ℕ) → n < 10 → IsSpelled n
one_digit n small = (rw (decimal_digit n small, a_digit n small) refl, rw (decimal_digit n small) (omega arith))

digit_more : (n : ℕ) → 10 ≤ n → n < 2 ^ 64 → IsSpelled (n / 10) → IsSpelled n
digit_more n large fits front =
    let last : n % 10 < 10 = omega arith in
    let digit : is_digit (48 + n % 10) ≡ true = a_digit (n % 10) last in (
      rw (decimal_step n large fits, list_all-append is_digit (decimal (n / 10)) ((48 + n % 10) ∷ []), front.0, digit) refl,
      rw (decimal_step n large fits, fold_push with_digit 0 (decimal (n / 10)) (48 + n % 10), front.1) (omega arith),
    )

spelled_upto : (k n : ℕ) → n ≤ k → n < 2 ^ 64 → IsSpelled n
spelled_upto zero n le fits = one_digit n (omega arith)
spelled_upto (suc k) n le fits =
    ⊎_elim (one_digit n) (λ large. digit_more n large fits (spelled_upto k (n / 10) (omega arith) (omega arith))) (cases_lt n 10)

pub decimal_digits : (n : ℕ) → n < 2 ^ 64 → list_all is_digit (decimal n) ≡ true
decimal_digits n fits = (spelled_upto n n (omega arith) fits).0

pub number_of_decimal : (n : ℕ) → n < 2 ^ 64 → number_of (decimal n) ≡ n
number_of_decimal n fits = (spelled_upto n n (omega arith) fits).1

numeral_from : (bytes : List ℕ) → 48 < get_or bytes 0 0 → list_all is_digit bytes ≡ true → is_numeral bytes ≡ true
numeral_from [] first all = absurd (omega arith)
numeral_from (b ∷ bytes) first all =
    let other : eqb b 48 ≡ false = grind (arith, nat_tests) in
    rw other all

pub decimal_numeral : (n : ℕ) → n < 2 ^ 64 → is_numeral (decimal n) ≡ true
decimal_numeral zero fits = rw (decimal_digit 0 (omega arith)) refl
decimal_numeral (suc n) fits = numeral_from (decimal (suc n)) (first_decimal (suc n) (omega arith) fits) (decimal_digits (suc n) fits)
