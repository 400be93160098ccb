-- What `parse` says of a count, as its definition says it.
use Rattle.std.proofs.Common.{◌≡◌, ℕ, ◌<◌, ◌^◌, List, Bool, true, false, Option, Some, None, Result, Ok, Err, length, rules, sym, ap, ◌∙◌, refl}
use Rattle.std.specs.Prelude.{◌&&◌, if◌then◌else◌}
use Rattle.std.specs.Str.{all_ascii_digits}
use Rattle.std.specs.Str.Parse.{IsNumeral, ParsesUnsigned, digits_value, without_leading_plus}
use Rattle.std.proofs.lemmas.Bool.{lt-ltb, ltb-true}
use Rattle.std.proofs.lemmas.Result.{OkIff-at_ok, OkIff-at_err}
use Rattle.std.proofs.lemmas.Str.Parse.{IsNumeralModel, numerals_by_value}
use Rattle.row_spelling.specs.Spelling.{count_in}

own : IsNumeralModel (λ ds. all_ascii_digits ds ≡ true) (digits_value 10)
own = numerals_by_value _ (search rules)

three : (a b c : Bool) (o : Option ℕ) → a ≡ true → b ≡ true → c ≡ true → (if a && b && c then o else None) ≡ o
three a b c o first second third =
    ap (λ x. if x && b && c then o else None) first ∙ ap (λ x. if true && x && c then o else None) second ∙ ap (λ x. if true && true && x then o else None) third

not_three : (a b c : Bool) (o : Option ℕ) → (a ≡ true → b ≡ true → c ≡ true → ⊥) → (if a && b && c then o else None) ≡ None
not_three true true true o never = absurd (never refl refl refl)
not_three true true false o never = refl
not_three true false c o never = refl
not_three false b c o never = refl

-- a text's digits and their value, as `parse` to 32 bits tells them
abbrev Numeral : List ℕ → Type 0
Numeral bs = IsNumeral 10 (without_leading_plus bs) × (digits_value 10 (without_leading_plus bs) < 2 ^ 32)

pub count_read : {E : Type 0} (bs : List ℕ) (r : Result ℕ E) (x : ℕ) → ParsesUnsigned 32 10 bs r → r ≡ Ok x → count_in bs ≡ Some x
count_read bs r x parsed is =
    let digits = without_leading_plus bs in
    let value = digits_value 10 digits in
    let told : Numeral bs × (x ≡ value) = OkIff-at_ok r (Numeral bs) value x parsed is in
    three _ _ _ (Some value) (lt-ltb 0 (length digits) told.0.0.0) (own.from digits told.0.0.1) (lt-ltb value (2 ^ 32) told.0.1) ∙ ap (λ (n : ℕ). Some n) (sym told.1)

pub count_not_read : {E : Type 0} (bs : List ℕ) (r : Result ℕ E) (e : E) → ParsesUnsigned 32 10 bs r → r ≡ Err e → count_in bs ≡ None
count_not_read bs r e parsed is =
    let digits = without_leading_plus bs in
    let value = digits_value 10 digits in
    not_three _ _ _ (Some value) (λ some all small. OkIff-at_err r (Numeral bs) value e parsed is ((ltb-true 0 (length digits) some, own.to digits all), ltb-true value (2 ^ 32) small))
