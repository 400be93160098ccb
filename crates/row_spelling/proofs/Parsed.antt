-- What `parse` reads as a number.
use Rattle.std.proofs.Common.{◌≡◌, ℕ, ◌<◌, ◌^◌, true, false, Bool, List, Result, Ok, Err, Some, None, fold, rules, arith, refl, sym, ap, ◌∙◌}
use Rattle.std.specs.List.{list_all}
use Rattle.std.specs.Result.{result_ok}
use Rattle.std.specs.Str.Parse.{ParsesUnsigned, IsNumeral, without_leading_plus, digits_value}
use Rattle.std.proofs.lemmas.Str.Parse.{IsNumeralModel, numerals_by_fold}
use Rattle.std.proofs.lemmas.Bool.Decides.{nat_tests}
use Rattle.oa_text.specs.Numbers.{is_digit, number_of, with_digit}
use Rattle.row_spelling.specs.Moves.{number_in, digits_in}

pub own : IsNumeralModel (λ ds. list_all is_digit ds ≡ true) number_of
own = numerals_by_fold _ (search rules) (λ n ds. fold with_digit n ds) (search rules)

-- digits that spell a number that fits
spelled : (ds : List ℕ) → IsNumeral 10 ds → digits_value 10 ds < 2 ^ 64 → digits_in ds ≡ Some (digits_value 10 ds)
spelled ds numeral fits =
    let digits = own.from ds numeral.1 in
    let same = own.same ds numeral.1 in
    rw (digits, same) (grind (arith, nat_tests))

-- bytes that spell none
unspelled : (ds : List ℕ) → ((IsNumeral 10 ds × (digits_value 10 ds < 2 ^ 64)) → ⊥) → (b : Bool) → b ≡ list_all is_digit ds → digits_in ds ≡ None
unspelled ds none false e = rw (sym e) (grind (arith, nat_tests))
unspelled ds none true e =
    let digits = own.to ds (sym e) in
    let same = own.same ds digits in
    rw (sym e, same) (grind (arith, nat_tests))

pub parsed : {E : Type 0} (word : List ℕ) (r : Result ℕ E) → ParsesUnsigned 64 10 word r → result_ok r ≡ number_in word
parsed word (Ok n) p = ap Some p.1 ∙ sym (spelled (without_leading_plus word) p.0.0 p.0.1)
parsed word (Err e) p = sym (unspelled (without_leading_plus word) p _ refl)
