-- What the words of a spelling are, and how each is read again.
use Rattle.std.specs.Prelude.{◌≡◌, ℕ, ◌+◌, ◌/◌, ◌%◌, ◌^◌, ◌<◌, ◌≤◌, ◌&&◌, true, false, List, [], ◌∷◌, ◌++◌, length, decimal}
use Rattle.std.specs.List.{list_all}
use Rattle.std.proofs.Common.{refl, ap, ◌∙◌, arith, eqb, cond, ⊎_elim}
use Rattle.std.proofs.lemmas.Bool.{and_from, and_parts, cases_Bool, eqb-true}
use Rattle.std.proofs.lemmas.Bool.Decides.{nat_tests}
use Rattle.std.proofs.lemmas.Fmt.{decimal_by_steps, decimal_nonempty, length-decimal-le}
use Rattle.std.proofs.lemmas.List.Folds.{list_all-append}
use Rattle.std.proofs.lemmas.List.Sums.{fold_push}
use Rattle.oa_text.specs.Numbers.{is_digit, is_numeral, with_digit, number_of}
use Rattle.norm_lang.proofs.SpelledLines.{is_visible, IsWord, each}

-- digits that spell a number, the first of them 0 only if it stands alone
record IsSpelled (n : ℕ) (digits : List ℕ) : Type 0 where
  numeral : is_numeral digits ≡ true
  value : number_of digits ≡ n
  digit : list_all is_digit digits ≡ true

one_digit : (n : ℕ) → n < 10 → IsSpelled n ((48 + n) ∷ [])
one_digit n small =
    let digit : is_digit (48 + n) ≡ true = grind (arith, nat_tests) in
    record {
      numeral = elim (eqb (48 + n) 48) as (λ t. cond t true (is_digit (48 + n) && true) ≡ true) [
        | true ↦ refl
        | false ↦ and_from (is_digit (48 + n)) true digit refl
      ];
      value = omega arith;
      digit = and_from (is_digit (48 + n)) true digit refl;
    }

digit_visible : (b : ℕ) → is_digit b ≡ true → is_visible b ≡ true
digit_visible b digit = grind (arith, nat_tests)

-- a numeral above 0 doesn't begin with 0
more_numeral : (n d : ℕ) (digits : List ℕ) → 1 ≤ n → is_digit d ≡ true → IsSpelled n digits → is_numeral (digits ++ d ∷ []) ≡ true
more_numeral n d [] some digit is = let e : false ≡ true = is.numeral in absurd (let f : ⊥ = cc in f)
more_numeral n d (b ∷ digits) some digit is =
    ⊎_elim
    (λ zero_first.
    let none : (length digits) ≡ 0 = eqb-true (length digits) 0 (rw zero_first at is.numeral) in
    let b_is : b ≡ 48 = eqb-true b 48 zero_first in
    absurd (nothing digits b_is none is.value))
    (λ other.
    let parts = and_parts (is_digit b) (list_all is_digit digits) (rw other at is.numeral) in
    rw other (and_from (is_digit b) (list_all is_digit (digits ++ d ∷ [])) parts.0
    (list_all-append is_digit digits (d ∷ []) ∙ and_from (list_all is_digit digits) (is_digit d && true) parts.1 (and_from (is_digit d) true digit refl))))
    (cases_Bool (eqb b 48))
  where
    nothing : (digits : List ℕ) → b ≡ 48 → length digits ≡ 0 → number_of (b ∷ digits) ≡ n → ⊥
    nothing [] b_is none value = omega arith
    nothing (c ∷ digits) b_is none value = omega arith

more_digits : (n : ℕ) (digits : List ℕ) → 10 ≤ n → IsSpelled (n / 10) digits → IsSpelled n (digits ++ (48 + n % 10) ∷ [])
more_digits n digits big is =
    let digit : is_digit (48 + n % 10) ≡ true = (let r : n % 10 < 10 = omega arith in grind (arith, nat_tests)) in
    let some : 1 ≤ n / 10 = omega arith in
    record {
      numeral = more_numeral (n / 10) (48 + n % 10) digits some digit is;
      value = fold_push with_digit 0 digits (48 + n % 10) ∙ ap (λ k. with_digit k (48 + n % 10)) is.value ∙ (omega arith);
      digit = list_all-append is_digit digits ((48 + n % 10) ∷ []) ∙ and_from (list_all is_digit digits) (is_digit (48 + n % 10) && true) is.digit (and_from (is_digit (48 + n % 10)) true digit refl);
    }

spelled_decimal : (n : ℕ) → n < 2 ^ 64 → IsSpelled n (decimal n)
spelled_decimal n fits = decimal_by_steps IsSpelled one_digit more_digits n fits

decimal_visible : (n : ℕ) → n < 2 ^ 64 → list_all is_visible (decimal n) ≡ true
decimal_visible n fits = each is_digit is_visible (decimal n) digit_visible (spelled_decimal n fits).digit

pub decimal_word : (n : ℕ) → n < 2 ^ 64 → IsWord (decimal n)
decimal_word n fits = record {
  some = omega (arith, decimal_nonempty n fits);
  short = length-decimal-le 20 n (omega arith) (omega arith) fits;
  visible = decimal_visible n fits;
}
