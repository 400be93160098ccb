-- Counts that words spell.
use Rattle.std.proofs.Common.{◌≡◌, ℕ, ◌<◌, ◌^◌, Bool, true, false, ◌&&◌, List, Option, Some, None, refl, ap, ◌∙◌, arith}
use Rattle.std.proofs.lemmas.Bool.Decides.{nat_tests}
use Rattle.std.specs.Option.{unwrap_or}
use Rattle.std.specs.Prelude.{nat_lt, if◌then◌else◌}
use Rattle.oa_text.specs.Numbers.{is_numeral, number_of, fitting}
use Rattle.oa_words.specs.Within.{is_count}
use Rattle.command_input.specs.Commands.{count_in}

choose : (b c : Bool) (n m : ℕ) → Some (Some m) ≡ (if b then Some (if c then Some n else None) else None) → (b ≡ true) × (m ≡ n)
choose true true n m same = (refl, ap (λ (o : Option (Option ℕ)). unwrap_or (unwrap_or o None) 0) same)
choose _ _ n m same = cc

pub counted : (most : ℕ) (word : List ℕ) (n : ℕ) (answer : Option ℕ) → Some (Some n) ≡ (if is_numeral word then Some (fitting (number_of word)) else None)
    → answer ≡ (if is_count most n then Some n else None) → answer ≡ count_in most word
counted most word n answer read is =
    let found = choose (is_numeral word) (nat_lt (number_of word) (2 ^ 64)) (number_of word) n read in
    is ∙ rw (found.0, found.1) refl

none_fits : (b c : Bool) (n : ℕ) → Some None ≡ (if b then Some (if c then Some n else None) else None) → c ≡ false
none_fits true false n same = refl
none_fits _ _ n same = cc

large : (most n : ℕ) → most < 2 ^ 32 → nat_lt n (2 ^ 64) ≡ false → is_count most n ≡ false
large most n few over = grind (arith, nat_tests)

both : (b c : Bool) (n : ℕ) → c ≡ false → None ≡ (if b && c then Some n else None)
both true c n out = rw out refl
both false c n out = refl

pub too_large : (most : ℕ) (word : List ℕ) → most < 2 ^ 32 → Some None ≡ (if is_numeral word then Some (fitting (number_of word)) else None) → None ≡ count_in most word
too_large most word few read =
    both (is_numeral word) (is_count most (number_of word)) (number_of word)
    (large most (number_of word) few (none_fits (is_numeral word) (nat_lt (number_of word) (2 ^ 64)) (number_of word) read))

none_spelled : (b c : Bool) (answer : Option ℕ) (n : ℕ) → None ≡ (if b then Some answer else None) → None ≡ (if b && c then Some n else None)
none_spelled true c answer n same = cc
none_spelled false c answer n same = refl

pub no_numeral : (most : ℕ) (word : List ℕ) → None ≡ (if is_numeral word then Some (fitting (number_of word)) else None) → None ≡ count_in most word
no_numeral most word read = none_spelled (is_numeral word) (is_count most (number_of word)) (fitting (number_of word)) (number_of word) read
