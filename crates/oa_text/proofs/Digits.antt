-- A digit more in a buffer that is filled from its end.
use Rattle.std.proofs.Common.{◌≡◌, ℕ, ◌+◌, ◌-◌, ◌/◌, ◌%◌, ◌^◌, ◌≤◌, ◌<◌, List, [], ◌∷◌, ◌++◌, length, drop, set, ap, ◌∙◌, arith, append_assoc}
use Rattle.std.specs.Fmt.{decimal}
use Rattle.std.proofs.lemmas.Fmt.{decimal_step, decimal_digit, decimal_nonempty, length-decimal-le}
use Rattle.std.proofs.lemmas.List.{append-nil, drop-set, drop_all, length-append, length-set}

-- the digits of n are still to come before the place
pub record IsOpen (buf whole : List ℕ) (n at : ℕ) : Type 0 where
  pub fits : n < 2 ^ 64
  pub size : length buf ≡ 20
  pub room : length (decimal n) ≤ at
  pub within : at ≤ 20
  pub same : decimal n ++ drop at buf ≡ whole

-- before the first digit, with the whole buffer free
pub opened : (buf : List ℕ) (n : ℕ) → length buf ≡ 20 → n < 2 ^ 64 → IsOpen buf (decimal n) n 20
opened buf n size fits = record {
  fits = fits;
  size = size;
  room = length-decimal-le 20 n (omega arith) (omega arith) fits;
  within = omega arith;
  same = let le : length buf ≤ 20 = omega arith in rw (drop_all 20 buf le) (append-nil (decimal n));
}

-- there is room for another digit
pub some_room : (buf whole : List ℕ) (n at : ℕ) → IsOpen buf whole n at → 1 ≤ at
some_room buf whole n at was = omega (arith, decimal_nonempty n was.fits, was.room)

-- the last digit of a number goes before the place
pub digit_more : (buf whole : List ℕ) (n at : ℕ) → 10 ≤ n → IsOpen buf whole n at → IsOpen (set buf (at - 1) (48 + n % 10)) whole (n / 10) (at - 1)
digit_more buf whole n at big was =
    let step : decimal n ≡ decimal (n / 10) ++ (48 + n % 10) ∷ [] = decimal_step n big was.fits in
    let long : length (decimal n) ≡ length (decimal (n / 10)) + 1 = ap length step ∙ length-append (decimal (n / 10)) ((48 + n % 10) ∷ []) in
    let some : 1 ≤ at = omega (arith, was.room) in
    let lt : at - 1 < length buf = omega (arith, was.size, was.within) in
    let k : at - 1 + 1 ≡ at = omega arith in
    record {
      fits = omega (arith, was.fits);
      size = length-set buf (at - 1) (48 + n % 10) ∙ was.size;
      room = omega (arith, was.room);
      within = omega (arith, was.within);
      same = rw (drop-set buf (at - 1) (48 + n % 10) lt, k) (rw (step, append_assoc) at was.same);
    }

-- the only digit that is left ends the number
pub digit_last : (buf whole : List ℕ) (n at : ℕ) → n < 10 → IsOpen buf whole n at → drop (at - 1) (set buf (at - 1) (48 + n)) ≡ whole
digit_last buf whole n at small was =
    let one : decimal n ≡ (48 + n) ∷ [] = decimal_digit n small in
    let some : 1 ≤ at = omega (arith, was.room, ap length one) in
    let lt : at - 1 < length buf = omega (arith, was.size, was.within) in
    let k : at - 1 + 1 ≡ at = omega arith in
    rw (drop-set buf (at - 1) (48 + n) lt, k) (rw one at was.same)
