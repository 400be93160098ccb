-- Words of the row stand apart.
use Rattle.std.proofs.Common.{ℕ, suc, ◌≡◌, ◌+◌, ◌*◌, ◌≤◌, ◌<◌, ◌&&◌, true, arith, refl, ap}
use Rattle.std.specs.Prelude.{nat_lt, length}
use Rattle.std.proofs.lemmas.Bool.Decides.{nat_tests}
use Rattle.std.proofs.lemmas.Nat.{same_from_place}
use Rattle.std.proofs.Math.Nat.{mul-le-mul_right}
use Rattle.oa_words.specs.Words.{Word, Phase, Place, Warning, Hazard, Status, FieldOf, Cell, Head, Link, Sizes, slot_rows, address_of, in_row, word_count}
use Rattle.oa_words.specs.Laws.{WordsStandApart}

pub lt_of : (a b : ℕ) → nat_lt a b ≡ true → a < b
lt_of a b e = grind (arith, nat_tests)

pub lt_two : (a b c d : ℕ) → (nat_lt a b && nat_lt c d) ≡ true → (a < b) × (c < d)
lt_two a b c d e = (grind (arith, nat_tests), grind (arith, nat_tests))

-- a place in a table of rows is below the table's end
pub place_below : (j s g f : ℕ) → j < s → g < f → j * f + g < s * f
place_below j s g f a b =
    let more : suc j * f ≤ s * f = mul-le-mul_right f a in
    let one : suc j * f ≡ f + j * f = omega arith in omega (arith, more, one, b)

two : (f : ℕ → ℕ → Word) (a a' b b' : ℕ) → a ≡ a' → b ≡ b' → f a b ≡ f a' b'
two f a a' b b' p q = cc

-- each word of the row has an address below the count of words
pub within : (n : Sizes) (w : Word) → in_row n w ≡ true → address_of n w < word_count n
within n Phase row = omega arith
within n (Place c) row = let b = lt_of c n.callers row in omega (arith, b)
within n (Warning c) row = let b = lt_of c n.callers row in omega (arith, b)
within n (Hazard c r) row = let b = lt_two c n.callers r 8 row in omega (arith, b.0, b.1)
within n (Status j) row = let b = lt_of j (slot_rows n) row in omega (arith, b)
within n (FieldOf j g) row = let b = lt_two j (slot_rows n) g n.fields row in let p = place_below j (slot_rows n) g n.fields b.0 b.1 in omega (arith, p)
within n (Cell x) row = let b = lt_of x n.cells row in omega (arith, b)
within n (Head t) row = let b = lt_of t (length n.kinds) row in omega (arith, b)
within n (Link j) row = let b = lt_of j (slot_rows n) row in omega (arith, b)

-- different words of the row have different addresses
pub apart : (n : Sizes) (v w : Word) → in_row n v ≡ true → in_row n w ≡ true → address_of n v ≡ address_of n w → v ≡ w
apart n Phase Phase rv rw e = refl
apart n Phase (Place c') rv rw e = let b = lt_of c' n.callers rw in absurd (omega (arith, e, b))
apart n Phase (Warning c') rv rw e = let b = lt_of c' n.callers rw in absurd (omega (arith, e, b))
apart n Phase (Hazard c' r') rv rw e = let b = lt_two c' n.callers r' 8 rw in absurd (omega (arith, e, b.0, b.1))
apart n Phase (Status j') rv rw e = let b = lt_of j' (slot_rows n) rw in absurd (omega (arith, e, b))
apart n Phase (FieldOf j' g') rv rw e = let b = lt_two j' (slot_rows n) g' n.fields rw in let pb = place_below j' (slot_rows n) g' n.fields b.0 b.1 in absurd (omega (arith, e, pb))
apart n Phase (Cell x') rv rw e = let b = lt_of x' n.cells rw in absurd (omega (arith, e, b))
apart n Phase (Head t') rv rw e = let b = lt_of t' (length n.kinds) rw in absurd (omega (arith, e, b))
apart n Phase (Link j') rv rw e = let b = lt_of j' (slot_rows n) rw in absurd (omega (arith, e, b))
apart n (Place c) Phase rv rw e = let a = lt_of c n.callers rv in absurd (omega (arith, e, a))
apart n (Place c) (Place c') rv rw e = ap Place (omega (arith, e))
apart n (Place c) (Warning c') rv rw e = let a = lt_of c n.callers rv in let b = lt_of c' n.callers rw in absurd (omega (arith, e, a, b))
apart n (Place c) (Hazard c' r') rv rw e = let a = lt_of c n.callers rv in let b = lt_two c' n.callers r' 8 rw in absurd (omega (arith, e, a, b.0, b.1))
apart n (Place c) (Status j') rv rw e = let a = lt_of c n.callers rv in let b = lt_of j' (slot_rows n) rw in absurd (omega (arith, e, a, b))
apart n (Place c) (FieldOf j' g') rv rw e = let a = lt_of c n.callers rv in let b = lt_two j' (slot_rows n) g' n.fields rw in let pb = place_below j' (slot_rows n) g' n.fields b.0 b.1 in absurd (omega (arith, e, a, pb))
apart n (Place c) (Cell x') rv rw e = let a = lt_of c n.callers rv in let b = lt_of x' n.cells rw in absurd (omega (arith, e, a, b))
apart n (Place c) (Head t') rv rw e = let a = lt_of c n.callers rv in let b = lt_of t' (length n.kinds) rw in absurd (omega (arith, e, b, a))
apart n (Place c) (Link j') rv rw e = let a = lt_of c n.callers rv in let b = lt_of j' (slot_rows n) rw in absurd (omega (arith, e, a, b))
apart n (Warning c) Phase rv rw e = let a = lt_of c n.callers rv in absurd (omega (arith, e, a))
apart n (Warning c) (Place c') rv rw e = let a = lt_of c n.callers rv in let b = lt_of c' n.callers rw in absurd (omega (arith, e, a, b))
apart n (Warning c) (Warning c') rv rw e = ap Warning (omega (arith, e))
apart n (Warning c) (Hazard c' r') rv rw e = let a = lt_of c n.callers rv in let b = lt_two c' n.callers r' 8 rw in absurd (omega (arith, e, a, b.0, b.1))
apart n (Warning c) (Status j') rv rw e = let a = lt_of c n.callers rv in let b = lt_of j' (slot_rows n) rw in absurd (omega (arith, e, a, b))
apart n (Warning c) (FieldOf j' g') rv rw e = let a = lt_of c n.callers rv in let b = lt_two j' (slot_rows n) g' n.fields rw in let pb = place_below j' (slot_rows n) g' n.fields b.0 b.1 in absurd (omega (arith, e, a, pb))
apart n (Warning c) (Cell x') rv rw e = let a = lt_of c n.callers rv in let b = lt_of x' n.cells rw in absurd (omega (arith, e, a, b))
apart n (Warning c) (Head t') rv rw e = let a = lt_of c n.callers rv in let b = lt_of t' (length n.kinds) rw in absurd (omega (arith, e, b, a))
apart n (Warning c) (Link j') rv rw e = let a = lt_of c n.callers rv in let b = lt_of j' (slot_rows n) rw in absurd (omega (arith, e, a, b))
apart n (Hazard c r) Phase rv rw e = let a = lt_two c n.callers r 8 rv in absurd (omega (arith, e, a.0, a.1))
apart n (Hazard c r) (Place c') rv rw e = let a = lt_two c n.callers r 8 rv in let b = lt_of c' n.callers rw in absurd (omega (arith, e, a.0, a.1, b))
apart n (Hazard c r) (Warning c') rv rw e = let a = lt_two c n.callers r 8 rv in let b = lt_of c' n.callers rw in absurd (omega (arith, e, a.0, a.1, b))
apart n (Hazard c r) (Hazard c' r') rv rw e = let a = lt_two c n.callers r 8 rv in let b = lt_two c' n.callers r' 8 rw in two Hazard c c' r r' (omega (arith, e, a.1, b.1)) (omega (arith, e, a.1, b.1))
apart n (Hazard c r) (Status j') rv rw e = let a = lt_two c n.callers r 8 rv in let b = lt_of j' (slot_rows n) rw in absurd (omega (arith, e, a.0, a.1, b))
apart n (Hazard c r) (FieldOf j' g') rv rw e = let a = lt_two c n.callers r 8 rv in let b = lt_two j' (slot_rows n) g' n.fields rw in let pb = place_below j' (slot_rows n) g' n.fields b.0 b.1 in absurd (omega (arith, e, a.0, a.1, pb))
apart n (Hazard c r) (Cell x') rv rw e = let a = lt_two c n.callers r 8 rv in let b = lt_of x' n.cells rw in absurd (omega (arith, e, a.0, a.1, b))
apart n (Hazard c r) (Head t') rv rw e = let a = lt_two c n.callers r 8 rv in let b = lt_of t' (length n.kinds) rw in absurd (omega (arith, e, b, a.0, a.1))
apart n (Hazard c r) (Link j') rv rw e = let a = lt_two c n.callers r 8 rv in let b = lt_of j' (slot_rows n) rw in absurd (omega (arith, e, a.0, a.1, b))
apart n (Status j) Phase rv rw e = let a = lt_of j (slot_rows n) rv in absurd (omega (arith, e, a))
apart n (Status j) (Place c') rv rw e = let a = lt_of j (slot_rows n) rv in let b = lt_of c' n.callers rw in absurd (omega (arith, e, a, b))
apart n (Status j) (Warning c') rv rw e = let a = lt_of j (slot_rows n) rv in let b = lt_of c' n.callers rw in absurd (omega (arith, e, a, b))
apart n (Status j) (Hazard c' r') rv rw e = let a = lt_of j (slot_rows n) rv in let b = lt_two c' n.callers r' 8 rw in absurd (omega (arith, e, a, b.0, b.1))
apart n (Status j) (Status j') rv rw e = ap Status (omega (arith, e))
apart n (Status j) (FieldOf j' g') rv rw e = let a = lt_of j (slot_rows n) rv in let b = lt_two j' (slot_rows n) g' n.fields rw in let pb = place_below j' (slot_rows n) g' n.fields b.0 b.1 in absurd (omega (arith, e, a, pb))
apart n (Status j) (Cell x') rv rw e = let a = lt_of j (slot_rows n) rv in let b = lt_of x' n.cells rw in absurd (omega (arith, e, a, b))
apart n (Status j) (Head t') rv rw e = let a = lt_of j (slot_rows n) rv in let b = lt_of t' (length n.kinds) rw in absurd (omega (arith, e, b, a))
apart n (Status j) (Link j') rv rw e = let a = lt_of j (slot_rows n) rv in let b = lt_of j' (slot_rows n) rw in absurd (omega (arith, e, a, b))
apart n (FieldOf j g) Phase rv rw e = let a = lt_two j (slot_rows n) g n.fields rv in let pa = place_below j (slot_rows n) g n.fields a.0 a.1 in absurd (omega (arith, e, pa))
apart n (FieldOf j g) (Place c') rv rw e = let a = lt_two j (slot_rows n) g n.fields rv in let pa = place_below j (slot_rows n) g n.fields a.0 a.1 in let b = lt_of c' n.callers rw in absurd (omega (arith, e, pa, b))
apart n (FieldOf j g) (Warning c') rv rw e = let a = lt_two j (slot_rows n) g n.fields rv in let pa = place_below j (slot_rows n) g n.fields a.0 a.1 in let b = lt_of c' n.callers rw in absurd (omega (arith, e, pa, b))
apart n (FieldOf j g) (Hazard c' r') rv rw e = let a = lt_two j (slot_rows n) g n.fields rv in let pa = place_below j (slot_rows n) g n.fields a.0 a.1 in let b = lt_two c' n.callers r' 8 rw in absurd (omega (arith, e, pa, b.0, b.1))
apart n (FieldOf j g) (Status j') rv rw e = let a = lt_two j (slot_rows n) g n.fields rv in let pa = place_below j (slot_rows n) g n.fields a.0 a.1 in let b = lt_of j' (slot_rows n) rw in absurd (omega (arith, e, pa, b))
apart n (FieldOf j g) (FieldOf j' g') rv rw e = let a = lt_two j (slot_rows n) g n.fields rv in let pa = place_below j (slot_rows n) g n.fields a.0 a.1 in let b = lt_two j' (slot_rows n) g' n.fields rw in let pb = place_below j' (slot_rows n) g' n.fields b.0 b.1 in let places : j * n.fields + g ≡ j' * n.fields + g' = omega (arith, e) in let u = same_from_place j g j' g' n.fields a.1 b.1 places in two FieldOf j j' g g' u.0 u.1
apart n (FieldOf j g) (Cell x') rv rw e = let a = lt_two j (slot_rows n) g n.fields rv in let pa = place_below j (slot_rows n) g n.fields a.0 a.1 in let b = lt_of x' n.cells rw in absurd (omega (arith, e, pa, b))
apart n (FieldOf j g) (Head t') rv rw e = let a = lt_two j (slot_rows n) g n.fields rv in let pa = place_below j (slot_rows n) g n.fields a.0 a.1 in let b = lt_of t' (length n.kinds) rw in absurd (omega (arith, e, b, pa))
apart n (FieldOf j g) (Link j') rv rw e = let a = lt_two j (slot_rows n) g n.fields rv in let pa = place_below j (slot_rows n) g n.fields a.0 a.1 in let b = lt_of j' (slot_rows n) rw in absurd (omega (arith, e, pa, b))
apart n (Cell x) Phase rv rw e = let a = lt_of x n.cells rv in absurd (omega (arith, e, a))
apart n (Cell x) (Place c') rv rw e = let a = lt_of x n.cells rv in let b = lt_of c' n.callers rw in absurd (omega (arith, e, a, b))
apart n (Cell x) (Warning c') rv rw e = let a = lt_of x n.cells rv in let b = lt_of c' n.callers rw in absurd (omega (arith, e, a, b))
apart n (Cell x) (Hazard c' r') rv rw e = let a = lt_of x n.cells rv in let b = lt_two c' n.callers r' 8 rw in absurd (omega (arith, e, a, b.0, b.1))
apart n (Cell x) (Status j') rv rw e = let a = lt_of x n.cells rv in let b = lt_of j' (slot_rows n) rw in absurd (omega (arith, e, a, b))
apart n (Cell x) (FieldOf j' g') rv rw e = let a = lt_of x n.cells rv in let b = lt_two j' (slot_rows n) g' n.fields rw in let pb = place_below j' (slot_rows n) g' n.fields b.0 b.1 in absurd (omega (arith, e, a, pb))
apart n (Cell x) (Cell x') rv rw e = ap Cell (omega (arith, e))
apart n (Cell x) (Head t') rv rw e = let a = lt_of x n.cells rv in let b = lt_of t' (length n.kinds) rw in absurd (omega (arith, e, b, a))
apart n (Cell x) (Link j') rv rw e = let a = lt_of x n.cells rv in let b = lt_of j' (slot_rows n) rw in absurd (omega (arith, e, a, b))
apart n (Head t) Phase rv rw e = let a = lt_of t (length n.kinds) rv in absurd (omega (arith, e, a))
apart n (Head t) (Place c') rv rw e = let b = lt_of c' n.callers rw in let a = lt_of t (length n.kinds) rv in absurd (omega (arith, e, a, b))
apart n (Head t) (Warning c') rv rw e = let b = lt_of c' n.callers rw in let a = lt_of t (length n.kinds) rv in absurd (omega (arith, e, a, b))
apart n (Head t) (Hazard c' r') rv rw e = let b = lt_two c' n.callers r' 8 rw in let a = lt_of t (length n.kinds) rv in absurd (omega (arith, e, a, b.0, b.1))
apart n (Head t) (Status j') rv rw e = let b = lt_of j' (slot_rows n) rw in let a = lt_of t (length n.kinds) rv in absurd (omega (arith, e, a, b))
apart n (Head t) (FieldOf j' g') rv rw e = let b = lt_two j' (slot_rows n) g' n.fields rw in let pb = place_below j' (slot_rows n) g' n.fields b.0 b.1 in let a = lt_of t (length n.kinds) rv in absurd (omega (arith, e, a, pb))
apart n (Head t) (Cell x') rv rw e = let b = lt_of x' n.cells rw in let a = lt_of t (length n.kinds) rv in absurd (omega (arith, e, a, b))
apart n (Head t) (Head t') rv rw e = ap Head (omega (arith, e))
apart n (Head t) (Link j') rv rw e = let b = lt_of j' (slot_rows n) rw in let a = lt_of t (length n.kinds) rv in absurd (omega (arith, e, a, b))
apart n (Link j) Phase rv rw e = let a = lt_of j (slot_rows n) rv in absurd (omega (arith, e, a))
apart n (Link j) (Place c') rv rw e = let a = lt_of j (slot_rows n) rv in let b = lt_of c' n.callers rw in absurd (omega (arith, e, a, b))
apart n (Link j) (Warning c') rv rw e = let a = lt_of j (slot_rows n) rv in let b = lt_of c' n.callers rw in absurd (omega (arith, e, a, b))
apart n (Link j) (Hazard c' r') rv rw e = let a = lt_of j (slot_rows n) rv in let b = lt_two c' n.callers r' 8 rw in absurd (omega (arith, e, a, b.0, b.1))
apart n (Link j) (Status j') rv rw e = let a = lt_of j (slot_rows n) rv in let b = lt_of j' (slot_rows n) rw in absurd (omega (arith, e, a, b))
apart n (Link j) (FieldOf j' g') rv rw e = let a = lt_of j (slot_rows n) rv in let b = lt_two j' (slot_rows n) g' n.fields rw in let pb = place_below j' (slot_rows n) g' n.fields b.0 b.1 in absurd (omega (arith, e, a, pb))
apart n (Link j) (Cell x') rv rw e = let a = lt_of j (slot_rows n) rv in let b = lt_of x' n.cells rw in absurd (omega (arith, e, a, b))
apart n (Link j) (Head t') rv rw e = let a = lt_of j (slot_rows n) rv in let b = lt_of t' (length n.kinds) rw in absurd (omega (arith, e, b, a))
apart n (Link j) (Link j') rv rw e = ap Link (omega (arith, e))

pub stand_apart : (n : Sizes) → WordsStandApart n
stand_apart n = record { within = within n; apart = apart n }
