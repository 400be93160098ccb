-- Instructions among so many are among more.
use Rattle.std.proofs.Common.{◌≡◌, ℕ, ◌+◌, ◌*◌, ◌/◌, ◌<◌, ◌≤◌, Bool, true, false, ◌&&◌, List, length, refl, ap, arith}
use Rattle.std.specs.Prelude.{slice_index_or, slice_get, unwrap_or, nat_lt}
use Rattle.std.proofs.lemmas.Option.{slice_get_past}
use Rattle.std.proofs.lemmas.Bool.{and_right}
use Rattle.std.proofs.lemmas.Bool.Decides.{nat_tests}
use Rattle.std.specs.List.{All}
use Rattle.path_facts.specs.declared.moves.Move.{Move}
use Rattle.path_facts.specs.Facts.{IsMove, comes_in_by}

-- each of fewer instructions than a bound is one of so many
pub one_fits : (moves : List Move) (i : ℕ) (d : Move) (bound : ℕ) → length moves < bound → All (IsMove (length moves)) moves → i < length moves → IsMove bound (slice_index_or moves i d)
one_fits moves i d bound few closed lt =
    let one = closed i d lt in
    ((λ to is. let less : to < length moves = one.0.0 to is in omega arith, λ to is. let less : to < length moves = one.0.1 to is in omega arith), one.1)

-- past the last instruction no answer is yes
pub none_past : (facts : List Bool) (at state : ℕ) → length facts / 4 < at → comes_in_by facts at state ≡ false
none_past facts at state lt = ap (λ found. unwrap_or found false && nat_lt state 4) (slice_get_past facts (4 * at + state) (omega (arith, lt)))

-- and none is yes for a fifth state
pub none_further : (facts : List Bool) (at state : ℕ) → 4 ≤ state → comes_in_by facts at state ≡ false
none_further facts at state le = let test : nat_lt state 4 ≡ false = grind (arith, nat_tests) in and_right (unwrap_or (slice_get facts (4 * at + state)) false) (nat_lt state 4) test

-- for one of the four states the answer is what the list says
pub one_of_four : (facts : List Bool) (at state : ℕ) → state < 4 → comes_in_by facts at state ≡ unwrap_or (slice_get facts (4 * at + state)) false
one_of_four facts at state lt = let test : nat_lt state 4 ≡ true = grind (arith, nat_tests) in and_yes (unwrap_or (slice_get facts (4 * at + state)) false) (nat_lt state 4) test
  where
    and_yes : (a b : Bool) → b ≡ true → (a && b) ≡ a
    and_yes true b is = is
    and_yes false b is = refl
