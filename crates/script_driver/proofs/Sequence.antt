-- A caller's sequence, number by number, and round by round.
use Rattle.std.proofs.Common.{◌≡◌, ℕ, zero, suc, ◌+◌, ◌-◌, ◌*◌, ◌/◌, ◌%◌, ◌<◌, List, [], ◌∷◌, ◌++◌, refl, sym, ap, subst, ◌∙◌, arith}
use Rattle.std.proofs.lemmas.List.FromFn.{map-range_with_len_more}
use Rattle.std.proofs.lemmas.Nat.{mod_below}
use Rattle.std.specs.Fn.{iterate}
use Rattle.documents.specs.declared.document.ScriptCall.{ScriptCall}
use Rattle.script_driver.specs.declared.rounds.Round.{Round}
use Rattle.script_driver.specs.Laws.{KeysAreOwn}
use Rattle.script_driver.specs.Rounds.{round_at}
use Rattle.script_driver.specs.declared.rounds.TheConstants.{MULTIPLIER, INCREMENT, MODULUS, KEYS}
use Rattle.script_driver.specs.Workload.{next_seed, seed_at, key_from, round_call, call_at, script_of, scripts_of}

iterate_more : (h : ℕ → ℕ) (n x : ℕ) → iterate h (suc n) x ≡ h (iterate h n x)
iterate_more h zero x = refl
iterate_more h (suc n) x = iterate_more h n (h x)

seed_next : (caller j : ℕ) → seed_at caller (j + 1) ≡ next_seed (seed_at caller j)
seed_next caller j =
    let one_more : j + 1 ≡ suc j = omega arith in
    ap (λ n. seed_at caller n) one_more ∙ iterate_more next_seed j (caller + 1)

pub seed_below : (caller j : ℕ) → caller < 8 → seed_at caller j < MODULUS
seed_below caller zero few = omega (arith, few)
seed_below caller (suc j) few =
    subst (λ seed. seed < MODULUS) (sym (iterate_more next_seed j (caller + 1))) (mod_below (MULTIPLIER * seed_at caller j + INCREMENT) MODULUS (omega arith))

-- the round that the next number, its key and the key before make
pub round_next : (caller j : ℕ) (round : Round) (seed key : ℕ) → round ≡ round_at caller j → seed ≡ next_seed round.seed → key ≡ key_from caller seed
    → record { seed = seed; key = key; before = round.key } ≡ round_at caller (j + 1)
round_next caller j round seed key is seed_is key_is =
    let back : j + 1 - 1 ≡ j = omega arith in
    let next : seed ≡ seed_at caller (j + 1) = seed_is ∙ ap (λ (r : Round). next_seed r.seed) is ∙ sym (seed_next caller j) in
    rw (key_is, next, is, back) refl

-- the next call is in the next round after the last one of a round, and else in the same
pub next_in_round : (caller i : ℕ) (round : Round) → i % 4 ≡ 3 → round ≡ round_at caller (i / 4 + 1) → round ≡ round_at caller ((i + 1) / 4)
next_in_round caller i round last is = let same : i / 4 + 1 ≡ (i + 1) / 4 = omega (arith, last) in is ∙ ap (round_at caller) same

-- one more call, and one more script
pub script_more : (caller i : ℕ) (round : Round) (call : ScriptCall) (old new : List ScriptCall) → round ≡ round_at caller (i / 4)
    → call ≡ round_call round.key round.before (i % 4) → old ≡ script_of i caller → new ≡ old ++ call ∷ [] → new ≡ script_of (i + 1) caller
script_more caller i round call old new is call_is old_is new_is =
    let here : call ≡ call_at caller i = call_is ∙ ap (λ (r : Round). round_call r.key r.before (i % 4)) is in
    rw (new_is, old_is, here) (sym (map-range_with_len_more (call_at caller) 0 i i (omega arith)))

pub scripts_more : (count caller : ℕ) (script : List ScriptCall) (old new : List (List ScriptCall)) → script ≡ script_of count caller
    → old ≡ scripts_of count caller → new ≡ old ++ script ∷ [] → new ≡ scripts_of count (caller + 1)
scripts_more count caller script old new is old_is new_is =
    rw (new_is, old_is, is) (sym (map-range_with_len_more (script_of count) 0 caller caller (omega arith)))

pub keys_are_own : KeysAreOwn
keys_are_own = record {
  first = λ caller. refl;
  next = seed_next;
  from = λ caller j. omega arith;
  below = λ caller j. let rest = mod_below (seed_at caller j) KEYS (omega arith) in omega (arith, rest);
}
