-- The lines that count the nodes of each kind.
use Rattle.std.specs.Prelude.{◌≡◌, ℕ, ◌+◌, ◌-◌, ◌<◌, ◌≤◌, true, List, ◌∷◌, [], ◌++◌, length, replicate, Option, Some, None, Result, Ok, Err, IfOk, IfSome}
use Rattle.std.specs.Str.{bytes_eq}
use Rattle.std.proofs.Common.{suc, refl, sym, ◌∙◌, arith, append-nil, append_assoc}
use Rattle.std.proofs.lemmas.Bool.Decides.{nat_tests}
use Rattle.std.proofs.lemmas.List.Quantifiers.{position-Some}
use Rattle.std.proofs.lemmas.Result.{IfOk-at_ok}
use Rattle.norm_lang.specs.declared.text.Version.{Version}
use Rattle.norm_lang.specs.declared.text.Version.TheVariants.{First, Second}
use Rattle.norm_lang.specs.Bounds.{most_nodes}
use Rattle.norm_lang.specs.Faults.{form_fault, unknown_name, or_fault, ◌>>=◌}
use Rattle.norm_lang.specs.LineWords.{end_at, name_at, number_at, value_of, up_to, kind_named, owner_at}
use Rattle.norm_lang.specs.Declarations.{is_next, nodes_line}
use Rattle.text_laws.proofs.Readings.{then_has, anyhow, demanded}

-- a kind that is declared is one of four
abbrev IsOfFour : Option ℕ × List (List ℕ) → Type 0
IsOfFour owner = IfSome owner.0 (λ k. k < 4)

named_of_four : (kinds : List (List ℕ)) (name : List ℕ) → length kinds ≤ 4 → IfSome (kind_named kinds name) (λ k. k < 4)
named_of_four kinds name few = go (kind_named kinds name) refl
  where
    go : (found : Option ℕ) → kind_named kinds name ≡ found → IfSome found (λ k. k < 4)
    go None is = tt
    go (Some k) is = let found = position-Some (λ (kind : List ℕ). bytes_eq kind name) kinds k [] is in omega (arith, found.0, few)

owner_of_four : (version : Version) (kinds words : List (List ℕ)) → length kinds ≤ 4 → IfOk (owner_at version kinds words) IsOfFour
owner_of_four First kinds words few = omega arith
owner_of_four Second kinds words few = anyhow (name_at words) _ IsOfFour λ name. named_of_four kinds name.0 few

-- a line of the kind whose turn it is, which is declared
turn_declared : (turn : ℕ) (owner : Option ℕ) (rest : ℕ → Result ℕ ℕ) → IfSome owner (λ k. k < 4) → is_next turn owner ≡ true
    → IfOk (or_fault unknown_name owner >>= rest) (λ count. turn < 4)
turn_declared turn None rest few next = tt
turn_declared turn (Some k) rest few next = go (rest k)
  where
    go : (r : Result ℕ ℕ) → IfOk r (λ count. turn < 4)
    go (Ok count) = let same : k ≡ turn = grind (arith, nat_tests, next) in rw (← same) few
    go (Err fault) = tt

turn_of_four : (version : Version) (kinds words : List (List ℕ)) (turn promised : ℕ) → length kinds ≤ 4 → IfOk (nodes_line version kinds turn promised words) (λ count. turn < 4)
turn_of_four version kinds words turn promised few =
    then_has (owner_at version kinds words) _ IsOfFour _ (owner_of_four version kinds words few) λ owner of.
    anyhow (number_at owner.1) _ _ λ count. anyhow (end_at count.1) _ _ λ done. demanded form_fault (is_next turn owner.0) _ _ λ next.
    anyhow (value_of count.0) _ _ λ value. turn_declared turn owner.0 (λ known. up_to most_nodes (promised + value) >>= λ sum. Ok value) of next

-- a `nodes` line is of a kind that is declared
pub turn_is_kind : (version : Version) (kinds words : List (List ℕ)) (turn promised count : ℕ) → length kinds ≤ 4 → nodes_line version kinds turn promised words ≡ Ok count → turn < 4
turn_is_kind version kinds words turn promised count few read = IfOk-at_ok (λ count. turn < 4) read (turn_of_four version kinds words turn promised few)

-- one more node of those that a line promises
pub owners_more : (owners whole : List ℕ) (kind n i : ℕ) → i < n → owners ++ replicate (n - i) kind ≡ whole → (owners ++ kind ∷ []) ++ replicate (n - (i + 1)) kind ≡ whole
owners_more owners whole kind n i lt so_far =
    let k : n - i ≡ suc (n - (i + 1)) = omega arith in
    append_assoc owners (kind ∷ []) (replicate (n - (i + 1)) kind) ∙ (rw k at so_far)

pub owners_done : (owners whole : List ℕ) (kind n i : ℕ) → n ≤ i → owners ++ replicate (n - i) kind ≡ whole → owners ≡ whole
owners_done owners whole kind n i le so_far = let k : n - i ≡ 0 = omega arith in sym (append-nil owners) ∙ (rw k at so_far)
