-- What the items so far say.
use Rattle.std.proofs.Common.{◌≡◌, ℕ, ◌+◌, ◌<◌, ◌++◌, List, [], ◌∷◌, length, take, get_or, Option, Some, None, arith, refl, sym, ap, ◌∙◌}
use Rattle.std.specs.Option.{option_map, option_and_then}
use Rattle.std.proofs.lemmas.List.{take_more, take_all}
use Rattle.std.proofs.lemmas.Option.{none-some, same_Some}
use Rattle.std.proofs.Math.Seq.{split_at}
use Rattle.row_spelling.specs.Moves.{each_in}

module _ {Y : Type 0} where
  abbrev with_first : Option (List Y) → Option Y → Option (List Y)
  with_first more first = option_and_then (λ y. option_map (λ ys. y ∷ ys) more) first

  first_and_more : (first : Option Y) (more : Option (List Y)) (ys : List Y) → with_first more first ≡ Some ys → (z : Y) × (zs : List Y) × (first ≡ Some z) × (more ≡ Some zs) × (ys ≡ z ∷ zs)
  first_and_more None more ys e = absurd (none-some ys e)
  first_and_more (Some z) None ys e = absurd (none-some ys e)
  first_and_more (Some z) (Some zs) ys e = (z, zs, refl, refl, sym (same_Some (z ∷ zs) ys e))

  no_more : (first : Option Y) → with_first None first ≡ None
  no_more None = refl
  no_more (Some y) = refl

module _ {X Y : Type 0} (f : X → Option Y) where
  each_push : (xs : List X) (ys : List Y) (x : X) (y : Y) → each_in f xs ≡ Some ys → f x ≡ Some y → each_in f (xs ++ x ∷ []) ≡ Some (ys ++ y ∷ [])
  each_push [] ys x y said one = ap (with_first (Some [])) one ∙ ap (λ l. Some (l ++ y ∷ [])) (same_Some [] ys said)
  each_push (w ∷ xs) ys x y said one =
      let cut = first_and_more (f w) (each_in f xs) ys said in
      ap (with_first (each_in f (xs ++ x ∷ []))) cut.2
      ∙ ap (λ more. with_first more (Some cut.0)) (each_push xs cut.1 x y cut.3 one)
      ∙ ap (λ l. Some (l ++ y ∷ [])) (sym cut.4)

  each_none : (xs : List X) (x : X) (zs : List X) → f x ≡ None → each_in f (xs ++ x ∷ zs) ≡ None
  each_none [] x zs none = ap (with_first (each_in f zs)) none
  each_none (w ∷ xs) x zs none = ap (λ more. with_first more (f w)) (each_none xs x zs none) ∙ no_more (f w)

  -- one item more
  pub each_more : (items : List X) (i : ℕ) (d : X) (ys : List Y) (y : Y) → i < length items → each_in f (take i items) ≡ Some ys → f (get_or items i d) ≡ Some y → each_in f (take (i + 1) items) ≡ Some (ys ++ y ∷ [])
  each_more items i d ys y lt said one = ap (each_in f) (take_more items i d lt) ∙ each_push (take i items) ys (get_or items i d) y said one

  -- an item that says nothing
  pub each_fails : (items : List X) (i : ℕ) (d : X) → i < length items → f (get_or items i d) ≡ None → each_in f items ≡ None
  each_fails items i d lt none = ap (each_in f) (split_at items i d lt) ∙ each_none (take i items) (get_or items i d) _ none

  -- no item is left
  pub each_ends : (items : List X) (i : ℕ) (ys : List Y) → i ≡ length items → each_in f (take i items) ≡ Some ys → each_in f items ≡ Some ys
  each_ends items i ys all said = ap (each_in f) (sym (take_all i items (omega arith))) ∙ said
