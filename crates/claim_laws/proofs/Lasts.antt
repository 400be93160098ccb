-- Lists with one more item at the end.
use Rattle.std.proofs.Common.{◌≡◌, ◌⊎◌, inl, inr, ⊎_elim, List, [], ◌∷◌, ◌++◌, sym, ap, ◌∙◌}
use Rattle.std.proofs.Math.Seq.{append_snoc}

module _ {A : Type 0} where
  cons_parts : (x y : A) (xs ys : List A) → x ∷ xs ≡ y ∷ ys → (x ≡ y) × (xs ≡ ys)
  cons_parts x y xs ys is = (cc, cc)

  pub never_nil : (xs : List A) (a : A) (ys : List A) → [] ≡ xs ++ a ∷ ys → ⊥
  never_nil [] a ys is = cc
  never_nil (x ∷ xs) a ys is = cc

  -- the last item is one
  pub last_same : (xs ys : List A) (a b : A) → xs ++ a ∷ [] ≡ ys ++ b ∷ [] → a ≡ b
  last_same [] [] a b is = (cons_parts a b [] [] is).0
  last_same [] (y ∷ ys) a b is = absurd (never_nil ys b [] (cons_parts a y [] (ys ++ b ∷ []) is).1)
  last_same (x ∷ xs) [] a b is = absurd (never_nil xs a [] (sym (cons_parts x b (xs ++ a ∷ []) [] is).1))
  last_same (x ∷ xs) (y ∷ ys) a b is = last_same xs ys a b (cons_parts x y (xs ++ a ∷ []) (ys ++ b ∷ []) is).1

  -- of two last items the second is
  pub last_of_two : (xs ys : List A) (a b c : A) → xs ++ a ∷ [] ≡ ys ++ b ∷ c ∷ [] → a ≡ c
  last_of_two xs ys a b c is = last_same xs (ys ++ b ∷ []) a c (is ∙ sym (append_snoc ys b (c ∷ [])))

  -- an item is the last, or stands among the others
  pub last_or_before : (xs ys more : List A) (a b : A) → xs ++ a ∷ [] ≡ ys ++ b ∷ more → (b ≡ a) ⊎ ((rest : List A) × (xs ≡ ys ++ b ∷ rest))
  last_or_before [] [] more a b is = inl (sym (cons_parts a b [] more is).0)
  last_or_before [] (y ∷ ys) more a b is = absurd (never_nil ys b more (cons_parts a y [] (ys ++ b ∷ more) is).1)
  last_or_before (x ∷ xs) [] more a b is = inr (xs, ap (λ (z : A). z ∷ xs) (cons_parts x b (xs ++ a ∷ []) more is).0)
  last_or_before (x ∷ xs) (y ∷ ys) more a b is =
      let both = cons_parts x y (xs ++ a ∷ []) (ys ++ b ∷ more) is in
      ⊎_elim (λ (t : b ≡ a). inl t)
      (λ (t : (rest : List A) × (xs ≡ ys ++ b ∷ rest)). inr (t.0, ap (λ (z : A). z ∷ xs) both.0 ∙ ap (λ (l : List A). y ∷ l) t.1))
      (last_or_before xs ys more a b both.1)
