-- A vector whose items were written through a slice.
use Rattle.std.proofs.Common.{◌≡◌, ◌≤◌, ℕ, zero, suc, List, [], ◌∷◌, Option, ◌++◌, length, drop, take, refl, sym, ap, ◌∙◌, subst, arith}
use Rattle.std.specs.Prelude.{All, IfSome}
use Rattle.std.specs.Option.{option_to_list}
use Rattle.std.proofs.lemmas.List.{append-nil}
use Rattle.std.proofs.lemmas.List.Elements.{All-pop}

module _ {X : Type 0} where
  drop_all : (xs : List X) (k : ℕ) → length xs ≤ k → drop k xs ≡ []
  drop_all [] zero h = refl
  drop_all [] (suc k) h = refl
  drop_all (x ∷ xs) zero h = absurd (omega arith)
  drop_all (x ∷ xs) (suc k) h = drop_all xs k (omega arith)

  take_all : (xs : List X) (k : ℕ) → length xs ≤ k → take k xs ≡ xs
  take_all [] zero h = refl
  take_all [] (suc k) h = refl
  take_all (x ∷ xs) zero h = absurd (omega arith)
  take_all (x ∷ xs) (suc k) h = ap (λ (l : List X). x ∷ l) (take_all xs k (omega arith))

  pub written_all : (P : X → Type 0) (xs ys : List X) (n : ℕ) → length ys ≡ length xs → n ≡ length xs → All P ys → All P (take n (ys ++ drop (length ys) xs))
  written_all P xs ys n same len h =
      let rest : drop (length ys) xs ≡ [] = drop_all xs (length ys) (omega arith) in
      let whole : ys ++ drop (length ys) xs ≡ ys = ap (λ (l : List X). ys ++ l) rest ∙ append-nil ys in
      let is : take n (ys ++ drop (length ys) xs) ≡ ys = ap (λ (l : List X). take n l) whole ∙ take_all ys n (omega arith) in
      subst (All P) (sym is) h

  -- and then the last item was taken
  pub popped_all : (P : X → Type 0) (xs ys zs : List X) (n : ℕ) (r : Option X) → length ys ≡ length xs → n ≡ length xs → take n (ys ++ drop (length ys) xs) ≡ zs ++ option_to_list r → All P ys → All P zs × IfSome r P
  popped_all P xs ys zs n r same len is h = All-pop P (take n (ys ++ drop (length ys) xs)) zs r is (written_all P xs ys n same len h)
