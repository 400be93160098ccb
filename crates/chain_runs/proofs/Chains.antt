-- The chain of a kind in a memory is one, and so is where a list with one more event is split.
use Rattle.std.proofs.Common.{ℕ, ◌≡◌, ◌≢◌, ◌≤◌, ◌<◌, ◌⊎◌, ◌∙◌, ◌++◌, List, [], ◌∷◌, length, inl, inr, arith, ⊎_elim, sym, ap, subst, refl}
use Rattle.std.proofs.lemmas.Bool.{cases_eq}
use Rattle.oa_words.specs.Words.{Word, Sizes}
use Rattle.chain_laws.specs.Chains.{IsChain, Hands, PoolHolds, links, times, top}
use Rattle.chain_runs.specs.Slots.{InChain}

chain_is_one : (link : ℕ → ℕ) (t : ℕ) (one other : List ℕ) → IsChain link t one → IsChain link t other → one ≡ other
chain_is_one link t [] [] a b = refl
chain_is_one link t [] (j ∷ below) a b = absurd (b.1 (sym b.0 ∙ a))
chain_is_one link t (i ∷ below) [] a b = absurd (a.1 (sym a.0 ∙ b))
chain_is_one link t (i ∷ below) (j ∷ lower) a b =
    let same : i ≡ j = sym a.0 ∙ b.0 in
    let tail : below ≡ lower = chain_is_one link (link i) below lower a.2 (subst (λ (k : ℕ). IsChain link (link k) lower) (sym same) b.2) in
    ap (λ (k : ℕ). k ∷ below) same ∙ ap (λ (rest : List ℕ). j ∷ rest) tail

-- to stand in a kind's chain is to stand in the one that is known
pub stands_in : (n : Sizes) (memory : Word → ℕ) (hands : Hands) (k j : ℕ) → k < length n.kinds → PoolHolds n memory hands → times j (hands.chain k) ≡ 1 → InChain n.tops memory k j
stands_in n memory hands k j lt fine once = record { chain = hands.chain k; linked = fine.linked k lt; once = once }

pub is_in : (n : Sizes) (memory : Word → ℕ) (hands : Hands) (k j : ℕ) → k < length n.kinds → PoolHolds n memory hands → InChain n.tops memory k j → times j (hands.chain k) ≡ 1
is_in n memory hands k j lt fine there = ap (times j) (chain_is_one (links memory) (top n.tops memory k) (hands.chain k) there.chain (fine.linked k lt) there.linked) ∙ there.once

pub is_out : (n : Sizes) (memory : Word → ℕ) (hands : Hands) (k j : ℕ) → k < length n.kinds → PoolHolds n memory hands → times j (hands.chain k) ≡ 0 → ¬ InChain n.tops memory k j
is_out n memory hands k j lt fine none there = let z : 0 ≡ 1 = sym none ∙ is_in n memory hands k j lt fine there in let no : ⊥ = omega (arith, z) in no

pub none_in : (n : Sizes) (memory : Word → ℕ) (hands : Hands) (k j : ℕ) → k < length n.kinds → PoolHolds n memory hands → times j (hands.chain k) ≤ 1 → ¬ InChain n.tops memory k j → times j (hands.chain k) ≡ 0
none_in n memory hands k j lt fine most out = ⊎_elim
    (λ (is : times j (hands.chain k) ≡ 1). absurd (out (stands_in n memory hands k j lt fine is)))
    (λ (ne : times j (hands.chain k) ≢ 1). omega (arith, most, ne))
    (cases_eq (times j (hands.chain k)) 1)

-- ---- a list with one more at its end

abbrev pub SnocSplit : {A : Type 0} → List A → A → List A → List A → A → Type 0
SnocSplit xs y ys zs z = ((xs ≡ zs) × (y ≡ z)) ⊎ ((less : List _) × (xs ++ (y ∷ less) ≡ zs))

head_same : {A : Type 0} (x y : A) (xs ys : List A) → x ∷ xs ≡ y ∷ ys → x ≡ y
head_same x y xs ys is = cc

tail_same : {A : Type 0} (x y : A) (xs ys : List A) → x ∷ xs ≡ y ∷ ys → xs ≡ ys
tail_same x y xs ys is = cc

not_empty : {A : Type 0} (xs : List A) (y : A) (ys : List A) → xs ++ (y ∷ ys) ≡ [] → ⊥
not_empty [] y ys is = cc
not_empty (x ∷ xs) y ys is = cc

-- what stands there is the last one, or among those before it
pub snoc_split : {A : Type 0} (xs : List A) (y : A) (ys zs : List A) (z : A) → xs ++ (y ∷ ys) ≡ zs ++ (z ∷ []) → SnocSplit xs y ys zs z
snoc_split [] y ys [] z is = inl (refl, head_same y z ys [] is)
snoc_split [] y ys (w ∷ zs) z is = inr (zs, ap (λ a. a ∷ zs) (head_same y w ys (zs ++ (z ∷ [])) is))
snoc_split (x ∷ xs) y ys [] z is = absurd (not_empty xs y ys (tail_same x z (xs ++ (y ∷ ys)) [] is))
snoc_split (x ∷ xs) y ys (w ∷ zs) z is =
    let first : x ≡ w = head_same x w (xs ++ (y ∷ ys)) (zs ++ (z ∷ [])) is in
    ⊎_elim
    (λ (last : (xs ≡ zs) × (y ≡ z)). inl (ap (λ a. a ∷ xs) first ∙ ap (λ l. w ∷ l) last.0, last.1))
    (λ (among : (less : List _) × (xs ++ (y ∷ less) ≡ zs)). inr (among.0, ap (λ a. a ∷ (xs ++ (y ∷ among.0))) first ∙ ap (λ l. w ∷ l) among.1))
    (snoc_split xs y ys zs z (tail_same x w (xs ++ (y ∷ ys)) (zs ++ (z ∷ [])) is))
