-- Chains as lists.
use Rattle.std.proofs.Common.{ℕ, suc, ◌≡◌, ◌≢◌, ◌==◌, true, false, List, [], ◌∷◌, arith, sym, subst, refl, ⊎_elim}
use Rattle.std.proofs.lemmas.Bool.Decides.{nat_tests, eqb_tells}
use Rattle.chain_laws.specs.Memories.{put}
use Rattle.chain_laws.specs.Chains.{IsChain, times}

-- ---- functions changed at one place

pub each_put : {A : Type 0} (P : ℕ → A → Type 0) (f : ℕ → A) (k : ℕ) (x : A) → P k x → ((i : ℕ) → i ≢ k → P i (f i)) → (i : ℕ) → P i (put f k x i)
each_put P f k x here others i = ⊎_elim
    (λ (t : ((i == k) ≡ true) × (i ≡ k)). rw t.0 (subst (λ j. P j x) (sym t.1) here))
    (λ (t : ((i == k) ≡ false) × (i ≢ k)). rw t.0 (others i t.1))
    (eqb_tells i k)

pub same_test : (k : ℕ) → (k == k) ≡ true
same_test k = grind (arith, nat_tests)

pub put_same : {A : Type 0} (f : ℕ → A) (k : ℕ) (x : A) → put f k x k ≡ x
put_same f k x = rw (same_test k) refl

pub other_test : (i k : ℕ) → i ≢ k → (i == k) ≡ false
other_test i k ne = grind (arith, nat_tests)

pub put_other : {A : Type 0} (f : ℕ → A) (k i : ℕ) (x : A) → i ≢ k → put f k x i ≡ f i
put_other f k i x ne = rw (other_test i k ne) refl

-- ---- how often a slot stands in a chain

pub times_here : (i : ℕ) (below : List ℕ) → times i (i ∷ below) ≡ suc (times i below)
times_here i below = rw (same_test i) refl

pub times_other : (i j : ℕ) (below : List ℕ) → j ≢ i → times i (j ∷ below) ≡ times i below
times_other i j below ne = rw (other_test j i ne) refl

-- what stands below stands in the chain
pub times_below : (i j : ℕ) (below : List ℕ) → times i below ≢ 0 → times i (j ∷ below) ≢ 0
times_below i j below some = ⊎_elim
    (λ (e : ((j == i) ≡ true) × (j ≡ i)). rw e.0 (λ z. omega (arith, z)))
    (λ (e : ((j == i) ≡ false) × (j ≢ i)). rw e.0 some)
    (eqb_tells j i)

-- ---- links

-- the links of its slots alone make a chain
pub chain_same : (link link' : ℕ → ℕ) (top : ℕ) (chain : List ℕ) → ((i : ℕ) → times i chain ≢ 0 → link' i ≡ link i) → IsChain link top chain → IsChain link' top chain
chain_same link link' top [] same is = is
chain_same link link' top (j ∷ below) same is = (
  is.0,
  is.1,
  subst (λ (k : ℕ). IsChain link' k below) (sym (same j (λ z. omega (arith, z, times_here j below))))
      (chain_same link link' (link j) below (λ i some. same i (times_below i j below some)) is.2),
)
