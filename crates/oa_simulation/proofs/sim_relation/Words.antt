-- Words told apart by their names, and memory changed at one word.
use Rattle.std.proofs.Common.{ℕ, ◌≡◌, ◌≢◌, ◌∙◌, ◌==◌, ◌&&◌, true, false, sym, ap, subst, refl, ⊎_elim, if◌then◌else◌}
use Rattle.std.proofs.lemmas.Bool.Decides.{eqb_tells}
use Rattle.oa_words.specs.Words.{Word, Phase, Place, Warning, Hazard, Status, FieldOf, Cell, Head, Link}
use Rattle.oa_words.specs.Memories.{store}
use Rattle.chain_laws.proofs.Same.{again}

-- what holds at the word, and at each other one, holds at each
each_one : (P : ℕ → ℕ → Type 0) (old : ℕ → ℕ) (c v : ℕ) → P c v → ((i : ℕ) → i ≢ c → P i (old i)) → (i : ℕ) → P i (if (i == c) && true then v else old i)
each_one P old c v here others i = ⊎_elim
    (λ (e : ((i == c) ≡ true) × (i ≡ c)). rw e.0 (subst (λ j. P j v) (sym e.1) here))
    (λ (e : ((i == c) ≡ false) × (i ≢ c)). rw e.0 (others i e.1))
    (eqb_tells i c)

pub each_warning : (P : ℕ → ℕ → Type 0) (m : Word → ℕ) (c v : ℕ) → P c v → ((i : ℕ) → i ≢ c → P i (m (Warning i))) → (i : ℕ) → P i (store m (Warning c) v (Warning i))
each_warning P m c v here others i = each_one P (λ k. m (Warning k)) c v here others i

pub each_status : (P : ℕ → ℕ → Type 0) (m : Word → ℕ) (c v : ℕ) → P c v → ((i : ℕ) → i ≢ c → P i (m (Status i))) → (i : ℕ) → P i (store m (Status c) v (Status i))
each_status P m c v here others i = each_one P (λ k. m (Status k)) c v here others i

pub each_cell : (P : ℕ → ℕ → Type 0) (m : Word → ℕ) (c v : ℕ) → P c v → ((i : ℕ) → i ≢ c → P i (m (Cell i))) → (i : ℕ) → P i (store m (Cell c) v (Cell i))
each_cell P m c v here others i = each_one P (λ k. m (Cell k)) c v here others i

-- to store what stands there changes nothing
two_again : (m : Word → ℕ) (f : ℕ → ℕ → Word) (a b i k : ℕ) → (if (i == a) && (k == b) then m (f a b) else m (f i k)) ≡ m (f i k)
two_again m f a b i k = ⊎_elim
    (λ (e : ((i == a) ≡ true) × (i ≡ a)). ⊎_elim
    (λ (g : ((k == b) ≡ true) × (k ≡ b)). rw (e.0, g.0) (ap (λ j. m (f j b)) (sym e.1) ∙ ap (λ j. m (f i j)) (sym g.1)))
    (λ (g : ((k == b) ≡ false) × (k ≢ b)). rw (e.0, g.0) refl)
    (eqb_tells k b))
    (λ (e : ((i == a) ≡ false) × (i ≢ a)). rw e.0 refl)
    (eqb_tells i a)

pub store_again : (m : Word → ℕ) (w v : Word) → store m w (m w) v ≡ m v
store_again m Phase Phase = refl
store_again m (Place a) (Place c) = again m Place a c
store_again m (Warning a) (Warning c) = again m Warning a c
store_again m (Hazard a b) (Hazard c r) = two_again m Hazard a b c r
store_again m (Status a) (Status j) = again m Status a j
store_again m (FieldOf a b) (FieldOf j g) = two_again m FieldOf a b j g
store_again m (Cell a) (Cell x) = again m Cell a x
store_again m (Head a) (Head t) = again m Head a t
store_again m (Link a) (Link j) = again m Link a j
store_again m _ _ = refl

pub store_idle : (m : Word → ℕ) (w : Word) → m ≡ store m w (m w)
store_idle m w = λ i v. sym (store_again m w v) i
