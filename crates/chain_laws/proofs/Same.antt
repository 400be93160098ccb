-- Accesses that leave the pool's words.
use Rattle.std.proofs.Common.{ℕ, ◌≡◌, ◌≢◌, ◌==◌, ◌+◌, ◌&&◌, true, false, arith, sym, ap, refl, ⊎_elim, if◌then◌else◌}
use Rattle.std.proofs.lemmas.Bool.Decides.{nat_tests, eqb_tells}
use Rattle.oa_words.specs.Words.{Word, Phase, Status, Head, Link}
use Rattle.oa_words.specs.Memories.{store}
use Rattle.chain_laws.specs.Machine.{is_other}
use Rattle.chain_laws.proofs.Changes.{Same}

-- to store what stands there changes nothing
pub again : (m : Word → ℕ) (f : ℕ → Word) (a i : ℕ) → (if (i == a) && true then m (f a) else m (f i)) ≡ m (f i)
again m f a i = ⊎_elim
    (λ (e : ((i == a) ≡ true) × (i ≡ a)). rw e.0 (ap (λ j. m (f j)) (sym e.1)))
    (λ (e : ((i == a) ≡ false) × (i ≢ a)). rw e.0 refl)
    (eqb_tells i a)

pub same_loaded : (m : Word → ℕ) (w : Word) → Same m (store m w (m w))
same_loaded m (Status j) = record { phase = omega arith; head = λ k. refl; link = λ i. refl; status = λ i. again m Status j i }
same_loaded m (Head k) = record { phase = omega arith; head = λ i. again m Head k i; link = λ i. refl; status = λ i. refl }
same_loaded m (Link j) = record { phase = omega arith; head = λ k. refl; link = λ i. again m Link j i; status = λ i. refl }
same_loaded m _ = record { phase = omega arith; head = λ k. refl; link = λ i. refl; status = λ i. refl }

pub same_written : (m : Word → ℕ) (w : Word) (x : ℕ) → is_other w ≡ true → Same m (store m w x)
same_written m Phase x is = absurd (let z : false ≡ true = is in cc)
same_written m (Status j) x is = absurd (let z : false ≡ true = is in cc)
same_written m (Head k) x is = absurd (let z : false ≡ true = is in cc)
same_written m (Link j) x is = absurd (let z : false ≡ true = is in cc)
same_written m _ x is = record { phase = omega arith; head = λ k. refl; link = λ i. refl; status = λ i. refl }

-- the exchange of the phase, whether it succeeds or not
pub same_raised : (m : Word → ℕ) (p : ℕ) → Same m (store m Phase (if m Phase == p then p + 1 else m Phase))
same_raised m p = record { phase = grind (arith, nat_tests); head = λ k. refl; link = λ i. refl; status = λ i. refl }
