-- Words in which the phase and announcements rise, as a sweep reckons with them.
use Rattle.std.proofs.Common.{ℕ, zero, suc, ◌≡◌, ◌≢◌, ◌==◌, ◌≤◌, true, false, arith, ⊎_elim, refl}
use Rattle.std.proofs.lemmas.Bool.Decides.{eqb_tells}
use Rattle.oa_words.specs.Words.{Word, Phase, Warning, Head, Link}
use Rattle.oa_words.specs.Memories.{store}
use Rattle.source_machine.specs.MethodRuns.{put}
use Rattle.oa_simulation.proofs.sim_steps.Pools.Phases.{Risen}
use Rattle.epoch_relation.specs.Reckoned.{reckoned_at, reckoned_words}

-- what a caller is reckoned at, with the phase word as `since` or anything else
at_phase : (word phase : ℕ) → reckoned_at word phase phase ≡ phase
at_phase zero phase = refl
at_phase (suc p) phase = refl

-- a caller stores in its own warning word: a phase that it announces, or 0
pub own_risen : (m : Word → ℕ) (since : ℕ → ℕ) (c p : ℕ) → ((d : ℕ) → reckoned_words m since (Warning d) ≤ m Phase)
    → Risen (reckoned_words m since) (reckoned_words (store m (Warning c) p) (put since c (m Phase)))
own_risen m since c p below = record {
  phase = omega arith;
  warning = λ d. ⊎_elim
      (λ (e : ((d == c) ≡ true) × (d ≡ c)). rw (e.0, at_phase p (m Phase)) (below d))
      (λ (e : ((d == c) ≡ false) × (d ≢ c)). rw e.0 (omega arith))
      (eqb_tells d c);
  below = λ d. ⊎_elim
      (λ (e : ((d == c) ≡ true) × (d ≡ c)). rw (e.0, at_phase p (m Phase)) (omega arith))
      (λ (e : ((d == c) ≡ false) × (d ≢ c)). rw e.0 (below d))
      (eqb_tells d c);
  hazard = λ d r. refl;
  status = λ j. refl;
  field = λ j g. refl;
  cell = λ x. refl;
}

-- the phase is raised
raised_at : (word since phase phase' : ℕ) → phase ≤ phase' → reckoned_at word since phase ≤ reckoned_at word since phase'
raised_at zero since phase phase' up = up
raised_at (suc p) since phase phase' up = omega arith

raised_below : (word since phase phase' : ℕ) → phase ≤ phase' → reckoned_at word since phase ≤ phase → reckoned_at word since phase' ≤ phase'
raised_below zero since phase phase' up below = omega arith
raised_below (suc p) since phase phase' up below = let le : since ≤ phase = below in omega (arith, up, le)

pub phase_risen : (m : Word → ℕ) (since : ℕ → ℕ) (q : ℕ) → m Phase ≤ q → ((d : ℕ) → reckoned_words m since (Warning d) ≤ m Phase)
    → Risen (reckoned_words m since) (reckoned_words (store m Phase q) since)
phase_risen m since q up below = record {
  phase = up;
  warning = λ d. raised_at (m (Warning d)) (since d) (m Phase) q up;
  below = λ d. raised_below (m (Warning d)) (since d) (m Phase) q up (below d);
  hazard = λ d r. refl;
  status = λ j. refl;
  field = λ j g. refl;
  cell = λ x. refl;
}

-- a word of the chain is stored
pub head_risen : (m : Word → ℕ) (since : ℕ → ℕ) (kind x : ℕ) → ((d : ℕ) → reckoned_words m since (Warning d) ≤ m Phase) → Risen (reckoned_words m since) (reckoned_words (store m (Head kind) x) since)
head_risen m since kind x below = record { phase = omega arith; warning = λ d. omega arith; below = below; hazard = λ d r. refl; status = λ j. refl; field = λ j g. refl; cell = λ i. refl }

pub link_risen : (m : Word → ℕ) (since : ℕ → ℕ) (j x : ℕ) → ((d : ℕ) → reckoned_words m since (Warning d) ≤ m Phase) → Risen (reckoned_words m since) (reckoned_words (store m (Link j) x) since)
link_risen m since j x below = record { phase = omega arith; warning = λ d. omega arith; below = below; hazard = λ d r. refl; status = λ j. refl; field = λ j g. refl; cell = λ i. refl }
