-- Stores in other words than the phase and warnings, as a sweep reckons with them.
use Rattle.std.proofs.Common.{ℕ, ◌≡◌, ◌≤◌, ◌∙◌, Some, arith, inl, inr, ⊎_elim, sym, subst, refl}
use Rattle.oa_words.specs.Words.{Word, Phase, Warning, Hazard, Status, FieldOf, Cell}
use Rattle.oa_words.specs.Memories.{store}
use Rattle.oa_simulation.specs.sim_relation.Views.{Plan, Shared}
use Rattle.oa_simulation.specs.sim_relation.Shared.{SharedHolds}
use Rattle.oa_simulation.specs.sim_relation.MayChange.{MayChange}
use Rattle.epoch_relation.specs.Reckoned.{reckoned_words, EpochHolds}
use Rattle.oa_simulation.proofs.sim_steps.Pools.Phases.{with_words, fine_risen}

abbrev pub SameWords : (Word → ℕ) → (Word → ℕ) → Type 0
SameWords m m' = (w : Word) → m' w ≡ m w

pub fine_words : (t : Plan) (s : Shared) (m : Word → ℕ) → SameWords s.memory m → SharedHolds t s → SharedHolds t (with_words s m)
fine_words t s m same f = fine_risen t s m (record {
  phase = let e = same Phase in omega (arith, e);
  warning = λ d. (let e = same (Warning d) in omega (arith, e));
  below = λ d. (let e = same (Warning d) in let z = same Phase in let le = f.warning d in omega (arith, e, z, le));
  hazard = λ c r. same (Hazard c r);
  status = λ j. same (Status j);
  field = λ j g. same (FieldOf j g);
  cell = λ x. same (Cell x);
}) f

pub goes_words : (t : Plan) (c : ℕ) (a b : Shared) (m : Word → ℕ) → SameWords b.memory m → MayChange t c a b → MayChange t c a (with_words b m)
goes_words t c a b m same g = record {
  phase = let e = same Phase in let le = g.phase in omega (arith, e, le);
  warning = λ d. (let e = same (Warning d) in let le = g.warning d in omega (arith, e, le));
  tag = g.tag;
  public = g.public;
  link = g.link;
  hazard = λ d r ne. same (Hazard d r) ∙ g.hazard d r ne;
  protects = g.protects;
  validated = λ r q some. ⊎_elim
      (λ (was : b.protects c r ≡ a.protects c r). inl was)
      (λ (safe : b.tag (b.protects c r) ≡ Some q → b.memory (Warning c) ≤ q). inr (λ is. (let le = safe is in let e = same (Warning c) in omega (arith, e, le))))
      (g.validated r q some);
  held = λ j d k ne is. (let h = g.held j d k ne is in (h.0, h.1, (λ i. same (FieldOf j i) ∙ h.2 i)));
  retiring = g.retiring;
}

-- the store of a status, a field, a root
pub reckoned_status : (memory : Word → ℕ) (since : ℕ → ℕ) (j v : ℕ) → SameWords (store (reckoned_words memory since) (Status j) v) (reckoned_words (store memory (Status j) v) since)
reckoned_status memory since j v Phase = refl
reckoned_status memory since j v _ = refl

pub reckoned_field : (memory : Word → ℕ) (since : ℕ → ℕ) (j g v : ℕ) → SameWords (store (reckoned_words memory since) (FieldOf j g) v) (reckoned_words (store memory (FieldOf j g) v) since)
reckoned_field memory since j g v Phase = refl
reckoned_field memory since j g v _ = refl

pub reckoned_cell : (memory : Word → ℕ) (since : ℕ → ℕ) (x v : ℕ) → SameWords (store (reckoned_words memory since) (Cell x) v) (reckoned_words (store memory (Cell x) v) since)
reckoned_cell memory since x v Phase = refl
reckoned_cell memory since x v _ = refl

-- what is shared after a step that leaves the phase, the warnings and what is protected
pub holds_stored : (t : Plan) (s b : Shared) (since : ℕ → ℕ) (m : Word → ℕ) → EpochHolds t s since → SameWords b.memory (reckoned_words m since) → m Phase ≡ s.memory Phase → ((d : ℕ) → m (Warning d) ≡ s.memory (Warning d)) → ((d r : ℕ) → b.protects d r ≡ 0) → SharedHolds t b
    → EpochHolds t (with_words b m) since
holds_stored t s b since m f same phase warning bare g = record {
  holds = fine_words t b (reckoned_words m since) same g;
  announced = λ d. subst (λ (w : ℕ). w ≤ since d) (sym (warning d)) (f.announced d);
  begun = let some = f.begun in omega (arith, phase, some);
  unguarded = bare;
}
