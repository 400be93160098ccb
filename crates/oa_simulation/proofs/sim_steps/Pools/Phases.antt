-- Steps that raise the phase or a warning, or store a word of the chain.
use Rattle.std.proofs.Common.{ℕ, ◌≡◌, ◌≤◌, ◌∙◌, arith, inl, sym, subst, refl, max}
use Rattle.oa_words.specs.Words.{Word, Phase, Warning, Hazard, Status, FieldOf, Cell, Head, Link}
use Rattle.oa_words.specs.Memories.{store}
use Rattle.source_machine.specs.Proper.{has}
use Rattle.oa_simulation.specs.sim_relation.Views.{Plan, Shared}
use Rattle.oa_simulation.specs.sim_relation.Shared.{Slot, SharedHolds}
use Rattle.oa_simulation.specs.sim_relation.Steps.{GoesForAll}
use Rattle.oa_simulation.proofs.sim_relation.Words.{each_warning}

-- words in which the phase and warnings may rise, and the chain's may be others
pub record Risen (m m' : Word → ℕ) : Type 0 where
  pub phase : m Phase ≤ m' Phase
  pub warning : (d : ℕ) → m (Warning d) ≤ m' (Warning d)
  pub below : (d : ℕ) → m' (Warning d) ≤ m' Phase
  pub hazard : (c r : ℕ) → m' (Hazard c r) ≡ m (Hazard c r)
  pub status : (j : ℕ) → m' (Status j) ≡ m (Status j)
  pub field : (j g : ℕ) → m' (FieldOf j g) ≡ m (FieldOf j g)
  pub cell : (x : ℕ) → m' (Cell x) ≡ m (Cell x)

abbrev pub with_words : Shared → (Word → ℕ) → Shared
with_words s m = record s { memory = m }

pub fine_risen : (t : Plan) (s : Shared) (m : Word → ℕ) → Risen s.memory m → SharedHolds t s → SharedHolds t (with_words s m)
fine_risen t s m r f = record {
  warning = r.below;
  tag = λ n p is. omega (arith, f.tag n p is, r.phase);
  tagged = f.tagged;
  slot = λ j. subst (λ (w : ℕ). Slot (s.owner j) w (s.present j) (s.tag (s.present j)) (has (s.present j) s.source.retired) (s.public (s.present j))) (sym (r.status j)) (f.slot j);
  home = f.home;
  none_there = f.none_there;
  null_stays = f.null_stays;
  gone = λ n p c is away lt. omega (arith, f.gone n p c is away lt, r.warning c);
  public = f.public;
  placed = f.placed;
  store = record {
    field = λ j g named few. r.field j g ∙ f.store.field j g named few;
    root = λ x. r.cell x ∙ f.store.root x;
    null_field = λ g. r.field 0 g ∙ f.store.null_field g;
    node = f.store.node;
    drawn = f.store.drawn;
    null_node = f.store.null_node;
    link = f.store.link;
    top = f.store.top;
  };
  guard = λ c k some. let g = f.guard c k some in record { resident = g.resident; word = r.hazard c k ∙ g.word; caller = g.caller; register = g.register };
  mine = f.mine;
  unused = f.unused;
  unused_some = f.unused_some;
  typed = f.typed;
}

pub goes_risen : (t : Plan) (s : Shared) (m : Word → ℕ) → Risen s.memory m → GoesForAll t s (with_words s m)
goes_risen t s m r y = record {
  phase = r.phase;
  warning = r.warning;
  tag = λ n p is. inl is;
  public = λ n is. is;
  link = λ n g. inl refl;
  hazard = λ d k ne. r.hazard d k;
  protects = λ d k ne. refl;
  validated = λ k q some. inl refl;
  held = λ j d k ne is. (is, refl, r.field j);
  retiring = λ j d ne is. (is, refl, refl);
}

-- ---- the words that a sweep and a claim store

pub phase_risen : (m : Word → ℕ) (p : ℕ) → m Phase ≤ p → ((d : ℕ) → m (Warning d) ≤ m Phase) → Risen m (store m Phase p)
phase_risen m p up below = record { phase = up; warning = λ d. omega arith; below = λ d. omega (arith, below d, up); hazard = λ c r. refl; status = λ j. refl; field = λ j g. refl; cell = λ x. refl }

pub warning_risen : (m : Word → ℕ) (x p : ℕ) → p ≤ m Phase → ((d : ℕ) → m (Warning d) ≤ m Phase) → Risen m (store m (Warning x) (max (m (Warning x)) p))
warning_risen m x p le below = record {
  phase = omega arith;
  warning = each_warning (λ d n. m (Warning d) ≤ n) m x (max (m (Warning x)) p) (omega arith) (λ d ne. omega arith);
  below = each_warning (λ d n. n ≤ m Phase) m x (max (m (Warning x)) p) (omega (arith, below x, le)) (λ d ne. below d);
  hazard = λ c r. refl;
  status = λ j. refl;
  field = λ j g. refl;
  cell = λ i. refl;
}

pub head_risen : (m : Word → ℕ) (kind n : ℕ) → ((d : ℕ) → m (Warning d) ≤ m Phase) → Risen m (store m (Head kind) n)
head_risen m kind n below = record { phase = omega arith; warning = λ d. omega arith; below = below; hazard = λ c r. refl; status = λ j. refl; field = λ j g. refl; cell = λ x. refl }

pub link_risen : (m : Word → ℕ) (j n : ℕ) → ((d : ℕ) → m (Warning d) ≤ m Phase) → Risen m (store m (Link j) n)
link_risen m j n below = record { phase = omega arith; warning = λ d. omega arith; below = below; hazard = λ c r. refl; status = λ i. refl; field = λ i g. refl; cell = λ x. refl }
