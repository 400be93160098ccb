-- Slots change hands: a claim takes one, the retire routine tags and marks one, a sweep frees one.
use Rattle.std.proofs.Common.{ℕ, ◌≡◌, ◌≢◌, ◌==◌, ◌≤◌, ◌<◌, ◌⊎◌, ◌∙◌, Bool, true, false, List, length, set, Option, Some, None, arith, inl, inr, ⊎_elim, sym, ap, subst, refl}
use Rattle.std.specs.Prelude.{slice_index}
use Rattle.std.proofs.lemmas.Bool.{cases_eq}
use Rattle.std.proofs.lemmas.Bool.Decides.{eqb_tells}
use Rattle.oa_words.specs.declared.packed.Kind.TheVariants as kinds
use Rattle.oa_words.specs.Words.{Phase, Warning, Status, FieldOf}
use Rattle.oa_words.specs.Memories.{store}
use Rattle.oa_words.specs.Packed.{status_word}
use Rattle.chain_laws.proofs.Routines.{status_tells, kinds_apart}
use Rattle.source_machine.specs.Proper.{has, field_of}
use Rattle.source_machine.specs.declared.state.Value.{Value}
use Rattle.source_machine.specs.Memory.{fields_named}
use Rattle.source_machine.specs.MethodRuns.{put}
use Rattle.source_machine.proofs.Places.{each_put, put_same, put_other}
use Rattle.oa_simulation.specs.sim_relation.Views.{Plan, Owner, Null, Pool, Held, Retiring, Dead, Shared, Resident, word_for, value_count}
use Rattle.oa_simulation.specs.sim_relation.Shared.{Slot, SlotAt, SharedHolds}
use Rattle.oa_simulation.specs.sim_relation.Callers.{IsRetiring}
use Rattle.oa_simulation.specs.sim_relation.MayChange.{MayChange}
use Rattle.oa_simulation.specs.sim_relation.Steps.{GoesForAll}
use Rattle.oa_simulation.proofs.sim_relation.Names.{slot_by, null_private}
use Rattle.oa_simulation.proofs.sim_relation.Lists.{index_set, index_set_other}

-- a ready slot is in the pool
pub in_pool : (o : Owner) (q word n : ℕ) (tag : Option ℕ) (rt pb : Bool) → word ≡ status_word q kinds.Ready → Slot o word n tag rt pb → (o ≡ Pool) × (n ≡ 0)
in_pool Pool q word n tag rt pb is slot = (refl, slot.1)
in_pool Dead q word n tag rt pb is slot = kinds_apart _ q slot.0 kinds.Ready kinds.Retired word (λ e. cc) is slot.1
in_pool _ q word n tag rt pb is slot = kinds_apart _ q slot.0.0 kinds.Ready kinds.Used word (λ e. cc) is slot.0.1

-- a slot with status retired has a name with that tag
pub is_dead : (o : Owner) (q word n : ℕ) (tag : Option ℕ) (rt pb : Bool) → word ≡ status_word q kinds.Retired → Slot o word n tag rt pb → (o ≡ Dead) × (tag ≡ Some q) × (n ≢ 0)
is_dead Pool q word n tag rt pb is slot = kinds_apart _ q slot.0.0 kinds.Retired kinds.Ready word (λ e. cc) is slot.0.1
is_dead Dead q word n tag rt pb is slot = let e : slot.0 ≡ q = (status_tells slot.0 q kinds.Retired kinds.Retired (sym slot.1 ∙ is)).0 in (refl, slot.2 ∙ ap Some e, slot.3)
is_dead _ q word n tag rt pb is slot = kinds_apart _ q slot.0.0 kinds.Retired kinds.Used word (λ e. cc) is slot.0.1

-- a slot with another owner is another slot
pub apart : (s : Shared) (i j : ℕ) (o x : Owner) → s.owner i ≡ o → s.owner j ≡ x → (o ≡ x → ⊥) → i ≢ j
apart s i j o x own is ne e = ne (sym own ∙ (ap s.owner e ∙ is))

-- one slot gets another owner, status and name
abbrev pub with_slot_at : Shared → ℕ → Owner → ℕ → ℕ → Shared
with_slot_at s j o word n = record s { memory = store s.memory (Status j) word; owner = put s.owner j o; present = put s.present j n }

abbrev pub with_status : Shared → ℕ → Owner → ℕ → Shared
with_status s j o word = record s { memory = store s.memory (Status j) word; owner = put s.owner j o }

-- a name that a guard protects stays the guard's caller's, or published
mine_put : (t : Plan) (s : Shared) (j : ℕ) (o : Owner) → SharedHolds t s → ((d k : ℕ) → s.owner j ≡ Held d k → ⊥) → (c r : ℕ) → s.protects c r ≢ 0
    → (s.public (s.protects c r) ≡ true) ⊎ ((k : ℕ) × (put s.owner j o (t.home (s.protects c r)) ≡ Held c k))
mine_put t s j o f un c r some = ⊎_elim
    (λ (p : s.public (s.protects c r) ≡ true). inl p)
    (λ (own : (k : ℕ) × (s.owner (t.home (s.protects c r)) ≡ Held c k)).
    inr (own.0, put_other s.owner j (t.home (s.protects c r)) o (λ e. un c own.0 (ap s.owner (sym e) ∙ own.1)) ∙ own.1))
    (f.mine c r some)

-- a change of status and owner of a slot that isn't in a cradle, and not slot 0
pub fine_status : (t : Plan) (s : Shared) (j : ℕ) (o : Owner) (word : ℕ) → SharedHolds t s → ((d k : ℕ) → s.owner j ≡ Held d k → ⊥) → (s.owner j ≡ Null → ⊥)
    → Slot o word (s.present j) (s.tag (s.present j)) (has (s.present j) s.source.retired) (s.public (s.present j)) → SharedHolds t (with_status s j o word)
fine_status t s j o word f un some here = record {
  warning = f.warning;
  tag = f.tag;
  tagged = f.tagged;
  home = f.home;
  null_stays = f.null_stays;
  gone = f.gone;
  public = f.public;
  placed = f.placed;
  store = f.store;
  guard = f.guard;
  unused = f.unused;
  unused_some = f.unused_some;
  typed = f.typed;
  none_there = put_other s.owner j 0 o (λ e. some (ap s.owner (sym e) ∙ f.none_there)) ∙ f.none_there;
  slot = λ i. ⊎_elim
      (λ (e : ((i == j) ≡ true) × (i ≡ j)). rw e.0 (subst (λ (k : ℕ). Slot o word (s.present k) (s.tag (s.present k)) (has (s.present k) s.source.retired) (s.public (s.present k))) (sym e.1) here))
      (λ (e : ((i == j) ≡ false) × (i ≢ j)). rw e.0 (f.slot i))
      (eqb_tells i j);
  mine = mine_put t s j o f un;
}

-- a claim stores that the ready slot which it has taken is used
pub taken : (t : Plan) (s : Shared) (c k j p q : ℕ) → t.home 0 ≡ 0 → SharedHolds t s → s.memory (Status j) ≡ status_word p kinds.Ready
    → SharedHolds t (with_status s j (Held c k) (status_word q kinds.Used)) × GoesForAll t s (with_status s j (Held c k) (status_word q kinds.Used))
taken t s c k j p q null_home f is =
    let pool = in_pool (s.owner j) p (s.memory (Status j)) (s.present j) (s.tag (s.present j)) (has (s.present j) s.source.retired) (s.public (s.present j)) is (f.slot j) in (
      fine_status t s j (Held c k) (status_word q kinds.Used) f (λ d i own. let z : Pool ≡ Held d i = sym pool.0 ∙ own in cc) (λ own. let z : Pool ≡ Null = sym pool.0 ∙ own in cc)
          ((q, refl), ap (λ (n : ℕ). has n s.source.retired) pool.1 ∙ f.null_stays, ap s.public pool.1 ∙ null_private t s null_home f),
      λ y. record {
        phase = omega arith;
        warning = λ d. omega arith;
        tag = λ n r is. inl is;
        public = λ n is. is;
        link = λ n g. inl refl;
        hazard = λ d r ne. refl;
        protects = λ d r ne. refl;
        validated = λ r x some. inl refl;
        held = λ i d m ne own. (put_other s.owner j i (Held c k) (apart s i j (Held d m) Pool own pool.0 (λ e. cc)) ∙ own, refl, (λ g. refl));
        retiring = λ i d ne own. (put_other s.owner j i (Held c k) (apart s i j (Retiring d) Pool own pool.0 (λ e. cc)) ∙ own, refl, refl);
      },
    )

-- and puts it into a cradle
pub cradle_taken : (s : Shared) (c k j : ℕ) (cradles : List ℕ) → k < length cradles → s.owner j ≡ Pool → ((i : ℕ) → slice_index cradles i ≢ 0 → s.owner (slice_index cradles i) ≡ Held c i)
    → (i : ℕ) → slice_index (set cradles k j) i ≢ 0 → put s.owner j (Held c k) (slice_index (set cradles k j) i) ≡ Held c i
cradle_taken s c k j cradles lt pool held i full = ⊎_elim
    (λ (e : i ≡ k). rw e (ap (λ (n : ℕ). put s.owner j (Held c k) n) (index_set cradles k j lt) ∙ put_same s.owner j (Held c k)))
    (λ (ne : i ≢ k).
    let same : slice_index (set cradles k j) i ≡ slice_index cradles i = index_set_other cradles k j i ne in
    let own : s.owner (slice_index cradles i) ≡ Held c i = held i (λ z. full (same ∙ z)) in
    ap (λ (n : ℕ). put s.owner j (Held c k) n) same ∙ (put_other s.owner j (slice_index cradles i) (Held c k) (apart s (slice_index cradles i) j (Held c i) Pool own pool (λ e. cc)) ∙ own))
    (cases_eq i k)

-- what the owner of a retiring slot knows
pub slot_retiring : (t : Plan) (s : Shared) (c j : ℕ) → SharedHolds t s → s.owner j ≡ Retiring c → (s.present j ≢ 0) × (has (s.present j) s.source.retired ≡ true)
slot_retiring t s c j f own = let k = slot_by s j (Retiring c) own (f.slot j) in (k.1, k.2)

-- the store of the retire routine
pub marked : (t : Plan) (s : Shared) (c j n p : ℕ) → SharedHolds t s → IsRetiring s c j n (Some p)
    → SharedHolds t (with_status s j Dead (status_word p kinds.Retired)) × MayChange t c s (with_status s j Dead (status_word p kinds.Retired))
marked t s c j n p f r = (
  fine_status t s j Dead (status_word p kinds.Retired) f (λ d i own. let z : Retiring c ≡ Held d i = sym r.owner ∙ own in cc) (λ own. let z : Retiring c ≡ Null = sym r.owner ∙ own in cc)
      (p, refl, ap s.tag r.present ∙ r.tag_is, (slot_retiring t s c j f r.owner).0),
  record {
    phase = omega arith;
    warning = λ d. omega arith;
    tag = λ m q is. inl is;
    public = λ m is. is;
    link = λ m g. inl refl;
    hazard = λ d i ne. refl;
    protects = λ d i ne. refl;
    validated = λ i q some. inl refl;
    held = λ i d m ne own. (put_other s.owner j i Dead (apart s i j (Held d m) (Retiring c) own r.owner (λ e. cc)) ∙ own, refl, (λ g. refl));
    retiring = λ i d ne own. (put_other s.owner j i Dead (apart s i j (Retiring d) (Retiring c) own r.owner (λ e. ne (cc e))) ∙ own, refl, refl);
  },
)

abbrev pub with_tag : Shared → ℕ → Shared
with_tag s n = record s { tag = put s.tag n (Some (s.memory Phase)) }

-- the load of the retire routine: the phase becomes the tag
pub tagged : (t : Plan) (s : Shared) (c j n : ℕ) → SharedHolds t s → IsRetiring s c j n None → SharedHolds t (with_tag s n) × MayChange t c s (with_tag s n)
tagged t s c j n f r = (
  record {
    warning = f.warning;
    tag = each_put (λ i (o : Option ℕ). (p : ℕ) → o ≡ Some p → p ≤ s.memory Phase) s.tag n (Some (s.memory Phase)) (λ p is. let e : s.memory Phase ≡ p = cc in omega (arith, e)) (λ i ne. f.tag i);
    tagged = each_put (λ i (o : Option ℕ). (p : ℕ) → o ≡ Some p → has i s.source.retired ≡ true) s.tag n (Some (s.memory Phase)) (λ p is. retired) (λ i ne. f.tagged i);
    slot = slot;
    home = f.home;
    none_there = f.none_there;
    null_stays = f.null_stays;
    placed = f.placed;
    store = f.store;
    guard = f.guard;
    mine = f.mine;
    unused = f.unused;
    unused_some = f.unused_some;
    typed = f.typed;
    gone = each_put (λ i (o : Option ℕ). (p d : ℕ) → o ≡ Some p → (Resident t s i → ⊥) → d < t.setting.sizes.callers → p < s.memory (Warning d)) s.tag n (Some (s.memory Phase)) (λ p d is away lt. absurd (away resident)) (λ i ne. f.gone i);
    public = each_put (λ i (o : Option ℕ). s.public i ≡ true → (Resident t s i → ⊥) → (p : ℕ) × (o ≡ Some p)) s.tag n (Some (s.memory Phase)) (λ is away. absurd (away resident)) (λ i ne. f.public i);
  },
  record {
    phase = omega arith;
    warning = λ d. omega arith;
    tag = each_put (λ i (o : Option ℕ). (p : ℕ) → o ≡ Some p → (s.tag i ≡ Some p) ⊎ (s.memory Phase ≤ p)) s.tag n (Some (s.memory Phase)) (λ p is. let e : s.memory Phase ≡ p = cc in inr (omega (arith, e))) (λ i ne p is. inl is);
    public = λ n is. is;
    link = λ n g. inl refl;
    hazard = λ d r ne. refl;
    protects = λ d r ne. refl;
    validated = λ r q some. inl refl;
    held = λ i d k ne is. (is, refl, (λ g. refl));
    retiring = λ i d ne is. (is, refl, put_other s.tag n (s.present i) (Some (s.memory Phase)) (λ e. ne (other i d is e)));
  },
) where
  mine : (s.present j ≢ 0) × (has (s.present j) s.source.retired ≡ true)
  mine = slot_retiring t s c j f r.owner

  retired : has n s.source.retired ≡ true
  retired = ap (λ (i : ℕ). has i s.source.retired) (sym r.present) ∙ mine.1

  at_home : t.home n ≡ j
  at_home = ap t.home (sym r.present) ∙ f.home j mine.0

  resident : Resident t s n
  resident = ap s.present at_home ∙ r.present

  same_slot : (i : ℕ) → s.present i ≡ n → i ≡ j
  same_slot i is = sym (f.home i (λ z. mine.0 (r.present ∙ (sym is ∙ z)))) ∙ (ap t.home is ∙ at_home)

  other : (i d : ℕ) → s.owner i ≡ Retiring d → s.present i ≡ n → d ≡ c
  other i d own is = let e : Retiring d ≡ Retiring c = sym own ∙ (ap s.owner (same_slot i is) ∙ r.owner) in cc

  slot : (i : ℕ) → Slot (s.owner i) (s.memory (Status i)) (s.present i) (put s.tag n (Some (s.memory Phase)) (s.present i)) (has (s.present i) s.source.retired) (s.public (s.present i))
  slot i = ⊎_elim
      (λ (e : s.present i ≡ n).
      let own : s.owner i ≡ Retiring c = ap s.owner (same_slot i e) ∙ r.owner in
      let k = slot_by s i (Retiring c) own (f.slot i) in
      subst (λ (o : Owner). Slot o (s.memory (Status i)) (s.present i) (put s.tag n (Some (s.memory Phase)) (s.present i)) (has (s.present i) s.source.retired) (s.public (s.present i))) (sym own) (k.0, k.1, k.2))
      (λ (ne : s.present i ≢ n). subst (λ (o : Option ℕ). Slot (s.owner i) (s.memory (Status i)) (s.present i) o (has (s.present i) s.source.retired) (s.public (s.present i))) (sym (put_other s.tag n (s.present i) (Some (s.memory Phase)) ne)) (f.slot i))
      (cases_eq (s.present i) n)

-- a slot may be freed: it was retired before low, no caller is warned below that, and no validated guard names it
pub record Freed (t : Plan) (s : Shared) (low j q : ℕ) : Type 0 where
  pub word : s.memory (Status j) ≡ status_word q kinds.Retired
  pub below : q < low
  pub warned : (c : ℕ) → c < t.setting.sizes.callers → low ≤ s.memory (Warning c)
  pub spared : (d r : ℕ) → s.protects d r ≢ 0 → t.home (s.protects d r) ≢ j

-- it gets the phase to which the sweep raised
abbrev pub freed : Shared → ℕ → ℕ → Shared
freed s j bound = with_slot_at s j Pool (status_word bound kinds.Ready) 0

pub dead_slot : (s : Shared) (j q : ℕ) → SlotAt s j → s.memory (Status j) ≡ status_word q kinds.Retired → (s.owner j ≡ Dead) × (s.tag (s.present j) ≡ Some q) × (s.present j ≢ 0)
dead_slot s j q slot word = is_dead (s.owner j) q (s.memory (Status j)) (s.present j) (s.tag (s.present j)) (has (s.present j) s.source.retired) (s.public (s.present j)) word slot

pub fine_freed : (t : Plan) (s : Shared) (low bound j q : ℕ) → SharedHolds t s → Freed t s low j q → SharedHolds t (freed s j bound)
fine_freed t s low bound j q f w = record {
  warning = f.warning;
  tag = f.tag;
  tagged = f.tagged;
  null_stays = f.null_stays;
  placed = f.placed;
  unused = f.unused;
  unused_some = f.unused_some;
  typed = f.typed;
  none_there = put_other s.owner j 0 Pool (λ e. let z : Null ≡ Dead = sym f.none_there ∙ (ap s.owner e ∙ dead.0) in cc) ∙ f.none_there;
  mine = mine_put t s j Pool f (λ d k own. let z : Dead ≡ Held d k = sym dead.0 ∙ own in cc);
  store = record {
    field = λ i g'. each_put (λ i (n : ℕ). n ≢ 0 → g' < value_count s.source n → s.memory (FieldOf i g') ≡ word_for t.home (field_of s.source n g')) s.present j 0 (λ some. absurd (some refl)) (λ i ne. f.store.field i g') i;
    root = f.store.root;
    null_field = f.store.null_field;
    null_node = f.store.null_node;
    drawn = each_put (λ i (n : ℕ). n < s.unused) s.present j 0 f.unused_some (λ i ne. f.store.drawn i);
    node = each_put (λ i (n : ℕ). n ≢ 0 → (values : List Value) × (fields_named n s.source.nodes ≡ Some values)) s.present j 0 (λ some. absurd (some refl)) (λ i ne. f.store.node i);
    link = f.store.link;
    top = f.store.top;
  };
  home = each_put (λ i (n : ℕ). n ≢ 0 → t.home n ≡ i) s.present j 0 (λ some. absurd (some refl)) (λ i ne. f.home i);
  slot = λ i. ⊎_elim
      (λ (e : ((i == j) ≡ true) × (i ≡ j)). rw e.0 ((bound, refl), refl))
      (λ (e : ((i == j) ≡ false) × (i ≢ j)). rw e.0 (f.slot i))
      (eqb_tells i j);
  gone = λ n o d is away lt. ⊎_elim
      (λ (e : t.home n ≡ j). ⊎_elim
      (λ (same : s.present j ≡ n). let x : q ≡ o = cc (dead.1, ap s.tag same, is) in omega (arith, x, w.below, w.warned d lt))
      (λ (ne : s.present j ≢ n). f.gone n o d is (λ z. ne (ap s.present (sym e) ∙ z)) lt)
      (cases_eq (s.present j) n))
      (λ (ne : t.home n ≢ j). f.gone n o d is (λ z. away (put_other s.present j (t.home n) 0 ne ∙ z)) lt)
      (cases_eq (t.home n) j);
  public = λ n is away. ⊎_elim
      (λ (e : t.home n ≡ j). ⊎_elim
      (λ (same : s.present j ≡ n). (q, ap s.tag (sym same) ∙ dead.1))
      (λ (ne : s.present j ≢ n). f.public n is (λ z. ne (ap s.present (sym e) ∙ z)))
      (cases_eq (s.present j) n))
      (λ (ne : t.home n ≢ j). f.public n is (λ z. away (put_other s.present j (t.home n) 0 ne ∙ z)))
      (cases_eq (t.home n) j);
  guard = λ d r some.
      let gd = f.guard d r some in
      record { resident = put_other s.present j (t.home (s.protects d r)) 0 (w.spared d r some) ∙ gd.resident; word = gd.word; caller = gd.caller; register = gd.register };
} where
  dead : (s.owner j ≡ Dead) × (s.tag (s.present j) ≡ Some q) × (s.present j ≢ 0)
  dead = dead_slot s j q (f.slot j) w.word

pub goes_freed : (t : Plan) (s : Shared) (low bound j q : ℕ) → SharedHolds t s → Freed t s low j q → GoesForAll t s (freed s j bound)
goes_freed t s low bound j q f w y = record {
  phase = omega arith;
  warning = λ d. omega arith;
  tag = λ n q is. inl is;
  public = λ n is. is;
  link = λ n g. inl refl;
  hazard = λ d r ne. refl;
  protects = λ d r ne. refl;
  validated = λ r q some. inl refl;
  held = λ i d k ne own. let x : i ≢ j = apart s i j (Held d k) Dead own dead.0 (λ e. cc) in (put_other s.owner j i Pool x ∙ own, put_other s.present j i 0 x, (λ g. refl));
  retiring = λ i d ne own. let x : i ≢ j = apart s i j (Retiring d) Dead own dead.0 (λ e. cc) in (put_other s.owner j i Pool x ∙ own, put_other s.present j i 0 x, ap s.tag refl);
} where
  dead : (s.owner j ≡ Dead) × (s.tag (s.present j) ≡ Some q) × (s.present j ≢ 0)
  dead = dead_slot s j q (f.slot j) w.word
