-- The writes of an exchange: the new name is published, the field or root is linked, the old name is retired.
use Rattle.std.proofs.Common.{ℕ, ◌≡◌, ◌≢◌, ◌==◌, ◌≤◌, ◌<◌, ◌⊎◌, ◌∙◌, ◌||◌, Bool, true, false, List, [], ◌∷◌, ◌++◌, length, length-set, Option, Some, None, arith, inl, inr, ⊎_elim, sym, ap, subst, refl, set}
use Rattle.std.specs.Prelude.{option_map, unwrap_or}
use Rattle.std.proofs.lemmas.Bool.{cases_eq}
use Rattle.std.proofs.lemmas.Bool.Decides.{nat_tests, eqb_tells}
use Rattle.oa_words.specs.Words.{Phase, Status, FieldOf, Cell}
use Rattle.oa_words.specs.Memories.{store}
use Rattle.source_machine.specs.declared.state.Value.{Value}
use Rattle.source_machine.specs.declared.state.Memory.{Memory}
use Rattle.source_machine.specs.declared.state.NamedNode.{NamedNode}
use Rattle.source_machine.specs.Memory.{value_at, fields_named, with_field}
use Rattle.source_machine.specs.Proper.{has, field_of}
use Rattle.source_machine.specs.MethodRuns.{put, name_in}
use Rattle.source_machine.proofs.Places.{each_put, put_same, put_other, fields_set, fields_set_other}
use Rattle.source_machine.proofs.Names.{has_push, has_old, has_new}
use Rattle.run_ahead.specs.Typed.{IsTyped}
use Rattle.oa_simulation.specs.sim_relation.Views.{Plan, Owner, Null, Pool, Held, Living, Retiring, Dead, Shared, word_for, value_count, link, top, Resident}
use Rattle.oa_simulation.specs.sim_relation.Shared.{Slot, SharedHolds}
use Rattle.oa_simulation.specs.sim_relation.MayChange.{MayChange}
use Rattle.oa_simulation.proofs.sim_relation.Names.{slot_by, has_slot_of, residents_apart, own_private}
use Rattle.oa_simulation.proofs.sim_relation.Lists.{value_set, value_set_other}
use Rattle.oa_simulation.proofs.sim_steps.Pools.Slots.{apart}

-- two steps of a caller in one, given the links and guards of the second
pub goes_compose : (t : Plan) (c : ℕ) (s s' s'' : Shared) → MayChange t c s s' → MayChange t c s' s''
    → ((n g : ℕ) → (link s'' n g ≡ link s n g) ⊎ Resident t s'' (link s'' n g))
    → ((r : ℕ) → s''.protects c r ≡ s.protects c r) → MayChange t c s s''
goes_compose t c s s' s'' g h links guards = record {
  phase = omega (arith, g.phase, h.phase);
  warning = λ d. omega (arith, g.warning d, h.warning d);
  tag = λ n p is. ⊎_elim (λ (was : s'.tag n ≡ Some p). g.tag n p was) (λ (le : s'.memory Phase ≤ p). inr (omega (arith, le, g.phase))) (h.tag n p is);
  public = λ n is. h.public n (g.public n is);
  link = λ n i. ⊎_elim (λ (same : link s'' n i ≡ link s n i). inl same) (λ (new : Resident t s'' (link s'' n i)). inr (inl new)) (links n i);
  hazard = λ d r ne. h.hazard d r ne ∙ g.hazard d r ne;
  protects = λ d r ne. h.protects d r ne ∙ g.protects d r ne;
  validated = λ r q some. inl (guards r);
  held = λ j d k ne own. let a = g.held j d k ne own in let b = h.held j d k ne a.0 in (b.0, b.1 ∙ a.1, (λ i. b.2 i ∙ a.2 i));
  retiring = λ j d ne own. let a = g.retiring j d ne own in let b = h.retiring j d ne a.0 in (b.0, b.1 ∙ a.1, ap s''.tag (sym a.1) ∙ (b.2 ∙ (ap s'.tag a.1 ∙ a.2)));
}

-- ---- a name is published

abbrev pub publish : Owner → Owner
publish Null = Null
publish Pool = Pool
publish (Held c k) = Living
publish Living = Living
publish (Retiring c) = Retiring c
publish Dead = Dead

slot_published : (o : Owner) (word n : ℕ) (tag : Option ℕ) (rt pb : Bool) → n ≢ 0 → Slot o word n tag rt pb → Slot (publish o) word n tag rt true
slot_published Null word n tag rt pb some slot = absurd (some slot.1)
slot_published Pool word n tag rt pb some slot = absurd (some slot.1)
slot_published (Held c k) word n tag rt pb some slot = (slot.0, some, slot.1, refl)
slot_published Living word n tag rt pb some slot = (slot.0, some, slot.2, refl)
slot_published (Retiring c) word n tag rt pb some slot = slot
slot_published Dead word n tag rt pb some slot = slot

abbrev pub published : Plan → Shared → ℕ → Shared
published t s n = record s { public = put s.public n true; owner = put s.owner (t.home n) (publish (s.owner (t.home n))) }

pub fine_published : (t : Plan) (s : Shared) (n : ℕ) → SharedHolds t s → n ≢ 0 → Resident t s n → SharedHolds t (published t s n)
fine_published t s n f some here = record {
  warning = f.warning;
  tag = f.tag;
  tagged = f.tagged;
  home = f.home;
  null_stays = f.null_stays;
  gone = f.gone;
  guard = f.guard;
  unused_some = f.unused_some;
  typed = f.typed;
  mine = mine;
  unused = unused;
  slot = slot;
  none_there = put_other s.owner (t.home n) 0 (publish (s.owner (t.home n))) (λ e. has_slot_of t s n f here some (sym e)) ∙ f.none_there;
  public = each_put (λ i (b : Bool). b ≡ true → (Resident t s i → ⊥) → (p : ℕ) × (s.tag i ≡ Some p)) s.public n true (λ is away. absurd (away here)) (λ i ne. f.public i);
  placed = each_put (λ i (b : Bool). b ≡ true → t.home i ≢ 0) s.public n true (λ is. has_slot_of t s n f here some) (λ i ne. f.placed i);
  store = record {
    field = f.store.field;
    root = f.store.root;
    null_field = f.store.null_field;
    node = f.store.node;
    drawn = f.store.drawn;
    null_node = f.store.null_node;
    link = λ i g. ⊎_elim (λ (z : link s i g ≡ 0). inl z) (λ (p : s.public (link s i g) ≡ true). inr (up (link s i g) p)) (f.store.link i g);
    top = λ i. ⊎_elim (λ (z : top s i ≡ 0). inl z) (λ (p : s.public (top s i) ≡ true). inr (up (top s i) p)) (f.store.top i);
  };
} where
  up : (i : ℕ) → s.public i ≡ true → put s.public n true i ≡ true
  up = each_put (λ i (b : Bool). s.public i ≡ true → b ≡ true) s.public n true (λ p. refl) (λ i ne p. p)

  drawn : n < s.unused
  drawn = subst (λ (i : ℕ). i < s.unused) here (f.store.drawn (t.home n))

  unused : (i : ℕ) → s.unused ≤ i → (put s.public n true i ≡ false) × (has i s.source.retired ≡ false) × (fields_named i s.source.nodes ≡ None)
  unused i le = (put_other s.public n i true (λ e. absurd (omega (arith, e, le, drawn))) ∙ (f.unused i le).0, (f.unused i le).1, (f.unused i le).2)

  mine : (d r : ℕ) → s.protects d r ≢ 0 → (put s.public n true (s.protects d r) ≡ true) ⊎ ((k : ℕ) × (put s.owner (t.home n) (publish (s.owner (t.home n))) (t.home (s.protects d r)) ≡ Held d k))
  mine d r some' = ⊎_elim
      (λ (p : s.public (s.protects d r) ≡ true). inl (up (s.protects d r) p))
      (λ (own : (k : ℕ) × (s.owner (t.home (s.protects d r)) ≡ Held d k)). ⊎_elim
      (λ (e : t.home (s.protects d r) ≡ t.home n).
      let is : s.protects d r ≡ n = residents_apart t s (s.protects d r) n (f.guard d r some').resident here e in
      inl (ap (put s.public n true) is ∙ put_same s.public n true))
      (λ (ne : t.home (s.protects d r) ≢ t.home n). inr (own.0, put_other s.owner (t.home n) (t.home (s.protects d r)) _ ne ∙ own.1))
      (cases_eq (t.home (s.protects d r)) (t.home n)))
      (f.mine d r some')

  slot : (i : ℕ) → Slot (put s.owner (t.home n) (publish (s.owner (t.home n))) i) (s.memory (Status i)) (s.present i) (s.tag (s.present i)) (has (s.present i) s.source.retired) (put s.public n true (s.present i))
  slot i = ⊎_elim
      (λ (e : ((i == t.home n) ≡ true) × (i ≡ t.home n)).
      let is : s.present i ≡ n = ap s.present e.1 ∙ here in
      let old : Slot (s.owner i) (s.memory (Status i)) (s.present i) (s.tag (s.present i)) (has (s.present i) s.source.retired) (s.public (s.present i)) = f.slot i in
      rw (e.0, is, put_same s.public n true) (subst (λ (k : ℕ). Slot (publish (s.owner k)) (s.memory (Status i)) n (s.tag n) (has n s.source.retired) true) e.1
      (slot_published (s.owner i) (s.memory (Status i)) n (s.tag n) (has n s.source.retired) (s.public n) some (rw is at old))))
      (λ (e : ((i == t.home n) ≡ false) × (i ≢ t.home n)).
      let ne : s.present i ≢ n = λ is. e.1 (sym (f.home i (λ z. some (sym is ∙ z))) ∙ ap t.home is) in
      rw (e.0, put_other s.public n (s.present i) true ne) (f.slot i))
      (eqb_tells i (t.home n))

still_retiring : (o : Owner) (d : ℕ) → o ≡ Retiring d → publish o ≡ Retiring d
still_retiring o d is = ap publish is

-- the published name is the caller's own, or was published
pub goes_published : (t : Plan) (c : ℕ) (s : Shared) (n : ℕ) → SharedHolds t s → Resident t s n → (s.public n ≡ true) ⊎ ((k : ℕ) × (s.owner (t.home n) ≡ Held c k)) → MayChange t c s (published t s n)
goes_published t c s n f here known = record {
  phase = omega arith;
  warning = λ d. omega arith;
  tag = λ m q is. inl is;
  link = λ m g. inl refl;
  hazard = λ d r ne. refl;
  protects = λ d r ne. refl;
  validated = λ r q some. inl refl;
  public = each_put (λ i (b : Bool). s.public i ≡ true → b ≡ true) s.public n true (λ p. refl) (λ i ne p. p);
  held = λ j d k ne own. (put_other s.owner (t.home n) j (publish (s.owner (t.home n))) (λ e. other j d k ne own e) ∙ own, refl, (λ g. refl));
  retiring = λ j d ne own. (
    ⊎_elim
        (λ (e : ((j == t.home n) ≡ true) × (j ≡ t.home n)). rw e.0 (still_retiring (s.owner (t.home n)) d (ap s.owner (sym e.1) ∙ own)))
        (λ (e : ((j == t.home n) ≡ false) × (j ≢ t.home n)). rw e.0 own)
        (eqb_tells j (t.home n)),
    refl,
    refl,
  );
} where
  other : (j d k : ℕ) → d ≢ c → s.owner j ≡ Held d k → j ≡ t.home n → ⊥
  other j d k ne own e = ⊎_elim
      (λ (p : s.public n ≡ true). let z : true ≡ false = sym p ∙ own_private t s d k n f (ap s.owner (sym e) ∙ own) here in cc)
      (λ (mine : (i : ℕ) × (s.owner (t.home n) ≡ Held c i)). ne (let z : Held d k ≡ Held c mine.0 = sym own ∙ (ap s.owner e ∙ mine.1) in cc))
      known

-- ---- a field is written

-- the value of a field after a write to one
pub each_written : (P : ℕ → ℕ → Value → Type 0) (memory : Memory) (o f : ℕ) (v : Value) (values : List Value) → fields_named o memory.nodes ≡ Some values → f < length values
    → P o f v → ((n g : ℕ) → (n ≡ o → g ≡ f → ⊥) → P n g (field_of memory n g)) → (n g : ℕ) → P n g (field_of (record memory { nodes = with_field o f v memory.nodes }) n g)
each_written P memory o f v values is lt here others n g = ⊎_elim
    (λ (e : n ≡ o). at_node n e)
    (λ (ne : n ≢ o). subst (λ (x : Option (List Value)). P n g (value_at (unwrap_or x []) g)) (sym (fields_set_other o n f v memory.nodes ne)) (others n g (λ a b. ne a)))
    (cases_eq n o)
  where
    at_field : (n : ℕ) → n ≡ o → (g ≡ f) ⊎ (g ≢ f) → P n g (value_at (set values f v) g)
    at_field n e (inl same) = subst (λ (k : ℕ). P k g (value_at (set values f v) g)) (sym e) (subst (λ (k : ℕ). P o k (value_at (set values f v) k)) (sym same) (subst (P o f) (sym (value_set values f v lt)) here))
    at_field n e (inr ne) = subst (P n g) (sym (value_set_other values f g v ne)) (subst (λ (x : Option (List Value)). P n g (value_at (unwrap_or x []) g)) (ap (λ (k : ℕ). fields_named k memory.nodes) e ∙ is) (others n g (λ a b. ne b)))

    at_node : (n : ℕ) → n ≡ o → P n g (field_of (record memory { nodes = with_field o f v memory.nodes }) n g)
    at_node n e = subst (λ (x : Option (List Value)). P n g (value_at (unwrap_or x []) g))
        (sym (ap (λ (k : ℕ). fields_named k (with_field o f v memory.nodes)) e ∙ (fields_set o f v memory.nodes ∙ ap (option_map (λ values. set values f v)) is)))
        (at_field n e (cases_eq g f))

-- each name has as many fields as before
pub counts_set : (o n f : ℕ) (v : Value) (nodes : List NamedNode) → length (unwrap_or (fields_named n (with_field o f v nodes)) []) ≡ length (unwrap_or (fields_named n nodes) [])
counts_set o n f v nodes = ⊎_elim
    (λ (e : n ≡ o). ap (λ (k : ℕ). length (unwrap_or (fields_named k (with_field o f v nodes)) [])) e
    ∙ (ap (λ (x : Option (List Value)). length (unwrap_or x [])) (fields_set o f v nodes) ∙ (same (fields_named o nodes) ∙ ap (λ (k : ℕ). length (unwrap_or (fields_named k nodes) [])) (sym e))))
    (λ (ne : n ≢ o). ap (λ (x : Option (List Value)). length (unwrap_or x [])) (fields_set_other o n f v nodes ne))
    (cases_eq n o)
  where
    same : (x : Option (List Value)) → length (unwrap_or (option_map (λ values. set values f v) x) []) ≡ length (unwrap_or x [])
    same None = refl
    same (Some values) = length-set values f v

abbrev pub linked : Plan → Shared → ℕ → ℕ → Value → Shared
linked t s o f v = record s { memory = store s.memory (FieldOf (t.home o) f) (word_for t.home v); source = record s.source { nodes = with_field o f v s.source.nodes } }

-- what a write of a field needs: its node is there, and what is written is null or published
pub record Links (t : Plan) (s : Shared) (o f : ℕ) (v : Value) : Type 0 where
  pub here : Resident t s o
  pub some : o ≢ 0
  pub values : List Value
  pub fields : fields_named o s.source.nodes ≡ Some values
  pub within : f < length values
  pub known : (name_in v ≡ 0) ⊎ (s.public (name_in v) ≡ true)
  pub typed : IsTyped t.text (linked t s o f v).source

pub fine_linked : (t : Plan) (s : Shared) (o f : ℕ) (v : Value) → SharedHolds t s → Links t s o f v → SharedHolds t (linked t s o f v)
fine_linked t s o f v fine w = record {
  warning = fine.warning;
  tag = fine.tag;
  tagged = fine.tagged;
  slot = fine.slot;
  home = fine.home;
  none_there = fine.none_there;
  null_stays = fine.null_stays;
  gone = fine.gone;
  public = fine.public;
  placed = fine.placed;
  guard = fine.guard;
  mine = fine.mine;
  unused = λ n le. ((fine.unused n le).0, (fine.unused n le).1, fields_set_other o n f v s.source.nodes (λ e. let lt : o < s.unused = subst (λ (i : ℕ). i < s.unused) w.here (fine.store.drawn (t.home o)) in omega (arith, lt, le, e)) ∙ (fine.unused n le).2);
  unused_some = fine.unused_some;
  typed = w.typed;
  store = record {
    field = λ j g named few.
        let less : g < value_count s.source (s.present j) = subst (λ (k : ℕ). g < k) (counts_set o (s.present j) f v s.source.nodes) few in
        ⊎_elim
        (λ (e : s.present j ≡ o).
        let at : j ≡ t.home o = sym (fine.home j named) ∙ ap t.home e in
        rw (e, at) (each_written (λ n g' (value : Value). n ≡ o → g' < value_count s.source o → store s.memory (FieldOf (t.home o) f) (word_for t.home v) (FieldOf (t.home o) g') ≡ word_for t.home value) s.source o f v w.values w.fields w.within
        (λ same lt. let one : (t.home o == t.home o) ≡ true = grind (arith, nat_tests) in let two : (f == f) ≡ true = grind (arith, nat_tests) in rw (one, two) refl)
        (λ n g' ne same lt. let away : (g' == f) ≡ false = (let d : g' ≢ f = (λ z. ne same z) in grind (arith, nat_tests)) in
        let one : (t.home o == t.home o) ≡ true = grind (arith, nat_tests) in
        rw (one, away) (fine.store.field (t.home o) g' (λ z. named (ap s.present at ∙ z)) (subst (λ (k : ℕ). g' < value_count s.source k) (sym w.here) lt) ∙ ap (λ (k : ℕ). word_for t.home (field_of s.source k g')) (w.here ∙ sym same)))
        o g refl (subst (λ (k : ℕ). g < value_count s.source k) e less)))
        (λ (ne : s.present j ≢ o).
        let away : j ≢ t.home o = λ e. ne (ap s.present e ∙ w.here) in
        let test : (j == t.home o) ≡ false = grind (arith, nat_tests) in
        rw test (each_written (λ n g' (value : Value). n ≢ o → s.memory (FieldOf j g) ≡ word_for t.home (field_of s.source (s.present j) g) → n ≡ s.present j → g' ≡ g → s.memory (FieldOf j g) ≡ word_for t.home value) s.source o f v w.values w.fields w.within
        (λ other is a b. absurd (other refl))
        (λ n g' not other is a b. is ∙ (ap (λ (k : ℕ). word_for t.home (field_of s.source k g)) (sym a) ∙ ap (λ (k : ℕ). word_for t.home (field_of s.source n k)) (sym b)))
        (s.present j) g ne (fine.store.field j g named less) refl refl))
        (cases_eq (s.present j) o);
    root = fine.store.root;
    null_field = λ g. let away : (0 == t.home o) ≡ false = (let d : t.home o ≢ 0 = has_slot_of t s o fine w.here w.some in grind (arith, nat_tests)) in rw away (fine.store.null_field g);
    node = λ j named. ⊎_elim
        (λ (e : s.present j ≡ o). (set w.values f v, ap (λ (k : ℕ). fields_named k (with_field o f v s.source.nodes)) e ∙ (fields_set o f v s.source.nodes ∙ ap (option_map (λ values. set values f v)) w.fields)))
        (λ (ne : s.present j ≢ o). let old = fine.store.node j named in (old.0, fields_set_other o (s.present j) f v s.source.nodes ne ∙ old.1))
        (cases_eq (s.present j) o);
    drawn = fine.store.drawn;
    null_node = fields_set_other o 0 f v s.source.nodes (λ e. w.some (sym e)) ∙ fine.store.null_node;
    link = each_written (λ n g (value : Value). (name_in value ≡ 0) ⊎ (s.public (name_in value) ≡ true)) s.source o f v w.values w.fields w.within w.known (λ n g ne. fine.store.link n g);
    top = fine.store.top;
  };
}

pub goes_linked : (t : Plan) (c : ℕ) (s : Shared) (o f : ℕ) (v : Value) → Links t s o f v → Resident t s (name_in v) → ((d k : ℕ) → d ≢ c → s.owner (t.home o) ≡ Held d k → ⊥)
    → MayChange t c s (linked t s o f v) × ((n g : ℕ) → (link (linked t s o f v) n g ≡ link s n g) ⊎ Resident t s (link (linked t s o f v) n g))
goes_linked t c s o f v w new others = (
  record {
    phase = omega arith;
    warning = λ d. omega arith;
    tag = λ m q is. inl is;
    public = λ m is. is;
    hazard = λ d r ne. refl;
    protects = λ d r ne. refl;
    validated = λ r q some. inl refl;
    link = λ n g. ⊎_elim (λ (same : link (linked t s o f v) n g ≡ link s n g). inl same) (λ (k : Resident t s (link (linked t s o f v) n g)). inr (inl k)) (links n g);
    held = λ j d k ne own. (own, refl, (λ g. let away : (j == t.home o) ≡ false = (let x : j ≢ t.home o = (λ e. others d k ne (ap s.owner (sym e) ∙ own)) in grind (arith, nat_tests)) in rw away refl));
    retiring = λ j d ne own. (own, refl, refl);
  },
  links,
) where
  links : (n g : ℕ) → (name_in (field_of (record s.source { nodes = with_field o f v s.source.nodes }) n g) ≡ name_in (field_of s.source n g)) ⊎ Resident t s (name_in (field_of (record s.source { nodes = with_field o f v s.source.nodes }) n g))
  links = each_written (λ n g (value : Value). (name_in value ≡ name_in (field_of s.source n g)) ⊎ Resident t s (name_in value)) s.source o f v w.values w.fields w.within (inr new) (λ n g ne. inl refl)

-- ---- a name is retired

abbrev pub dropped : Plan → Shared → ℕ → ℕ → Shared
dropped t s c e = record s { source = record s.source { retired = s.source.retired ++ e ∷ [] }; owner = put s.owner (t.home e) (Retiring c) }

pub fine_dropped : (t : Plan) (s : Shared) (c e : ℕ) → SharedHolds t s → e ≢ 0 → Resident t s e → s.owner (t.home e) ≡ Living → s.public e ≡ true → IsTyped t.text (dropped t s c e).source → SharedHolds t (dropped t s c e)
fine_dropped t s c e f some here own public typed = record {
  warning = f.warning;
  tag = f.tag;
  home = f.home;
  gone = f.gone;
  public = f.public;
  placed = f.placed;
  guard = f.guard;
  unused_some = f.unused_some;
  typed = typed;
  store = record { field = f.store.field; root = f.store.root; null_field = f.store.null_field; node = f.store.node; drawn = f.store.drawn; null_node = f.store.null_node; link = f.store.link; top = f.store.top };
  tagged = λ n p is. has_old n e s.source.retired (f.tagged n p is);
  null_stays = not_new 0 (λ z. some (sym z)) f.null_stays;
  none_there = put_other s.owner (t.home e) 0 (Retiring c) (λ z. has_slot_of t s e f here some (sym z)) ∙ f.none_there;
  mine = λ d r some'. ⊎_elim
      (λ (p : s.public (s.protects d r) ≡ true). inl p)
      (λ (own' : (k : ℕ) × (s.owner (t.home (s.protects d r)) ≡ Held d k)).
      inr (own'.0, put_other s.owner (t.home e) (t.home (s.protects d r)) (Retiring c) (λ z. let y : Living ≡ Held d own'.0 = sym own ∙ (ap s.owner (sym z) ∙ own'.1) in cc) ∙ own'.1))
      (f.mine d r some');
  unused = λ n le. ((f.unused n le).0, not_new n (λ z. let y : true ≡ false = sym public ∙ (ap s.public (sym z) ∙ (f.unused n le).0) in cc) (f.unused n le).1, (f.unused n le).2);
  slot = λ i. ⊎_elim
      (λ (x : ((i == t.home e) ≡ true) × (i ≡ t.home e)).
      let is : s.present i ≡ e = ap s.present x.1 ∙ here in
      let old = slot_by s i Living (ap s.owner x.1 ∙ own) (f.slot i) in
      rw x.0 (old.0, (λ z. some (sym is ∙ z)), ap (λ (n : ℕ). has n (s.source.retired ++ e ∷ [])) is ∙ has_new e s.source.retired))
      (λ (x : ((i == t.home e) ≡ false) × (i ≢ t.home e)).
      let ne : s.present i ≢ e = λ is. x.1 (sym (f.home i (λ z. some (sym is ∙ z))) ∙ ap t.home is) in
      rw x.0 (subst (λ (b : Bool). Slot (s.owner i) (s.memory (Status i)) (s.present i) (s.tag (s.present i)) b (s.public (s.present i))) (sym (same_has (s.present i) ne)) (f.slot i)))
      (eqb_tells i (t.home e));
} where
  same_has : (n : ℕ) → n ≢ e → has n (s.source.retired ++ e ∷ []) ≡ has n s.source.retired
  same_has n ne = has_push n s.source.retired e ∙ (let away : (e == n) ≡ false = (let d : e ≢ n = (λ z. ne (sym z)) in grind (arith, nat_tests)) in rw away (or_false (has n s.source.retired)))
    where
      or_false : (b : Bool) → (b || false) ≡ b
      or_false true = refl
      or_false false = refl

  not_new : (n : ℕ) → n ≢ e → has n s.source.retired ≡ false → has n (s.source.retired ++ e ∷ []) ≡ false
  not_new n ne was = same_has n ne ∙ was

pub goes_dropped : (t : Plan) (s : Shared) (c e : ℕ) → s.owner (t.home e) ≡ Living → MayChange t c s (dropped t s c e)
goes_dropped t s c e own = record {
  phase = omega arith;
  warning = λ d. omega arith;
  tag = λ m q is. inl is;
  public = λ m is. is;
  link = λ n g. inl refl;
  hazard = λ d r ne. refl;
  protects = λ d r ne. refl;
  validated = λ r q some. inl refl;
  held = λ j d k ne is. (put_other s.owner (t.home e) j (Retiring c) (apart s j (t.home e) (Held d k) Living is own (λ z. cc)) ∙ is, refl, (λ g. refl));
  retiring = λ j d ne is. (put_other s.owner (t.home e) j (Retiring c) (apart s j (t.home e) (Retiring d) Living is own (λ z. cc)) ∙ is, refl, refl);
}

-- ---- a root is written

each_root : (P : ℕ → Value → Type 0) (roots : List Value) (z : ℕ) (v : Value) → z < length roots → P z v → ((i : ℕ) → i ≢ z → P i (value_at roots i)) → (i : ℕ) → P i (value_at (set roots z v) i)
each_root P roots z v lt here others i = ⊎_elim
    (λ (e : i ≡ z). subst (λ (k : ℕ). P k (value_at (set roots z v) k)) (sym e) (subst (P z) (sym (value_set roots z v lt)) here))
    (λ (ne : i ≢ z). subst (P i) (sym (value_set_other roots z i v ne)) (others i ne))
    (cases_eq i z)

abbrev pub linked_root : Plan → Shared → ℕ → Value → Shared
linked_root t s z v = record s { memory = store s.memory (Cell z) (word_for t.home v); source = record s.source { roots = set s.source.roots z v } }

pub record LinksRoot (t : Plan) (s : Shared) (z : ℕ) (v : Value) : Type 0 where
  pub within : z < length s.source.roots
  pub known : (name_in v ≡ 0) ⊎ (s.public (name_in v) ≡ true)
  pub typed : IsTyped t.text (linked_root t s z v).source

pub fine_linked_root : (t : Plan) (s : Shared) (z : ℕ) (v : Value) → SharedHolds t s → LinksRoot t s z v → SharedHolds t (linked_root t s z v)
fine_linked_root t s z v f w = record {
  warning = f.warning;
  tag = f.tag;
  tagged = f.tagged;
  slot = f.slot;
  home = f.home;
  none_there = f.none_there;
  null_stays = f.null_stays;
  gone = f.gone;
  public = f.public;
  placed = f.placed;
  guard = f.guard;
  mine = f.mine;
  unused = f.unused;
  unused_some = f.unused_some;
  typed = w.typed;
  store = record {
    field = f.store.field;
    null_field = f.store.null_field;
    node = f.store.node;
    drawn = f.store.drawn;
    null_node = f.store.null_node;
    link = f.store.link;
    root = each_root (λ i (value : Value). store s.memory (Cell z) (word_for t.home v) (Cell i) ≡ word_for t.home value) s.source.roots z v w.within
        (let one : (z == z) ≡ true = grind (arith, nat_tests) in rw one refl)
        (λ i ne. let away : (i == z) ≡ false = grind (arith, nat_tests) in rw away (f.store.root i));
    top = each_root (λ i (value : Value). (name_in value ≡ 0) ⊎ (s.public (name_in value) ≡ true)) s.source.roots z v w.within w.known (λ i ne. f.store.top i);
  };
}

pub goes_linked_root : (t : Plan) (c : ℕ) (s : Shared) (z : ℕ) (v : Value) → MayChange t c s (linked_root t s z v)
goes_linked_root t c s z v = record {
  phase = omega arith;
  warning = λ d. omega arith;
  tag = λ m q is. inl is;
  public = λ m is. is;
  hazard = λ d r ne. refl;
  protects = λ d r ne. refl;
  validated = λ r q some. inl refl;
  link = λ n g. inl refl;
  held = λ j d k ne own. (own, refl, (λ g. refl));
  retiring = λ j d ne own. (own, refl, refl);
}
