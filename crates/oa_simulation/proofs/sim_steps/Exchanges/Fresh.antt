-- A fresh node: its slot's old name goes, its fields are zeroed, the last store draws a name; and a put into it.
use Rattle.std.proofs.Common.{ℕ, zero, suc, ◌≡◌, ◌≢◌, ◌==◌, ◌+◌, ◌<◌, ◌⊎◌, ◌∙◌, ◌&&◌, true, false, List, [], ◌∷◌, map, length, Option, Some, arith, inl, inr, ⊎_elim, sym, ap, subst, refl, if◌then◌else◌}
use Rattle.std.specs.Prelude.{unwrap_or}
use Rattle.std.proofs.lemmas.Bool.{cases_eq}
use Rattle.std.proofs.lemmas.Bool.Decides.{nat_tests, eqb_tells}
use Rattle.norm_lang.specs.declared.text.FieldDecl.{FieldDecl}
use Rattle.norm_lang.specs.declared.text.FieldKind.{FieldKind}
use Rattle.norm_lang.specs.declared.text.FieldKind.TheVariants as field_kinds
use Rattle.norm_lang.specs.KindFields.{fields_of}
use Rattle.oa_words.specs.Words.{Status, FieldOf}
use Rattle.oa_words.specs.Memories.{store}
use Rattle.source_machine.specs.declared.state.Value.{Value}
use Rattle.source_machine.specs.declared.state.NamedNode.{NamedNode}
use Rattle.source_machine.specs.Memory.{value_at, fields_named, blank_of, blank_field, blank_fields}
use Rattle.source_machine.specs.Proper.{has, field_of}
use Rattle.source_machine.specs.MethodRuns.{put, name_in}
use Rattle.source_machine.proofs.Places.{each_put, put_other, fields_new, fields_new_other}
use Rattle.run_ahead.specs.Typed.{IsTyped}
use Rattle.oa_simulation.specs.sim_relation.Views.{Plan, Owner, Null, Held, Retiring, Shared, word_for, value_count, link, Resident}
use Rattle.oa_simulation.specs.sim_relation.Shared.{Slot, SharedHolds}
use Rattle.oa_simulation.specs.sim_relation.MayChange.{MayChange}
use Rattle.oa_simulation.proofs.sim_relation.Names.{slot_by, own_private, null_private}
use Rattle.oa_simulation.proofs.sim_steps.Pools.Slots.{apart}
use Rattle.oa_simulation.proofs.sim_steps.Exchanges.Writing.{linked, Links, each_written}

-- a slot in a cradle isn't slot 0
held_some : (t : Plan) (s : Shared) (c k j : ℕ) → SharedHolds t s → s.owner j ≡ Held c k → j ≢ 0
held_some t s c k j f own z = let e : Null ≡ Held c k = sym f.none_there ∙ (ap s.owner (sym z) ∙ own) in cc

-- the slot's name, if it has one, is neither published nor retired
held_name : (t : Plan) (s : Shared) (c k j : ℕ) → SharedHolds t s → s.owner j ≡ Held c k → (has (s.present j) s.source.retired ≡ false) × (s.public (s.present j) ≡ false)
held_name t s c k j f own = let slot = slot_by s j (Held c k) own (f.slot j) in (slot.1, slot.2)

-- ---- a field of it is zeroed, and it has no name any more

abbrev pub zeroed : Shared → ℕ → ℕ → Shared
zeroed s j g = record s { memory = store s.memory (FieldOf j g) 0; present = put s.present j 0 }

pub fine_zeroed : (t : Plan) (s : Shared) (c k j g : ℕ) → t.home 0 ≡ 0 → SharedHolds t s → s.owner j ≡ Held c k → ((r : ℕ) → s.protects c r ≡ 0) → SharedHolds t (zeroed s j g)
fine_zeroed t s c k j g null_home f own bare = record {
  warning = f.warning;
  tag = f.tag;
  tagged = f.tagged;
  none_there = f.none_there;
  null_stays = f.null_stays;
  placed = f.placed;
  unused = f.unused;
  unused_some = f.unused_some;
  typed = f.typed;
  mine = f.mine;
  home = each_put (λ i (n : ℕ). n ≢ 0 → t.home n ≡ i) s.present j 0 (λ some. absurd (some refl)) (λ i ne. f.home i);
  slot = λ i. ⊎_elim
      (λ (e : ((i == j) ≡ true) × (i ≡ j)).
      let slot = slot_by s i (Held c k) (ap s.owner e.1 ∙ own) (f.slot i) in
      rw e.0 (subst (λ (o : Owner). Slot o (s.memory (Status i)) 0 (s.tag 0) (has 0 s.source.retired) (s.public 0)) (sym (ap s.owner e.1 ∙ own)) (slot.0, f.null_stays, null_private t s null_home f)))
      (λ (e : ((i == j) ≡ false) × (i ≢ j)). rw e.0 (f.slot i))
      (eqb_tells i j);
  gone = λ n p d is away lt. f.gone n p d is (λ here. away (still n (λ e. let z : true ≡ false = sym (f.tagged n p is) ∙ (ap (λ (i : ℕ). has i s.source.retired) (sym e) ∙ (held_name t s c k j f own).0) in cc) here)) lt;
  public = λ n is away. f.public n is (λ here. away (still n (λ e. let z : true ≡ false = sym is ∙ (ap s.public (sym e) ∙ (held_name t s c k j f own).1) in cc) here));
  store = record {
    field = λ i g'. each_put (λ i (n : ℕ). n ≢ 0 → g' < value_count s.source n → store s.memory (FieldOf j g) 0 (FieldOf i g') ≡ word_for t.home (field_of s.source n g')) s.present j 0 (λ some few. absurd (some refl))
        (λ i ne some few. let away : (i == j) ≡ false = grind (arith, nat_tests) in rw away (f.store.field i g' some few)) i;
    root = f.store.root;
    null_field = λ g'. let away : (0 == j) ≡ false = (let d : j ≢ 0 = held_some t s c k j f own in grind (arith, nat_tests)) in rw away (f.store.null_field g');
    node = each_put (λ i (n : ℕ). n ≢ 0 → (values : List Value) × (fields_named n s.source.nodes ≡ Some values)) s.present j 0 (λ some. absurd (some refl)) (λ i ne. f.store.node i);
    drawn = each_put (λ i (n : ℕ). n < s.unused) s.present j 0 f.unused_some (λ i ne. f.store.drawn i);
    null_node = f.store.null_node;
    link = f.store.link;
    top = f.store.top;
  };
  guard = λ d r some.
      let gd = f.guard d r some in
      record { resident = put_other s.present j (t.home (s.protects d r)) 0 (λ e. unprotected_there d r some e) ∙ gd.resident; word = gd.word; caller = gd.caller; register = gd.register };
} where
  still : (n : ℕ) → (s.present j ≡ n → ⊥) → Resident t s n → put s.present j 0 (t.home n) ≡ n
  still n other here = put_other s.present j (t.home n) 0 (λ e. other (ap s.present (sym e) ∙ here)) ∙ here

  unprotected_there : (d r : ℕ) → s.protects d r ≢ 0 → t.home (s.protects d r) ≡ j → ⊥
  unprotected_there d r some e = ⊎_elim
      (λ (p : s.public (s.protects d r) ≡ true). let z : true ≡ false = sym p ∙ own_private t s c k (s.protects d r) f (ap s.owner e ∙ own) (f.guard d r some).resident in cc)
      (λ (m : (i : ℕ) × (s.owner (t.home (s.protects d r)) ≡ Held d i)).
      let same : c ≡ d = (let z : Held c k ≡ Held d m.0 = sym own ∙ (ap s.owner (sym e) ∙ m.1) in cc) in
      some (ap (λ (i : ℕ). s.protects i r) (sym same) ∙ bare r))
      (f.mine d r some)

pub goes_zeroed : (t : Plan) (s : Shared) (c k j g : ℕ) → s.owner j ≡ Held c k → MayChange t c s (zeroed s j g)
goes_zeroed t s c k j g own = record {
  phase = omega arith;
  warning = λ d. omega arith;
  tag = λ n q is. inl is;
  public = λ n is. is;
  link = λ n i. inl refl;
  hazard = λ d r ne. refl;
  protects = λ d r ne. refl;
  validated = λ r q some. inl refl;
  held = λ i d m ne is.
      let other : i ≢ j = apart s i j (Held d m) (Held c k) is own (λ e. ne (cc e)) in
      let away : (i == j) ≡ false = grind (arith, nat_tests) in
      (is, put_other s.present j i 0 other, (λ h. rw away refl));
  retiring = λ i d ne is. let other : i ≢ j = apart s i j (Retiring d) (Held c k) is own (λ e. cc) in (is, put_other s.present j i 0 other, refl);
}

-- ---- the last store draws a name

abbrev pub drawn : Plan → Shared → ℕ → ℕ → ℕ → Shared
drawn t s kind j g = record s {
  memory = store s.memory (FieldOf j g) 0;
  present = put s.present j s.unused;
  unused = s.unused + 1;
  source = record s.source { nodes = record { name = s.unused; kind = kind; values = blank_fields t.text kind } ∷ s.source.nodes };
}

pub blank_null : (t : Plan) (kind : FieldKind) → t.home 0 ≡ 0 → (word_for t.home (blank_of kind) ≡ 0) × (name_in (blank_of kind) ≡ 0)
blank_null t field_kinds.Number null = (refl, refl)
blank_null t (field_kinds.Reference k) null = (rw null refl, refl)

pub blank_value : (t : Plan) (fields : List FieldDecl) (g : ℕ) → t.home 0 ≡ 0 → (word_for t.home (value_at (map blank_field fields) g) ≡ 0) × (name_in (value_at (map blank_field fields) g) ≡ 0)
blank_value t [] g null = (refl, refl)
blank_value t (field ∷ fields) zero null = blank_null t field.kind null
blank_value t (field ∷ fields) (suc g) null = blank_value t fields g null

each_drawn : (t : Plan) (kind : ℕ) (P : ℕ → ℕ → Value → Type 0) (nodes : List NamedNode) (name : ℕ) → ((g : ℕ) → P name g (value_at (blank_fields t.text kind) g)) → ((n g : ℕ) → n ≢ name → P n g (value_at (unwrap_or (fields_named n nodes) []) g))
    → (n g : ℕ) → P n g (value_at (unwrap_or (fields_named n (record { name = name; kind = kind; values = blank_fields t.text kind } ∷ nodes)) []) g)
each_drawn t kind P nodes name here others n g = ⊎_elim
    (λ (e : n ≡ name). subst (λ (i : ℕ). P i g (value_at (unwrap_or (fields_named i (record { name = name; kind = kind; values = blank_fields t.text kind } ∷ nodes)) []) g)) (sym e)
    (subst (λ (x : Option (List Value)). P name g (value_at (unwrap_or x []) g)) (sym (fields_new name kind (blank_fields t.text kind) nodes)) (here g)))
    (λ (ne : n ≢ name). subst (λ (x : Option (List Value)). P n g (value_at (unwrap_or x []) g)) (sym (fields_new_other name kind n (blank_fields t.text kind) nodes ne)) (others n g ne))
    (cases_eq n name)

-- what the last store needs: the slot is the name's, has no name, and its other fields are 0, as many as the new node's kind has
pub record Draws (t : Plan) (s : Shared) (c k kind j g : ℕ) : Type 0 where
  pub own : s.owner j ≡ Held c k
  pub none : s.present j ≡ 0
  pub home : t.home s.unused ≡ j
  pub zeros : (i : ℕ) → i ≢ g → i < length (blank_fields t.text kind) → s.memory (FieldOf j i) ≡ 0
  pub typed : IsTyped t.text (drawn t s kind j g).source

pub fine_drawn : (t : Plan) (s : Shared) (c k kind j g : ℕ) → t.home 0 ≡ 0 → SharedHolds t s → Draws t s c k kind j g → SharedHolds t (drawn t s kind j g)
fine_drawn t s c k kind j g null_home f w = record {
  warning = f.warning;
  tag = f.tag;
  tagged = f.tagged;
  none_there = f.none_there;
  null_stays = f.null_stays;
  placed = f.placed;
  mine = f.mine;
  typed = w.typed;
  unused = λ n le. let u = f.unused n (omega (arith, le)) in (u.0, u.1, fields_new_other s.unused kind n (blank_fields t.text kind) s.source.nodes (λ e. omega (arith, le, e)) ∙ u.2);
  unused_some = omega arith;
  home = each_put (λ i (n : ℕ). n ≢ 0 → t.home n ≡ i) s.present j s.unused (λ some. w.home) (λ i ne. f.home i);
  slot = λ i. ⊎_elim
      (λ (e : ((i == j) ≡ true) × (i ≡ j)).
      let slot = slot_by s i (Held c k) (ap s.owner e.1 ∙ w.own) (f.slot i) in
      rw e.0 (subst (λ (o : Owner). Slot o (s.memory (Status i)) s.unused (s.tag s.unused) (has s.unused s.source.retired) (s.public s.unused)) (sym (ap s.owner e.1 ∙ w.own)) (slot.0, fresh.1, fresh.0)))
      (λ (e : ((i == j) ≡ false) × (i ≢ j)). rw e.0 (f.slot i))
      (eqb_tells i j);
  gone = λ n p d is away lt. f.gone n p d is (λ here. away (still n (λ e. let z : true ≡ false = sym (f.tagged n p is) ∙ (ap (λ (i : ℕ). has i s.source.retired) e ∙ fresh.1) in cc) here)) lt;
  public = λ n is away. f.public n is (λ here. away (still n (λ e. let z : true ≡ false = sym is ∙ (ap s.public e ∙ fresh.0) in cc) here));
  store = record {
    field = λ i h. field i h (eqb_tells i j);
    root = f.store.root;
    null_field = λ h. let away : (0 == j) ≡ false = (let d : j ≢ 0 = held_some t s c k j f w.own in grind (arith, nat_tests)) in rw away (f.store.null_field h);
    node = λ i. each_put (λ i (n : ℕ). n < s.unused + 1 → n ≢ 0 → (values : List Value) × (fields_named n (record { name = s.unused; kind = kind; values = blank_fields t.text kind } ∷ s.source.nodes) ≡ Some values)) s.present j s.unused
        (λ lt some. (blank_fields t.text kind, fields_new s.unused kind (blank_fields t.text kind) s.source.nodes))
        (λ i ne lt some. let v = f.store.node i some in (v.0, fields_new_other s.unused kind (s.present i) (blank_fields t.text kind) s.source.nodes (old i) ∙ v.1)) i (below i);
    drawn = below;
    null_node = fields_new_other s.unused kind 0 (blank_fields t.text kind) s.source.nodes (λ e. let some = f.unused_some in omega (arith, some, e)) ∙ f.store.null_node;
    link = each_drawn t kind (λ n h (value : Value). (name_in value ≡ 0) ⊎ (s.public (name_in value) ≡ true)) s.source.nodes s.unused (λ h. inl (blank_value t (fields_of kind t.text.fields) h null_home).1) (λ n h ne. f.store.link n h);
    top = f.store.top;
  };
  guard = λ d r some.
      let gd = f.guard d r some in
      record { resident = put_other s.present j (t.home (s.protects d r)) s.unused (λ e. some (sym gd.resident ∙ (ap s.present e ∙ w.none))) ∙ gd.resident; word = gd.word; caller = gd.caller; register = gd.register };
} where
  fresh : (s.public s.unused ≡ false) × (has s.unused s.source.retired ≡ false)
  fresh = let u = f.unused s.unused (omega arith) in (u.0, u.1)

  old : (i : ℕ) → s.present i ≢ s.unused
  old i e = let lt = f.store.drawn i in omega (arith, lt, e)

  below : (i : ℕ) → put s.present j s.unused i < s.unused + 1
  below = each_put (λ i (n : ℕ). n < s.unused + 1) s.present j s.unused (omega arith) (λ i ne. let lt = f.store.drawn i in omega (arith, lt))

  still : (n : ℕ) → (n ≡ s.unused → ⊥) → Resident t s n → put s.present j s.unused (t.home n) ≡ n
  still n other here = ⊎_elim
      (λ (e : t.home n ≡ j). absurd (held_some t s c k j f w.own (sym e ∙ (ap t.home (sym here ∙ (ap s.present e ∙ w.none)) ∙ null_home))))
      (λ (ne : t.home n ≢ j). put_other s.present j (t.home n) s.unused ne ∙ here)
      (cases_eq (t.home n) j)

  zero_there : (i h : ℕ) → (i == j) ≡ true → i ≡ j → h < length (blank_fields t.text kind) → (if (i == j) && (h == g) then 0 else s.memory (FieldOf i h)) ≡ 0
  zero_there i h is e few = rw is (⊎_elim
      (λ (x : ((h == g) ≡ true) × (h ≡ g)). rw x.0 refl)
      (λ (x : ((h == g) ≡ false) × (h ≢ g)). rw x.0 (ap (λ (l : ℕ). s.memory (FieldOf l h)) e ∙ w.zeros h x.1 few))
      (eqb_tells h g))

  field : (i h : ℕ) → (((i == j) ≡ true) × (i ≡ j)) ⊎ (((i == j) ≡ false) × (i ≢ j)) → put s.present j s.unused i ≢ 0 → h < value_count (drawn t s kind j g).source (put s.present j s.unused i)
      → store s.memory (FieldOf j g) 0 (FieldOf i h) ≡ word_for t.home (field_of (drawn t s kind j g).source (put s.present j s.unused i) h)
  field i h (inl e) some few =
      let name : put s.present j s.unused i ≡ s.unused = rw e.0 refl in
      let count : value_count (drawn t s kind j g).source (put s.present j s.unused i) ≡ length (blank_fields t.text kind) =
      ap (value_count (drawn t s kind j g).source) name ∙ ap (λ (x : Option (List Value)). length (unwrap_or x [])) (fields_new s.unused kind (blank_fields t.text kind) s.source.nodes) in
      zero_there i h e.0 e.1 (subst (λ (k : ℕ). h < k) count few) ∙ sym (ap (λ (n : ℕ). word_for t.home (field_of (drawn t s kind j g).source n h)) name
      ∙ (ap (λ (x : Option (List Value)). word_for t.home (value_at (unwrap_or x []) h)) (fields_new s.unused kind (blank_fields t.text kind) s.source.nodes) ∙ (blank_value t (fields_of kind t.text.fields) h null_home).0))
  field i h (inr e) some few =
      let name : put s.present j s.unused i ≡ s.present i = put_other s.present j i s.unused e.1 in
      let word : store s.memory (FieldOf j g) 0 (FieldOf i h) ≡ s.memory (FieldOf i h) = (let no = e.0 in rw no refl) in
      let count : value_count (drawn t s kind j g).source (put s.present j s.unused i) ≡ value_count s.source (s.present i) =
      ap (value_count (drawn t s kind j g).source) name ∙ ap (λ (x : Option (List Value)). length (unwrap_or x [])) (fields_new_other s.unused kind (s.present i) (blank_fields t.text kind) s.source.nodes (old i)) in
      word ∙ (f.store.field i h (λ z. some (name ∙ z)) (subst (λ (k : ℕ). h < k) count few) ∙ sym (ap (λ (n : ℕ). word_for t.home (field_of (drawn t s kind j g).source n h)) name
      ∙ ap (λ (x : Option (List Value)). word_for t.home (value_at (unwrap_or x []) h)) (fields_new_other s.unused kind (s.present i) (blank_fields t.text kind) s.source.nodes (old i))))

pub goes_drawn : (t : Plan) (s : Shared) (c k kind j g : ℕ) → SharedHolds t s → Draws t s c k kind j g → MayChange t c s (drawn t s kind j g)
goes_drawn t s c k kind j g f w = record {
  phase = omega arith;
  warning = λ d. omega arith;
  tag = λ n q is. inl is;
  public = λ n is. is;
  hazard = λ d r ne. refl;
  protects = λ d r ne. refl;
  validated = λ r q some. inl refl;
  -- what the new node links is null
  link = each_drawn t kind (λ n h (value : Value). (name_in value ≡ link s n h) ⊎ Resident t (drawn t s kind j g) (name_in value) ⊎ (((i : ℕ) × (s.owner (t.home n) ≡ Held c i)) × (s.public n ≡ false))) s.source.nodes s.unused
      (λ h. inr (inr ((k, ap s.owner w.home ∙ w.own), (f.unused s.unused (omega arith)).0))) (λ n h ne. inl refl);
  held = λ i d m ne is.
      let other : i ≢ j = apart s i j (Held d m) (Held c k) is w.own (λ e. ne (cc e)) in
      let away : (i == j) ≡ false = grind (arith, nat_tests) in
      (is, put_other s.present j i s.unused other, (λ h. rw away refl));
  retiring = λ i d ne is. let other : i ≢ j = apart s i j (Retiring d) (Held c k) is w.own (λ e. cc) in (is, put_other s.present j i s.unused other, refl);
}

-- ---- a put into an own node that isn't published

pub goes_put : (t : Plan) (c k : ℕ) (s : Shared) (o f : ℕ) (v : Value) → Links t s o f v → s.owner (t.home o) ≡ Held c k → s.public o ≡ false → MayChange t c s (linked t s o f v)
goes_put t c k s o f v w own private = record {
  phase = omega arith;
  warning = λ d. omega arith;
  tag = λ m q is. inl is;
  public = λ m is. is;
  hazard = λ d r ne. refl;
  protects = λ d r ne. refl;
  validated = λ r q some. inl refl;
  link = each_written (λ n g (value : Value). (name_in value ≡ link s n g) ⊎ Resident t (linked t s o f v) (name_in value) ⊎ (((i : ℕ) × (s.owner (t.home n) ≡ Held c i)) × (s.public n ≡ false))) s.source o f v w.values w.fields w.within
      (inr (inr ((k, own), private))) (λ n g ne. inl refl);
  held = λ j d m ne is. (is, refl, (λ g. let away : (j == t.home o) ≡ false = (let x : j ≢ t.home o = apart s j (t.home o) (Held d m) (Held c k) is own (λ e. ne (cc e)) in grind (arith, nat_tests)) in rw away refl));
  retiring = λ j d ne is. (is, refl, refl);
}
