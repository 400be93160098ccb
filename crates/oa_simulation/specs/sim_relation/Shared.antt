-- What holds of what is shared.
use Rattle.std.specs.Prelude.{ℕ, ◌≡◌, ◌≢◌, ◌≤◌, ◌<◌, ◌⊎◌, Bool, true, false, List, Option, Some, None}
use Rattle.oa_words.specs.declared.packed.Kind.TheVariants as kinds
use Rattle.oa_words.specs.Words.{Phase, Warning, Hazard, Status, FieldOf, Cell}
use Rattle.oa_words.specs.Packed.{status_word}
use Rattle.source_machine.specs.Memory.{value_at, fields_named}
use Rattle.source_machine.specs.declared.state.Value.{Value}
use Rattle.source_machine.specs.Proper.{has, field_of}
use Rattle.run_ahead.specs.Typed.{IsTyped}
use Rattle.oa_simulation.specs.sim_relation.Views.{Plan, Owner, Null, Pool, Held, Living, Retiring, Dead, Shared, word_for, value_count, link, top, Resident}
use Rattle.chain_laws.specs.Chains.{IsOf}

-- a slot by its owner: its status, its name, the name's tag, whether the name is retired, and published
abbrev pub Slot : Owner → ℕ → ℕ → Option ℕ → Bool → Bool → Type 0
Slot Null word n tag retired public = IsOf kinds.Used word × (n ≡ 0)
Slot Pool word n tag retired public = IsOf kinds.Ready word × (n ≡ 0)
Slot (Held c k) word n tag retired public = IsOf kinds.Used word × (retired ≡ false) × (public ≡ false)
Slot Living word n tag retired public = IsOf kinds.Used word × (n ≢ 0) × (retired ≡ false) × (public ≡ true)
Slot (Retiring c) word n tag retired public = IsOf kinds.Used word × (n ≢ 0) × (retired ≡ true)
Slot Dead word n tag retired public = (p : ℕ) × (word ≡ status_word p kinds.Retired) × (tag ≡ Some p) × (n ≢ 0)

abbrev pub SlotAt : Shared → ℕ → Type 0
SlotAt s j = Slot (s.owner j) (s.memory (Status j)) (s.present j) (s.tag (s.present j)) (has (s.present j) s.source.retired) (s.public (s.present j))

-- words against the source's memory
abbrev pub Stores : Plan → Shared → Type 0
Stores t s = record {
  -- the fields of a slot with a name are the name's, as many as its kind has. Words of the slot past them are never read
  field : (j g : ℕ) → s.present j ≢ 0 → g < value_count s.source (s.present j) → s.memory (FieldOf j g) ≡ word_for t.home (field_of s.source (s.present j) g);
  root : (x : ℕ) → s.memory (Cell x) ≡ word_for t.home (value_at s.source.roots x);
  -- those of null are 0
  null_field : (g : ℕ) → s.memory (FieldOf 0 g) ≡ 0;
  -- a name in a slot is a node of the source, and null is none
  node : (j : ℕ) → s.present j ≢ 0 → (values : List Value) × (fields_named (s.present j) s.source.nodes ≡ Some values);
  drawn : (j : ℕ) → s.present j < s.unused;
  null_node : fields_named 0 s.source.nodes ≡ None;
  -- what a field or a root names was published
  link : (n g : ℕ) → (link s n g ≡ 0) ⊎ (s.public (link s n g) ≡ true);
  top : (x : ℕ) → (top s x ≡ 0) ⊎ (s.public (top s x) ≡ true);
}

-- what a validated guard names is resident, and the hazard word is its slot
abbrev pub Guarded : Plan → Shared → ℕ → ℕ → Type 0
Guarded t s c r = record {
  resident : Resident t s (s.protects c r);
  word : s.memory (Hazard c r) ≡ t.home (s.protects c r);
  caller : c < t.setting.sizes.callers;
  register : r < 8;
}

pub record SharedHolds (t : Plan) (s : Shared) : Type 0 where
  -- warnings don't pass the phase
  pub warning : (c : ℕ) → s.memory (Warning c) ≤ s.memory Phase
  pub tag : (n p : ℕ) → s.tag n ≡ Some p → p ≤ s.memory Phase
  pub tagged : (n p : ℕ) → s.tag n ≡ Some p → has n s.source.retired ≡ true
  pub slot : (j : ℕ) → SlotAt s j
  -- a slot with a name is the name's home
  pub home : (j : ℕ) → s.present j ≢ 0 → t.home (s.present j) ≡ j
  pub none_there : s.owner 0 ≡ Null
  -- null is never retired
  pub null_stays : has 0 s.source.retired ≡ false
  -- a name that was tagged and isn't resident was freed by a sweep that had warned all
  pub gone : (n p c : ℕ) → s.tag n ≡ Some p → (Resident t s n → ⊥) → c < t.setting.sizes.callers → p < s.memory (Warning c)
  -- a published name that isn't resident has a tag
  pub public : (n : ℕ) → s.public n ≡ true → (Resident t s n → ⊥) → (p : ℕ) × (s.tag n ≡ Some p)
  pub placed : (n : ℕ) → s.public n ≡ true → t.home n ≢ 0
  pub store : Stores t s
  pub guard : (c r : ℕ) → s.protects c r ≢ 0 → Guarded t s c r
  -- what a guard protects is published, or in a cradle of the guard's caller
  pub mine : (c r : ℕ) → s.protects c r ≢ 0 → (s.public (s.protects c r) ≡ true) ⊎ ((k : ℕ) × (s.owner (t.home (s.protects c r)) ≡ Held c k))
  -- names that weren't drawn
  pub unused : (n : ℕ) → s.unused ≤ n → (s.public n ≡ false) × (has n s.source.retired ≡ false) × (fields_named n s.source.nodes ≡ None)
  pub unused_some : 0 < s.unused
  pub typed : IsTyped t.text s.source
