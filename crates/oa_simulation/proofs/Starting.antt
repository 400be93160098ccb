-- The start: initial nodes are in the first slots of their kinds, and all else is ready.
use Rattle.std.proofs.Common.{ℕ, ◌≡◌, ◌≢◌, ◌==◌, ◌+◌, ◌≤◌, ◌<◌, ◌⊎◌, ◌∙◌, ◌&&◌, not, Bool, true, false, List, Some, None, ⊎_elim, arith, sym, ap, subst, refl}
use Rattle.std.specs.Prelude.{nat_le}
use Rattle.std.proofs.lemmas.Bool.{cases_eq}
use Rattle.std.proofs.lemmas.Bool.Decides.{nat_tests}
use Rattle.oa_words.specs.declared.packed.Kind.TheVariants as kinds
use Rattle.oa_words.specs.Words.{Word, Phase, Warning, Status, FieldOf, Cell}
use Rattle.oa_words.specs.SlotKinds.{together}
use Rattle.source_machine.specs.declared.state.Value.{Value}
use Rattle.source_machine.specs.State.{first_memory}
use Rattle.source_machine.specs.Memory.{value_at, fields_named}
use Rattle.source_machine.specs.Proper.{field_of}
use Rattle.source_machine.specs.MethodRuns.{name_in}
use Rattle.run_ahead.specs.Typed.{IsTyped}
use Rattle.oa_simulation.specs.sim_relation.Views.{Plan, Owner, Null, Pool, Living, Shared, word_for, value_count}
use Rattle.chain_laws.specs.Chains.{IsOf}
use Rattle.oa_simulation.specs.sim_relation.Shared.{Slot, SlotAt, SharedHolds}
use Rattle.oa_simulation.specs.Present.{first_present}

-- whether a name is an initial node's
abbrev pub is_node : Plan → ℕ → Bool
is_node t n = not (n == 0) && nat_le n (together t.setting.nodes)

-- slot 0, and whether another has no name
abbrev pub first_owner : Bool → Bool → Owner
first_owner true none = Null
first_owner false true = Pool
first_owner false false = Living

abbrev pub first_shared : Plan → (Word → ℕ) → Shared
first_shared t memory = record {
  memory = memory;
  present = first_present t.setting;
  unused = together t.setting.nodes + 1;
  tag = λ n. None;
  owner = λ j. first_owner (j == 0) (first_present t.setting j == 0);
  protects = λ c r. 0;
  public = λ n. is_node t n;
  source = first_memory t.text;
}

-- the words at the start, and the source's memory
pub record IsFirst (t : Plan) (memory : Word → ℕ) : Type 0 where
  pub warning : (c : ℕ) → memory (Warning c) ≤ memory Phase
  pub null : IsOf kinds.Used (memory (Status 0))
  pub used : (j : ℕ) → first_present t.setting j ≢ 0 → IsOf kinds.Used (memory (Status j))
  pub ready : (j : ℕ) → j ≢ 0 → first_present t.setting j ≡ 0 → IsOf kinds.Ready (memory (Status j))
  pub field : (j g : ℕ) → first_present t.setting j ≢ 0 → g < value_count (first_memory t.text) (first_present t.setting j) → memory (FieldOf j g) ≡ word_for t.home (field_of (first_memory t.text) (first_present t.setting j) g)
  pub root : (x : ℕ) → memory (Cell x) ≡ word_for t.home (value_at (first_memory t.text).roots x)
  pub null_field : (g : ℕ) → memory (FieldOf 0 g) ≡ 0
  pub node : (n : ℕ) → is_node t n ≡ true → (values : List Value) × (fields_named n (first_memory t.text).nodes ≡ Some values)
  pub null_node : fields_named 0 (first_memory t.text).nodes ≡ None
  -- references of the text are to its initial nodes
  pub link : (n g : ℕ) → (name_in (field_of (first_memory t.text) n g) ≡ 0) ⊎ (is_node t (name_in (field_of (first_memory t.text) n g)) ≡ true)
  pub top : (x : ℕ) → (name_in (value_at (first_memory t.text).roots x) ≡ 0) ⊎ (is_node t (name_in (value_at (first_memory t.text).roots x)) ≡ true)
  pub typed : IsTyped t.text (first_memory t.text)
  -- a slot with a name is the name's, which is an initial node's, and each of these has its slot
  pub home : (j : ℕ) → first_present t.setting j ≢ 0 → t.home (first_present t.setting j) ≡ j
  pub named : (j : ℕ) → first_present t.setting j ≢ 0 → is_node t (first_present t.setting j) ≡ true
  pub stands : (n : ℕ) → is_node t n ≡ true → first_present t.setting (t.home n) ≡ n
  -- no other name is a node
  pub past : (n : ℕ) → together t.setting.nodes + 1 ≤ n → fields_named n (first_memory t.text).nodes ≡ None

pub node_some : (t : Plan) (n : ℕ) → is_node t n ≡ true → (n ≢ 0) × (n ≤ together t.setting.nodes)
node_some t n is = (parts (n == 0) (nat_le n (together t.setting.nodes)) refl is, grind (arith, nat_tests)) where
  parts : (a b : Bool) → (n == 0) ≡ a → (not a && b) ≡ true → n ≢ 0
  parts true b e z = absurd (let y : false ≡ true = z in cc)
  parts false b e z = grind (arith, nat_tests)

pub fine_first : (t : Plan) (memory : Word → ℕ) → IsFirst t memory → SharedHolds t (first_shared t memory)
fine_first t memory w = record {
  warning = w.warning;
  tag = λ n p is. absurd (let z : None ≡ Some p = is in cc);
  tagged = λ n p is. absurd (let z : None ≡ Some p = is in cc);
  gone = λ n p c is. absurd (let z : None ≡ Some p = is in cc);
  slot = slot;
  home = λ j named. w.home j named;
  none_there = refl;
  null_stays = refl;
  public = λ n public away. absurd (away (w.stands n public));
  placed = λ n public z. (node_some t n public).0 (sym (w.stands n public) ∙ ap (first_present t.setting) z);
  store = record {
    field = w.field;
    root = w.root;
    null_field = w.null_field;
    node = λ j named. w.node (first_present t.setting j) (w.named j named);
    drawn = drawn;
    null_node = w.null_node;
    link = w.link;
    top = w.top;
  };
  guard = λ c r some. absurd (some refl);
  mine = λ c r some. absurd (some refl);
  unused = λ n le. (past n le, refl, w.past n le);
  unused_some = omega arith;
  typed = w.typed;
} where
  drawn : (j : ℕ) → first_present t.setting j < together t.setting.nodes + 1
  drawn j = ⊎_elim
      (λ (none : first_present t.setting j ≡ 0). omega (arith, none))
      (λ (some : first_present t.setting j ≢ 0). let le = (node_some t (first_present t.setting j) (w.named j some)).1 in omega (arith, le))
      (cases_eq (first_present t.setting j) 0)

  past : (n : ℕ) → together t.setting.nodes + 1 ≤ n → is_node t n ≡ false
  past n le = let d : nat_le n (together t.setting.nodes) ≡ false = grind (arith, nat_tests) in rw d (none (not (n == 0))) where
    none : (a : Bool) → (a && false) ≡ false
    none true = refl
    none false = refl

  slot_of : (j : ℕ) (a : Bool) → (j == 0) ≡ a → (b : Bool) → (first_present t.setting j == 0) ≡ b → Slot (first_owner a b) (memory (Status j)) (first_present t.setting j) None false (is_node t (first_present t.setting j))
  slot_of j true zero_is b is = let e : 0 ≡ j = grind (arith, nat_tests) in (subst (λ (i : ℕ). IsOf kinds.Used (memory (Status i))) e w.null, ap (first_present t.setting) (sym e))
  slot_of j false some true is = let none : first_present t.setting j ≡ 0 = grind (arith, nat_tests) in (w.ready j (grind (arith, nat_tests)) none, none)
  slot_of j false some false is = let named : first_present t.setting j ≢ 0 = grind (arith, nat_tests) in (w.used j named, named, refl, w.named j named)

  slot : (j : ℕ) → SlotAt (first_shared t memory) j
  slot j = slot_of j (j == 0) refl (first_present t.setting j == 0) refl
