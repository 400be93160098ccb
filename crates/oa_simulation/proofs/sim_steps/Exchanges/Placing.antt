-- What an exchange that succeeds writes, in both machines.
use Rattle.std.proofs.Common.{ℕ, zero, suc, ◌≡◌, ◌≢◌, ◌==◌, ◌<◌, ◌⊎◌, ◌∙◌, ◌&&◌, ◌||◌, not, Bool, true, false, List, [], ◌∷◌, ◌++◌, length, Option, Some, None, arith, inl, inr, sym, ap, subst, refl, if◌then◌else◌}
use Rattle.std.specs.Prelude.{option_map, unwrap_or}
use Rattle.std.proofs.lemmas.Bool.{and_parts}
use Rattle.std.proofs.lemmas.Bool.Decides.{nat_tests}
use Rattle.norm_lang.specs.declared.text.Reg.{Reg}
use Rattle.norm_lang.specs.declared.text.Place.{Place}
use Rattle.norm_lang.specs.declared.text.Place.TheVariants as places
use Rattle.norm_lang.specs.declared.text.FieldKind.{FieldKind}
use Rattle.norm_lang.specs.declared.text.FieldDecl.{FieldDecl}
use Rattle.norm_lang.specs.declared.text.CasEntry.{CasEntry}
use Rattle.norm_lang.specs.declared.registers.Registers.{Registers}
use Rattle.norm_lang.specs.InstructionRules.{place_kind}
use Rattle.norm_lang.specs.Registers.{reference_in}
use Rattle.norm_lang.specs.KindFields.{place_of}
use Rattle.oa_words.specs.Words.{Word, FieldOf, Cell}
use Rattle.oa_words.specs.Memories.{store}
use Rattle.phase_pools.specs.Accesses.{word_of}
use Rattle.source_machine.specs.declared.state.Value.{Value}
use Rattle.source_machine.specs.declared.state.Value.TheVariants.{Number, Node}
use Rattle.source_machine.specs.declared.state.Memory.{Memory}
use Rattle.source_machine.specs.Memory.{value_at, value_in, same_value, fields_named, found_at, with_place, with_name_retired, with_retired, exchange, exchange_on}
use Rattle.source_machine.specs.Proper.{has, field_of, IsOnce}
use Rattle.source_machine.proofs.Names.{has_push}
use Rattle.source_machine.specs.MethodRuns.{name_in}
use Rattle.caller_parts.specs.Operands.{word_in, slot_in, succeeds, has_object}
use Rattle.caller_steps.specs.Wants.{place_exchange, object_exchange, exchange_wanted}
use Rattle.run_ahead.specs.Typed.{IsTyped, root_kinds}
use Rattle.run_ahead.proofs.TypedMemory.{root_at, values_inside}
use Rattle.oa_simulation.specs.sim_relation.Views.{Plan, Held, Shared, word_for, Resident}
use Rattle.oa_simulation.specs.sim_relation.Shared.{SharedHolds}
use Rattle.chain_laws.specs.Memories.{after_access}
use Rattle.oa_simulation.proofs.sim_relation.Names.{own_private}
use Rattle.oa_simulation.proofs.sim_steps.Inside.{IsPlaceInside}
use Rattle.oa_simulation.proofs.sim_steps.Exchanges.Exchanging.{IsAtHand, hand_resident, PlaceOffered, Offers, word_agrees}
use Rattle.oa_simulation.proofs.sim_steps.Exchanges.Writing.{Links, fine_linked, goes_linked, fine_linked_root, goes_linked_root}
use Rattle.oa_simulation.proofs.sim_steps.Exchanges.Entering.{written, Writes}
use Rattle.norm_lang.specs.declared.text.Text.{Text}

-- ---- the place

-- the words after a place is written
abbrev pub place_memory : Plan → (Word → ℕ) → Registers → Place → Value → Word → ℕ
place_memory t memory mirror (places.Root z) v = store memory (Cell z) (word_for t.home v)
place_memory t memory mirror (places.Field a f) v = store memory (FieldOf (t.home (reference_in mirror a).node) (place_of t.text.fields f)) (word_for t.home v)

-- both machines after a place is written
abbrev pub placed : Plan → Shared → Registers → Place → Value → Shared
placed t s mirror p v = written s (place_memory t s.memory mirror p v) (with_place t.text.fields p mirror v s.source).nodes (with_place t.text.fields p mirror v s.source).roots

-- the place is there, and an object is at hand
abbrev pub PlaceThere : Plan → Shared → ℕ → Registers → Place → Type 0
PlaceThere t s c mirror (places.Root z) = z < length s.source.roots
PlaceThere t s c mirror (places.Field a f) =
    IsAtHand t s c (reference_in mirror a).node × ((reference_in mirror a).node ≢ 0) × ((values : List Value) × (fields_named (reference_in mirror a).node s.source.nodes ≡ Some values) × (place_of t.text.fields f < length values))

-- what is at hand is in no cradle of another
no_other : (t : Plan) (s : Shared) (c o : ℕ) → SharedHolds t s → IsAtHand t s c o → o ≢ 0 → (d k : ℕ) → d ≢ c → s.owner (t.home o) ≡ Held d k → ⊥
no_other t s c o f (inl z) some d k ne held = some z
no_other t s c o f (inr known) some d k ne held = of known.1 where
  of : (s.public o ≡ true) ⊎ ((i : ℕ) × (s.owner (t.home o) ≡ Held c i)) → ⊥
  of (inl public) = let private = own_private t s d k o f held known.0 in (let z : true ≡ false = sym public ∙ private in cc)
  of (inr mine) = ne (let z : Held d k ≡ Held c mine.0 = sym held ∙ mine.1 in cc)

pub place_writes : (t : Plan) (s : Shared) (c : ℕ) (mirror : Registers) (p : Place) (v : Value) → t.home 0 ≡ 0 → SharedHolds t s → PlaceThere t s c mirror p → Resident t s (name_in v)
    → (name_in v ≡ 0) ⊎ (s.public (name_in v) ≡ true) → IsTyped t.text (placed t s mirror p v).source
    → Writes t c s (place_memory t s.memory mirror p v) (with_place t.text.fields p mirror v s.source).nodes (with_place t.text.fields p mirror v s.source).roots
place_writes t s c mirror (places.Root z) v null_home f there here known typed = record {
  shared_holds = fine_linked_root t s z v f (record { within = there; known = known; typed = typed });
  goes = goes_linked_root t c s z v;
  links = λ n g. inl refl;
  hazard = λ d r. refl;
  warning = λ d. refl;
}
place_writes t s c mirror (places.Field a g) v null_home f there here known typed =
    let o : ℕ = (reference_in mirror a).node in
    let w : Links t s (reference_in mirror a).node (place_of t.text.fields g) v =
    record { here = hand_resident t s c (reference_in mirror a).node null_home f there.0; some = there.1; values = there.2.0; fields = there.2.1; within = there.2.2; known = known; typed = typed } in
    let both = goes_linked t c s (reference_in mirror a).node (place_of t.text.fields g) v w here (no_other t s c (reference_in mirror a).node f there.0 there.1) in
    record {
      shared_holds = fine_linked t s (reference_in mirror a).node (place_of t.text.fields g) v f w;
      goes = both.0;
      links = both.1;
      hazard = λ d r. refl;
      warning = λ d. refl;
    }

-- ---- the source

pub same_names : (v u : Value) → same_value v u ≡ true → name_in v ≡ name_in u
same_names (Number n) (Number m) same = refl
same_names (Node a) (Node b) same = let both = and_parts _ _ same in (let e : (a.node == b.node) ≡ true = both.0 in grind (arith, nat_tests, e))
same_names (Number n) (Node b) same = absurd (let z : false ≡ true = same in cc)
same_names (Node a) (Number m) same = absurd (let z : false ≡ true = same in cc)

-- the name that an exchange retires, 0 for none
abbrev pub to_drop : Option Reg → Registers → ℕ
to_drop None registers = 0
to_drop (Some r) registers = (reference_in registers r).node

retired_is : (retire : Option Reg) (mirror : Registers) (memory : Memory) → with_retired retire mirror memory ≡ with_name_retired (to_drop retire mirror) memory
retired_is None mirror memory = refl
retired_is (Some r) mirror memory = refl

place_source : (t : Plan) (s : Shared) (mirror : Registers) (p : Place) (v : Value) → with_place t.text.fields p mirror v s.source ≡ (placed t s mirror p v).source
place_source t s mirror (places.Root z) v = refl
place_source t s mirror (places.Field a f) v = refl

-- an exchange that succeeds: what it finds, and memory after it
pub record Makes (t : Plan) (s : Shared) (mirror : Registers) (entry : CasEntry) (after : Memory) : Type 0 where
  pub found : Value
  pub finds : found_at t.text.fields entry.place mirror s.source ≡ Some found
  pub same : name_in found ≡ name_in (value_in mirror entry.expected)
  pub after_is : after ≡ with_name_retired (to_drop entry.retire mirror) (placed t s mirror entry.place (value_in mirror entry.replacement)).source

pub makes : (t : Plan) (s : Shared) (mirror : Registers) (entry : CasEntry) (after : Memory) → exchange t.text.fields entry mirror s.source ≡ Some after → Makes t s mirror entry after
makes t s mirror entry after is = by_found (found_at t.text.fields entry.place mirror s.source) refl is where
  by_test : (found : Value) → found_at t.text.fields entry.place mirror s.source ≡ Some found → (b : Bool) → same_value found (value_in mirror entry.expected) ≡ b
      → (if b then Some (with_retired entry.retire mirror (with_place t.text.fields entry.place mirror (value_in mirror entry.replacement) s.source)) else None) ≡ Some after → Makes t s mirror entry after
  by_test found finds true same made = record {
    found = found;
    finds = finds;
    same = same_names found (value_in mirror entry.expected) same;
    after_is = (let e : after ≡ with_retired entry.retire mirror (with_place t.text.fields entry.place mirror (value_in mirror entry.replacement) s.source) = cc in e)
        ∙ (retired_is entry.retire mirror (with_place t.text.fields entry.place mirror (value_in mirror entry.replacement) s.source)
        ∙ ap (with_name_retired (to_drop entry.retire mirror)) (place_source t s mirror entry.place (value_in mirror entry.replacement)));
  }
  by_test found finds false same made = absurd (let never : None ≡ Some after = made in cc)

  by_found : (o : Option Value) → found_at t.text.fields entry.place mirror s.source ≡ o → exchange_on t.text.fields o entry mirror s.source ≡ Some after → Makes t s mirror entry after
  by_found None finds made = absurd (let never : None ≡ Some after = made in cc)
  by_found (Some found) finds made = by_test found finds (same_value found (value_in mirror entry.expected)) refl made

-- if a value is found, the place is there
pub place_there : (t : Plan) (s : Shared) (c : ℕ) (core mirror : Registers) (e : ℕ) (p : Place) (kind : FieldKind) (found : Value) → SharedHolds t s → PlaceOffered t s c core mirror e p → IsPlaceInside t.text s.source mirror p
    → place_kind t.text.fields t.text.roots p ≡ Some kind → found_at t.text.fields p mirror s.source ≡ Some found → PlaceThere t s c mirror p
place_there t s c core mirror e (places.Root z) kind found f place inside is finds = values_inside s.source.nodes (root_kinds t.text) s.source.roots z kind f.typed.roots (root_at t.text z kind is)
place_there t s c core mirror e (places.Field a g) kind found f place inside is finds = of (fields_named (reference_in mirror a).node s.source.nodes) refl finds where
  of : (o : Option (List Value)) → fields_named (reference_in mirror a).node s.source.nodes ≡ o → option_map (λ values. value_at values (place_of t.text.fields g)) o ≡ Some found → PlaceThere t s c mirror (places.Field a g)
  of None fields at = absurd (let never : None ≡ Some found = at in cc)
  of (Some values) fields at =
      let some : (reference_in mirror a).node ≢ 0 = λ z. (let e : None ≡ Some values = sym f.store.null_node ∙ (ap (λ (n : ℕ). fields_named n s.source.nodes) (sym z) ∙ fields) in cc) in
      (place.1, some, (values, fields, subst (λ (o : Option (List Value)). place_of t.text.fields g < length (unwrap_or o [])) fields (inside some)))

-- what is found is null or was published
pub found_shown : (t : Plan) (s : Shared) (mirror : Registers) (p : Place) (found : Value) → SharedHolds t s → found_at t.text.fields p mirror s.source ≡ Some found → (name_in found ≡ 0) ⊎ (s.public (name_in found) ≡ true)
found_shown t s mirror (places.Root z) found f finds =
    let same : value_at s.source.roots z ≡ found = cc in subst (λ (v : Value). (name_in v ≡ 0) ⊎ (s.public (name_in v) ≡ true)) same (f.store.top z)
found_shown t s mirror (places.Field a g) found f finds = of (fields_named (reference_in mirror a).node s.source.nodes) refl finds where
  of : (o : Option (List Value)) → fields_named (reference_in mirror a).node s.source.nodes ≡ o → option_map (λ values. value_at values (place_of t.text.fields g)) o ≡ Some found → (name_in found ≡ 0) ⊎ (s.public (name_in found) ≡ true)
  of None fields at = absurd (let never : None ≡ Some found = at in cc)
  of (Some values) fields at =
      let same : value_at values (place_of t.text.fields g) ≡ found = cc in
      let value : field_of s.source (reference_in mirror a).node (place_of t.text.fields g) ≡ value_at values (place_of t.text.fields g) = ap (λ (x : Option (List Value)). value_at (unwrap_or x []) (place_of t.text.fields g)) fields in
      subst (λ (v : Value). (name_in v ≡ 0) ⊎ (s.public (name_in v) ≡ true)) (value ∙ same) (f.store.link (reference_in mirror a).node (place_of t.text.fields g))

-- ---- the words

object_written : (m : Word → ℕ) (n f e r : ℕ) → (not (n == 0) && (m (word_of (object_exchange n f e r)) == e)) ≡ true → after_access m (object_exchange n f e r) ≡ store m (FieldOf n f) r
object_written m zero f e r made = absurd (let z : false ≡ true = made in cc)
object_written m (suc j) f e r made = let found : (m (FieldOf (suc j) f) == e) ≡ true = (and_parts (not (suc j == 0)) (m (FieldOf (suc j) f) == e) made).1 in rw found refl

-- a word that an exchange writes
pub words_written : (t : Plan) (s : Shared) (c : ℕ) (core mirror : Registers) (entry : CasEntry) → Offers t s c core mirror entry
    → succeeds entry core (s.memory (word_of (exchange_wanted t.target.fields entry core))) ≡ true
    → after_access s.memory (exchange_wanted t.target.fields entry core) ≡ place_memory t s.memory mirror entry.place (value_in mirror entry.replacement)
words_written t s c core mirror entry w made = by_place entry.place w.place made where
  new : word_in core entry.replacement ≡ word_for t.home (value_in mirror entry.replacement)
  new = word_agrees t core mirror entry.replacement w.replacement

  by_place : (p : Place) → PlaceOffered t s c core mirror (name_in (value_in mirror entry.expected)) p
      → (has_object p core && (s.memory (word_of (place_exchange t.target.fields p core (word_in core entry.expected) (word_in core entry.replacement))) == word_in core entry.expected)) ≡ true
      → after_access s.memory (place_exchange t.target.fields p core (word_in core entry.expected) (word_in core entry.replacement)) ≡ place_memory t s.memory mirror p (value_in mirror entry.replacement)
  by_place (places.Root z) place made = rw made (ap (store s.memory (Cell z)) new)
  by_place (places.Field a f) place made =
      object_written s.memory (slot_in core a) (place_of t.target.fields f) (word_in core entry.expected) (word_in core entry.replacement) made
      ∙ (ap (λ (fields : List FieldDecl). store s.memory (FieldOf (slot_in core a) (place_of fields f)) (word_in core entry.replacement)) w.fields
      ∙ (ap (λ (j : ℕ). store s.memory (FieldOf j (place_of t.text.fields f)) (word_in core entry.replacement)) place.0.0 ∙ ap (store s.memory (FieldOf (t.home (reference_in mirror a).node) (place_of t.text.fields f))) new))

-- ---- no name is retired twice

-- to retire a name leaves what memory holds
pub typed_before : (text : Text) (n : ℕ) (memory : Memory) → IsTyped text (with_name_retired n memory) → IsTyped text memory
typed_before text zero memory typed = typed
typed_before text (suc n) memory typed = record { roots = typed.roots; nodes = typed.nodes; null = typed.null }

pub once_new : (ns : List ℕ) (m : ℕ) → IsOnce (ns ++ m ∷ []) → has m ns ≡ false
once_new [] m once = refl
once_new (k ∷ ks) m once = of (k == m) refl (once_new ks m once.1) where
  of : (b : Bool) → (k == m) ≡ b → has m ks ≡ false → (b || has m ks) ≡ false
  of false is rest = rest
  of true is rest =
      let same : k ≡ m = grind (arith, nat_tests, is) in
      let twice : has k (ks ++ m ∷ []) ≡ true = has_push k ks m ∙ (let back : (m == k) ≡ true = grind (arith, nat_tests, same) in rw back (or_true (has k ks))) in
      absurd (let z : false ≡ true = sym once.0 ∙ twice in cc)
    where
      or_true : (b : Bool) → (b || true) ≡ true
      or_true true = refl
      or_true false = refl
