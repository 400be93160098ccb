-- An exchange of the text succeeds in the core exactly if it does in the source.
use Rattle.std.proofs.Common.{ℕ, zero, suc, ◌≡◌, ◌≢◌, ◌==◌, ◌+◌, ◌*◌, ◌⊎◌, ◌∙◌, ◌<◌, ◌&&◌, Bool, true, false, List, [], Option, Some, None, arith, inl, inr, ⊎_elim, sym, ap, subst, refl, if◌then◌else◌}
use Rattle.std.specs.Prelude.{is_some, option_map, unwrap_or}
use Rattle.std.proofs.lemmas.Bool.{cases_eq}
use Rattle.std.proofs.lemmas.Bool.Decides.{nat_tests, eqb_tells}
use Rattle.norm_lang.specs.declared.text.Reg.{Reg}
use Rattle.norm_lang.specs.declared.text.Reg.TheVariants.{Num, Ref}
use Rattle.norm_lang.specs.declared.text.Place.{Place}
use Rattle.norm_lang.specs.declared.text.Place.TheVariants as places
use Rattle.norm_lang.specs.declared.text.CasEntry.{CasEntry}
use Rattle.norm_lang.specs.declared.text.FieldDecl.{FieldDecl}
use Rattle.norm_lang.specs.declared.registers.Registers.{Registers}
use Rattle.norm_lang.specs.Registers.{reference_in, same_bool}
use Rattle.norm_lang.specs.KindFields.{place_of}
use Rattle.oa_words.specs.Words.{FieldOf, Cell}
use Rattle.oa_words.specs.Packed.{ref_word}
use Rattle.phase_pools.specs.Accesses.{word_of}
use Rattle.source_machine.specs.declared.state.Value.{Value}
use Rattle.source_machine.specs.declared.state.Value.TheVariants.{Number, Node}
use Rattle.source_machine.specs.declared.state.Memory.{Memory}
use Rattle.source_machine.specs.Memory.{value_at, value_in, same_value, fields_named, found_at, exchange, exchange_on}
use Rattle.source_machine.specs.Proper.{has, field_of}
use Rattle.source_machine.specs.MethodRuns.{name_in}
use Rattle.caller_parts.specs.Operands.{word_in, slot_in, succeeds, has_object}
use Rattle.caller_steps.specs.Wants.{place_exchange, object_exchange, exchange_wanted}
use Rattle.run_ahead.specs.Agreeing.{Agree, StandsFor}
use Rattle.run_ahead.specs.Typed.{AreAskedBy}
use Rattle.oa_simulation.specs.sim_relation.Views.{Plan, Held, Shared, word_for, value_count, link, top, Resident, Apart}
use Rattle.oa_simulation.specs.sim_relation.Shared.{SharedHolds}
use Rattle.oa_simulation.proofs.sim_relation.Names.{null_resident, has_slot_of}
use Rattle.oa_simulation.proofs.sim_steps.Inside.{IsPlaceInside}

-- both are numbers, or both are nodes
abbrev pub AreAlike : Value → Value → Type 0
AreAlike (Number n) (Number m) = Unit {0}
AreAlike (Node a) (Node b) = Unit {0}
AreAlike (Number n) (Node b) = ⊥
AreAlike (Node a) (Number m) = ⊥

and_false : (b : Bool) → (b && false) ≡ false
and_false true = refl
and_false false = refl

and_true : (b : Bool) → (b && true) ≡ b
and_true true = refl
and_true false = refl

tests_same : (x y a b : ℕ) → (x ≡ y → a ≡ b) → (a ≡ b → x ≡ y) → (x == y) ≡ (a == b)
tests_same x y a b to from = ⊎_elim
    (λ (e : ((x == y) ≡ true) × (x ≡ y)). let k = to e.1 in grind (arith, nat_tests, k))
    (λ (e : ((x == y) ≡ false) × (x ≢ y)). let k : a ≢ b = λ z. e.1 (from z) in grind (arith, nat_tests, k))
    (eqb_tells x y)

-- words of references are the same if slot and mark are
refs_tell : (x y a b : ℕ) (k l : Bool) → (x ≡ y → a ≡ b) → (a ≡ b → x ≡ y) → (ref_word x k == ref_word y l) ≡ ((a == b) && same_bool k l)
refs_tell x y a b true true to from = tests_same (2 * x + 1) (2 * y + 1) a b (λ e. to (omega (arith, e))) (λ e. let z : x ≡ y = from e in omega (arith, z)) ∙ sym (and_true (a == b))
refs_tell x y a b false false to from = tests_same (2 * x + 0) (2 * y + 0) a b (λ e. to (omega (arith, e))) (λ e. let z : x ≡ y = from e in omega (arith, z)) ∙ sym (and_true (a == b))
refs_tell x y a b true false to from = (let ne : 2 * x + 1 ≢ 2 * y + 0 = λ e. omega (arith, e) in let away : (2 * x + 1 == 2 * y + 0) ≡ false = grind (arith, nat_tests) in away) ∙ sym (and_false (a == b))
refs_tell x y a b false true to from = (let ne : 2 * x + 0 ≢ 2 * y + 1 = λ e. omega (arith, e) in let away : (2 * x + 0 == 2 * y + 1) ≡ false = grind (arith, nat_tests) in away) ∙ sym (and_false (a == b))

-- words tell values of one kind whose names are apart
pub words_tell : (t : Plan) (v u : Value) → AreAlike v u → Apart t (name_in v) (name_in u) → (word_for t.home v == word_for t.home u) ≡ same_value v u
words_tell t (Number n) (Number m) alike apart = refl
words_tell t (Node a) (Node b) alike apart = refs_tell (t.home a.node) (t.home b.node) a.node b.node a.marked b.marked apart (λ e. ap t.home e)
words_tell t (Number n) (Node b) alike apart = absurd alike
words_tell t (Node a) (Number m) alike apart = absurd alike

-- a register that agrees has the word of the source's value
pub word_agrees : (t : Plan) (core mirror : Registers) (r : Reg) → Agree t.home core mirror r → word_in core r ≡ word_for t.home (value_in mirror r)
word_agrees t core mirror (Num r) agree = agree
word_agrees t core mirror (Ref r) agree = ap (λ (n : ℕ). ref_word n (reference_in core (Ref r)).marked) agree.0 ∙ ap (λ (b : Bool). ref_word (t.home (reference_in mirror (Ref r)).node) b) agree.1

-- null, or resident, and published or in a cradle of the caller
abbrev pub IsAtHand : Plan → Shared → ℕ → ℕ → Type 0
IsAtHand t s c n = (n ≡ 0) ⊎ (Resident t s n × ((s.public n ≡ true) ⊎ ((k : ℕ) × (s.owner (t.home n) ≡ Held c k))))

pub hand_resident : (t : Plan) (s : Shared) (c n : ℕ) → t.home 0 ≡ 0 → SharedHolds t s → IsAtHand t s c n → Resident t s n
hand_resident t s c n null_home f (inl z) = null_resident t s n null_home f z
hand_resident t s c n null_home f (inr known) = known.0

-- what is in a root is resident, since no name that a root reaches is retired
pub root_resident : (t : Plan) (s : Shared) (z : ℕ) → t.home 0 ≡ 0 → SharedHolds t s → has (top s z) s.source.retired ≡ false → Resident t s (top s z)
root_resident t s z null_home f live = of (cases_eq (s.present (t.home (top s z))) (top s z)) (f.store.top z) where
  of : (s.present (t.home (top s z)) ≡ top s z) ⊎ (s.present (t.home (top s z)) ≢ top s z) → (top s z ≡ 0) ⊎ (s.public (top s z) ≡ true) → Resident t s (top s z)
  of (inl here) known = here
  of (inr away) (inl zero_is) = null_resident t s (top s z) null_home f zero_is
  of (inr away) (inr public) = let tag = f.public (top s z) public away in absurd (let clash : true ≡ false = sym (f.tagged (top s z) tag.0 tag.1) ∙ live in cc)

-- the place's object, if it has one, is at hand, and what the place holds is told by its word from the name that is expected
abbrev pub PlaceOffered : Plan → Shared → ℕ → Registers → Registers → ℕ → Place → Type 0
PlaceOffered t s c core mirror e (places.Root z) = Apart t (top s z) e
PlaceOffered t s c core mirror e (places.Field a f) =
    StandsFor t.home (reference_in core a) (reference_in mirror a) × IsAtHand t s c (reference_in mirror a).node
    × ((reference_in mirror a).node ≢ 0 → Apart t (link s (reference_in mirror a).node (place_of t.text.fields f)) e)

-- an exchange whose operands agree, and are resident. Nothing is said of what keeps them so
pub record Offers (t : Plan) (s : Shared) (c : ℕ) (core mirror : Registers) (entry : CasEntry) : Type 0 where
  pub place : PlaceOffered t s c core mirror (name_in (value_in mirror entry.expected)) entry.place
  pub expected : Agree t.home core mirror entry.expected
  pub replacement : Agree t.home core mirror entry.replacement
  pub resident : Resident t s (name_in (value_in mirror entry.expected))
  pub new : IsAtHand t s c (name_in (value_in mirror entry.replacement))
  -- its operands are of the kinds that its place asks for, and its object, unless it is null, has the field
  pub asked : AreAskedBy t.text entry s.source.nodes mirror
  pub inside : IsPlaceInside t.text s.source mirror entry.place
  -- the target has the text's fields
  pub fields : t.target.fields ≡ t.text.fields
  -- if a value is found, it is of the kind that is expected
  pub alike : (v : Value) → found_at t.text.fields entry.place mirror s.source ≡ Some v → AreAlike v (value_in mirror entry.expected)

some_if : (b : Bool) (A : Type 0) (x : A) → is_some (if b then Some x else None) ≡ b
some_if true A x = refl
some_if false A x = refl

word_there : (j f e r : ℕ) → word_of (object_exchange j f e r) ≡ FieldOf j f
word_there zero f e r = refl
word_there (suc j) f e r = refl

-- so the test of an exchange agrees with the source's
pub tests_agree : (t : Plan) (s : Shared) (c : ℕ) (core mirror : Registers) (entry : CasEntry) → t.home 0 ≡ 0 → SharedHolds t s → Offers t s c core mirror entry
    → succeeds entry core (s.memory (word_of (exchange_wanted t.target.fields entry core))) ≡ is_some (exchange t.text.fields entry mirror s.source)
tests_agree t s c core mirror entry null_home f w = by_place entry.place refl where
  expected_word : word_in core entry.expected ≡ word_for t.home (value_in mirror entry.expected)
  expected_word = word_agrees t core mirror entry.expected w.expected

  test : (v : Value) (word : ℕ) → word ≡ word_for t.home v → AreAlike v (value_in mirror entry.expected) → Apart t (name_in v) (name_in (value_in mirror entry.expected))
      → (word == word_in core entry.expected) ≡ is_some (exchange_on t.text.fields (Some v) entry mirror s.source)
  test v word is alike apart = rw (is, expected_word) (words_tell t v (value_in mirror entry.expected) alike apart) ∙ sym (some_if (same_value v (value_in mirror entry.expected)) Memory _)

  by_place : (p : Place) → entry.place ≡ p
      → (has_object p core && (s.memory (word_of (place_exchange t.target.fields p core (word_in core entry.expected) (word_in core entry.replacement))) == word_in core entry.expected)) ≡ is_some (exchange_on t.text.fields (found_at t.text.fields p mirror s.source) entry mirror s.source)
  by_place (places.Root z) is =
      let apart = subst (λ (p : Place). PlaceOffered t s c core mirror (name_in (value_in mirror entry.expected)) p) is w.place in
      let alike = subst (λ (p : Place). (v : Value) → found_at t.text.fields p mirror s.source ≡ Some v → AreAlike v (value_in mirror entry.expected)) is w.alike in
      test (value_at s.source.roots z) (s.memory (Cell z)) (f.store.root z) (alike (value_at s.source.roots z) refl) apart
  by_place (places.Field a g) is =
      let object = subst (λ (p : Place). PlaceOffered t s c core mirror (name_in (value_in mirror entry.expected)) p) is w.place in
      let alike = subst (λ (p : Place). (v : Value) → found_at t.text.fields p mirror s.source ≡ Some v → AreAlike v (value_in mirror entry.expected)) is w.alike in
      let inside = subst (λ (p : Place). IsPlaceInside t.text s.source mirror p) is w.inside in
      let o : ℕ = (reference_in mirror a).node in
      let slot : (reference_in core a).node ≡ t.home o = object.0.0 in
      ⊎_elim
      (λ (z : o ≡ 0).
      let none : (slot_in core a == 0) ≡ true = (let e : (reference_in core a).node ≡ 0 = slot ∙ (ap t.home z ∙ null_home) in grind (arith, nat_tests)) in
      let nothing : found_at t.text.fields (places.Field a g) mirror s.source ≡ None = ap (λ (n : ℕ). option_map (λ values. value_at values (place_of t.text.fields g)) (fields_named n s.source.nodes)) z ∙ ap (option_map (λ values. value_at values (place_of t.text.fields g))) f.store.null_node in
      rw (none, nothing) refl)
      (λ (some : o ≢ 0).
      let here : Resident t s o = hand_resident t s c o null_home f object.1 in
      let there : (slot_in core a == 0) ≡ false = (let e : t.home o ≢ 0 = has_slot_of t s o f here some in let d : (reference_in core a).node ≢ 0 = (λ z. e (sym slot ∙ z)) in grind (arith, nat_tests)) in
      let node = f.store.node (t.home o) (λ z. some (sym here ∙ z)) in
      let fields : fields_named o s.source.nodes ≡ Some node.0 = ap (λ (n : ℕ). fields_named n s.source.nodes) (sym here) ∙ node.1 in
      let found : found_at t.text.fields (places.Field a g) mirror s.source ≡ Some (value_at node.0 (place_of t.text.fields g)) = ap (option_map (λ values. value_at values (place_of t.text.fields g))) fields in
      let value : field_of s.source o (place_of t.text.fields g) ≡ value_at node.0 (place_of t.text.fields g) = ap (λ (x : Option (List Value)). value_at (unwrap_or x []) (place_of t.text.fields g)) fields in
      let word : s.memory (word_of (object_exchange (slot_in core a) (place_of t.target.fields g) (word_in core entry.expected) (word_in core entry.replacement))) ≡ word_for t.home (value_at node.0 (place_of t.text.fields g)) =
      ap s.memory (word_there (slot_in core a) (place_of t.target.fields g) _ _) ∙ (ap (λ (fields : List FieldDecl). s.memory (FieldOf (slot_in core a) (place_of fields g))) w.fields
      ∙ (ap (λ (j : ℕ). s.memory (FieldOf j (place_of t.text.fields g))) slot
      ∙ (f.store.field (t.home o) (place_of t.text.fields g) (λ z. some (sym here ∙ z)) (subst (λ (n : ℕ). place_of t.text.fields g < value_count s.source n) (sym here) (inside some))
      ∙ (ap (λ (n : ℕ). word_for t.home (field_of s.source n (place_of t.text.fields g))) here ∙ ap (word_for t.home) value)))) in
      rw (there, found) (test (value_at node.0 (place_of t.text.fields g)) _ word (alike (value_at node.0 (place_of t.text.fields g)) found)
      (subst (λ (v : Value). Apart t (name_in v) (name_in (value_in mirror entry.expected))) value (object.2 some))))
      (cases_eq o 0)
