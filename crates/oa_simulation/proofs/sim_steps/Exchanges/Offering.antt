-- What an exchange of a method is given: its operands are trusted, each reference among them is under a validated guard of the
-- run's own, and what it finds is of the kind that it expects.
use Rattle.std.proofs.Common.{ℕ, zero, suc, ◌≡◌, ◌≢◌, ◌⊎◌, ◌∙◌, ◌&&◌, ◌||◌, not, Bool, true, false, List, [], ◌∷◌, ◌++◌, Option, Some, None, inl, inr, sym, ap, subst, refl, if◌then◌else◌}
use Rattle.std.specs.Prelude.{slice_get, IsTrue, option_map, unwrap_or}
use Rattle.std.specs.List.{list_any}
use Rattle.std.proofs.lemmas.Bool.{or_left, or_right, or_cases, or_parts, cases_eq}
use Rattle.norm_lang.specs.declared.text.Reg.{Reg}
use Rattle.norm_lang.specs.declared.text.Reg.TheVariants.{Num, Ref}
use Rattle.norm_lang.specs.declared.text.Place.{Place}
use Rattle.norm_lang.specs.declared.text.Place.TheVariants as places
use Rattle.norm_lang.specs.declared.text.FieldKind.{FieldKind}
use Rattle.norm_lang.specs.declared.text.FieldKind.TheVariants as field_kinds
use Rattle.norm_lang.specs.declared.text.CasEntry.{CasEntry}
use Rattle.norm_lang.specs.declared.text.Instr.{Instr}
use Rattle.norm_lang.specs.declared.text.Instr.TheVariants as instr
use Rattle.norm_lang.specs.declared.text.Text.{Text}
use Rattle.norm_lang.specs.declared.registers.Registers.{Registers}
use Rattle.norm_lang.specs.Registers.{reference_in, node_in}
use Rattle.norm_lang.specs.InstructionRules.{place_kind, is_unlike, has_wrong_object, has_wrong_operand}
use Rattle.norm_lang.specs.KindFields.{owner_of, place_of}
use Rattle.norm_lang.specs.Kinds.{asks_object}
use Rattle.norm_lang.specs.RegisterUse.{same_register, operands_of, registers_named}
use Rattle.target_code.specs.declared.target.TargetInstr.TheVariants.{Plain}
use Rattle.target_code.specs.Keeping.{keeps}
use Rattle.target_code.specs.Paths.{TargetPath}
use Rattle.target_code.proofs.Keeping.{keeps_is_kept}
use Rattle.source_machine.specs.declared.state.Value.{Value}
use Rattle.source_machine.specs.declared.state.Value.TheVariants.{Number, Node}
use Rattle.source_machine.specs.declared.state.NamedNode.{NamedNode}
use Rattle.source_machine.specs.declared.state.Memory.{Memory}
use Rattle.source_machine.specs.Memory.{value_at, value_in, found_at, fields_named, blank_fields}
use Rattle.source_machine.specs.Proper.{has, itself}
use Rattle.source_machine.specs.MethodRuns.{name_in}
use Rattle.target_laws.specs.Methods.{code_in}
use Rattle.target_laws.specs.Uses.{entries_of}
use Rattle.target_laws.proofs.Entries.{reads_entry, entries_are_validated}
use Rattle.target_laws.proofs.KeptRules.{kept_are_left}
use Rattle.run_ahead.specs.Agreeing.{Agree}
use Rattle.run_ahead.specs.Ahead.{IsErased}
use Rattle.run_ahead.specs.Guards.{GuardStands, IsUnderGuard}
use Rattle.run_ahead.specs.Known.{is_set_in}
use Rattle.run_ahead.specs.Typed.{IsOfKind, AreOfKinds, IsRegisterFor, IsTyped, AreAskedBy, field_kinds as text_field_kinds, root_kinds}
use Rattle.run_ahead.proofs.Mirroring.{same_itself}
use Rattle.run_ahead.proofs.Getting.{carried_where_read}
use Rattle.run_ahead.proofs.Plain.{agrees_at}
use Rattle.run_ahead.proofs.TypedMemory.{behind_typed, register_for, field_at, root_at, value_of_kind}
use Rattle.oa_simulation.specs.sim_relation.Views.{Plan, IsPlan, Shared, Caller, top}
use Rattle.oa_simulation.specs.sim_relation.Shared.{SharedHolds}
use Rattle.oa_simulation.specs.sim_relation.Callers.{Calm, Base, Trail, Walks, Guards, spared, counts, spot_of}
use Rattle.oa_simulation.specs.sim_relation.Points.{IsProperPoint, point}
use Rattle.oa_simulation.proofs.sim_relation.Names.{residents_apart}
use Rattle.oa_simulation.proofs.sim_steps.Inside.{IsObjectAsked, object_of_kind, place_inside}
use Rattle.oa_simulation.proofs.sim_steps.Exchanges.Exchanging.{AreAlike, root_resident, PlaceOffered, Offers}
use Rattle.oa_simulation.proofs.sim_steps.Exchanges.Guarded.{IsUnder, null, under, under_at_hand, under_resident, content_apart}

-- ---- operands

pub any_before : {X : Type 0} (test : X → Bool) (xs ys : List X) → IsTrue (list_any test xs) → IsTrue (list_any test (xs ++ ys))
any_before test [] ys is = absurd (let no : false ≡ true = is in cc)
any_before test (x ∷ xs) ys is = elim (or_cases (test x) (list_any test xs) is) [ inl here ↦ or_left (test x) _ here | inr more ↦ or_right (test x) _ (any_before test xs ys more) ]

pub none_passes : {X : Type 0} (test : X → Bool) (xs : List X) (k : ℕ) (x : X) → list_any test xs ≡ false → slice_get xs k ≡ Some x → test x ≡ false
none_passes test [] k x none is = absurd (let never : None ≡ Some x = is in cc)
none_passes test (y ∷ xs) zero x none is = let same : y ≡ x = cc in ap test (sym same) ∙ (or_parts (test y) (list_any test xs) none).0
none_passes test (y ∷ xs) (suc k) x none is = none_passes test xs k x (or_parts (test y) (list_any test xs) none).1 is

pub object_is : (a : Reg) (f : ℕ) (entry : CasEntry) → entry.place ≡ places.Field a f → IsTrue (list_any (same_register a) (operands_of entry))
object_is a f entry is = subst (λ (place : Place). IsTrue (list_any (same_register a) (operands_of (record entry { place = place })))) (sym is) (or_left (same_register a a) _ (same_itself a))

pub expected_at : (place : Place) (entry : CasEntry) → IsTrue (list_any (same_register entry.expected) (operands_of (record entry { place = place })))
expected_at (places.Root x) entry = or_left (same_register entry.expected entry.expected) _ (same_itself entry.expected)
expected_at (places.Field a f) entry = or_right (same_register entry.expected a) _ (or_left (same_register entry.expected entry.expected) _ (same_itself entry.expected))

pub replacement_at : (place : Place) (entry : CasEntry) → IsTrue (list_any (same_register entry.replacement) (operands_of (record entry { place = place })))
replacement_at (places.Root x) entry = or_right (same_register entry.replacement entry.expected) _ (or_left (same_register entry.replacement entry.replacement) _ (same_itself entry.replacement))
replacement_at (places.Field a f) entry =
    or_right (same_register entry.replacement a) _ (or_right (same_register entry.replacement entry.expected) _ (or_left (same_register entry.replacement entry.replacement) _ (same_itself entry.replacement)))

-- ---- a wrap-up exchanges only what its run has set

-- an operand whose guard counts, and isn't one that was kept
abbrev pub IsOwn : (t : Plan) → Trail t → ℕ → Type 0
IsOwn t m r = (spared t m.walk r ≡ false) × (counts t m.walk m.path r ≡ true)

pub own_in_generator : (t : Plan) (m : Trail t) (r : ℕ) → m.walk.method.wrapup ≡ false → IsOwn t m r
own_in_generator t m r gen = (ap (λ (b : Bool). b && keeps m.walk.method.op (Ref r)) gen, ap (λ (b : Bool). not b || is_set_in m.walk.method m.path r) gen)

pub operand_is_own : (t : Plan) (m : Trail t) (at : ℕ) (entry : CasEntry) (l r : ℕ) → IsErased t.target t.text → TargetPath (code_in m.walk.method) m.path at → slice_get (code_in m.walk.method) at ≡ Some (Plain (instr.Cas entry l))
    → IsTrue (list_any (same_register (Ref r)) (operands_of entry)) → IsOwn t m r
operand_is_own t m at entry l r erased leads is operand = by_method m.walk.method.wrapup refl where
  by_method : (b : Bool) → m.walk.method.wrapup ≡ b → IsOwn t m r
  by_method false gen = own_in_generator t m r gen
  by_method true wrap = (ap (λ (b : Bool). b && keeps m.walk.method.op (Ref r)) wrap ∙ not_kept (keeps m.walk.method.op (Ref r)) refl, ap (λ (b : Bool). not b || is_set_in m.walk.method m.path r) wrap ∙ is_set (is_set_in m.walk.method m.path r) refl) where
    never : IsTrue (keeps m.walk.method.op (Ref r)) → ⊥
    never kept =
        let left = kept_are_left t.target t.text erased.normal erased.erases m.walk.method at (instr.Cas entry l) (Ref r) wrap is ((keeps_is_kept m.walk.method.op (Ref r)).0 kept) in
        (let z : true ≡ false = sym operand ∙ left.2 in cc)

    not_kept : (b : Bool) → keeps m.walk.method.op (Ref r) ≡ b → keeps m.walk.method.op (Ref r) ≡ false
    not_kept false kept = kept
    not_kept true kept = absurd (never kept)

    is_set : (b : Bool) → is_set_in m.walk.method m.path r ≡ b → is_set_in m.walk.method m.path r ≡ true
    is_set true set = set
    is_set false unset = absurd (never ((keeps_is_kept m.walk.method.op (Ref r)).1
        (refl, carried_where_read m.walk.method erased m.path at (instr.Cas entry l) (Ref r) wrap leads is (any_before (same_register (Ref r)) (operands_of entry) (registers_named entry.retire) operand) unset)))

-- ---- what roots hold isn't retired

pub roots_live : (t : Plan) (s : Shared) (x : Caller) (z : ℕ) → SharedHolds t s → IsProperPoint t.text (point s x) → has (top s z) s.source.retired ≡ false
roots_live t s x z f proper = of (value_at s.source.roots z) refl where
  of : (v : Value) → value_at s.source.roots z ≡ v → has (name_in (value_at s.source.roots z)) s.source.retired ≡ false
  of (Number n) is = ap (λ (v : Value). has (name_in v) s.source.retired) is ∙ f.null_stays
  of (Node y) is = ap (λ (v : Value). has (name_in v) s.source.retired) is ∙ proper.roots z y.node y is (itself y.node)

-- ---- kinds

-- what is found is of the register's kind
pub same_kind : (nodes : List NamedNode) (kind : FieldKind) (v : Value) (registers : Registers) (r : Reg) → IsOfKind nodes kind v → IsRegisterFor kind r → AreAlike v (value_in registers r)
same_kind nodes field_kinds.Number (Number n) registers (Num r) a b = tt
same_kind nodes field_kinds.Number (Number n) registers (Ref r) a b = absurd b
same_kind nodes field_kinds.Number (Node y) registers r a b = absurd a
same_kind nodes (field_kinds.Reference k) (Number n) registers r a b = absurd a
same_kind nodes (field_kinds.Reference k) (Node y) registers (Num r) a b = absurd b
same_kind nodes (field_kinds.Reference k) (Node y) registers (Ref r) a b = tt

pub found_right : (text : Text) (memory : Memory) (mirror : Registers) (p : Place) (kind : FieldKind) (v : Value) → IsTyped text memory → IsObjectAsked text memory.nodes mirror p → place_kind text.fields text.roots p ≡ Some kind
    → found_at text.fields p mirror memory ≡ Some v → IsOfKind memory.nodes kind v
found_right text memory mirror (places.Root z) kind v typed asked is found =
    let same : value_at memory.roots z ≡ v = cc in subst (IsOfKind memory.nodes kind) same (value_of_kind memory.nodes (root_kinds text) memory.roots z kind typed.roots (root_at text z kind is))
found_right text memory mirror (places.Field a f) kind v typed asked is found =
    of (fields_named (reference_in mirror a).node memory.nodes) (behind_typed text at.0 (reference_in mirror a).node memory typed (object_of_kind text memory.nodes mirror a f at.0 asked at.1)) found
  where
    at : (owner : ℕ) × (owner_of text.fields f ≡ Some owner) × (slice_get (text_field_kinds text owner) (place_of text.fields f) ≡ Some kind)
    at = field_at text f kind is

    of : (o : Option (List Value)) → AreOfKinds memory.nodes (text_field_kinds text at.0) (unwrap_or o (blank_fields text at.0)) → option_map (λ values. value_at values (place_of text.fields f)) o ≡ Some v → IsOfKind memory.nodes kind v
    of None right none = absurd (let never : None ≡ Some v = none in cc)
    of (Some values) right there =
        let same : value_at values (place_of text.fields f) ≡ v = cc in
        subst (IsOfKind memory.nodes kind) same (value_of_kind memory.nodes (text_field_kinds text at.0) values (place_of text.fields f) kind right at.2)

-- an exchange asks of its object what its place does
pub entry_object : (text : Text) (entry : CasEntry) (nodes : List NamedNode) (registers : Registers) → AreAskedBy text entry nodes registers → IsObjectAsked text nodes registers entry.place
entry_object text entry nodes registers asked r k is = asked r k (or_left (asks_object text.fields entry.place r k) _ is)

-- ---- all that an exchange is given

-- a caller stands before one of an instruction's exchanges
pub record Before (t : Plan) (s : Shared) (c : ℕ) (x : Caller) (m : Trail t) (i : Instr) (k : ℕ) (entry : CasEntry) : Type 0 where
  pub plan : IsPlan t
  pub shared_holds : SharedHolds t s
  pub base : Base t s c x
  pub walks : Walks t s c x (spot_of x.entry.hand) m
  pub guards : Guards t x m
  pub here : slice_get (code_in m.walk.method) x.entry.hand.at ≡ Some (Plain i)
  pub one : slice_get (entries_of i) k ≡ Some entry
  pub right : has_wrong_operand t.text.fields t.text.roots entry ≡ false
  pub own : (r : ℕ) → IsTrue (list_any (same_register (Ref r)) (operands_of entry)) → IsOwn t m r
  pub proper : IsProperPoint t.text (point s x)
  pub asked : AreAskedBy t.text entry s.source.nodes m.mirror

agrees : (t : Plan) (s : Shared) (c : ℕ) (x : Caller) (m : Trail t) (i : Instr) (k : ℕ) (entry : CasEntry) (r : Reg) → Before t s c x m i k entry → IsTrue (list_any (same_register r) (operands_of entry))
    → Agree t.home x.entry.hand.registers m.mirror r
agrees t s c x m i k entry r w operand =
    agrees_at m.walk.method t.home (Calm s c x) m.path (spot_of x.entry.hand) m.mirror m.there i r w.plan.compiled w.here
    (reads_entry i k entry r w.one (any_before (same_register r) (operands_of entry) (registers_named entry.retire) operand)) w.walks.ahead

under_guard : (t : Plan) (s : Shared) (c : ℕ) (x : Caller) (m : Trail t) (i : Instr) (k : ℕ) (entry : CasEntry) (r : Reg) → Before t s c x m i k entry → IsTrue (list_any (same_register r) (operands_of entry))
    → IsUnder s c (spared t m.walk) (name_in (value_in m.mirror r))
under_guard t s c x m i k entry (Num r) w operand = null refl
under_guard t s c x m i k entry (Ref r) w operand = of (cases_eq (node_in m.mirror r) 0) stands.1 where
  own : IsOwn t m r
  own = w.own r operand

  stands : IsUnderGuard m.mirror x.names r
  stands = subst (λ state. GuardStands state m.mirror x.names r)
      (entries_are_validated t.target t.text w.plan.compiled.barred m.walk.method m.path x.entry.hand.at i k entry (Ref r) (record { leads = w.walks.ahead.path_is; stands = w.here }) w.one refl operand) (w.guards r own.1)

  of : (node_in m.mirror r ≡ 0) ⊎ (node_in m.mirror r ≢ 0) → (x.names.valid r ≡ true) ⊎ (x.names.name r ≡ 0) → IsUnder s c (spared t m.walk) (node_in m.mirror r)
  of (inl z) valid = null z
  of (inr some) (inl valid) = under r own.0 (w.base.protects r ∙ (ap (λ (b : Bool). if b then x.names.name r else 0) valid ∙ stands.0)) some
  of (inr some) (inr none) = absurd (some (sym stands.0 ∙ none))

place_offered : (t : Plan) (s : Shared) (c : ℕ) (x : Caller) (m : Trail t) (i : Instr) (k : ℕ) (entry : CasEntry) (p : Place) → Before t s c x m i k entry → entry.place ≡ p
    → PlaceOffered t s c x.entry.hand.registers m.mirror (name_in (value_in m.mirror entry.expected)) p
place_offered t s c x m i k entry (places.Root z) w is =
    let live = roots_live t s x z w.shared_holds w.proper in
    let expected = under_guard t s c x m i k entry entry.expected w (expected_at entry.place entry) in
    residents_apart t s (top s z) (name_in (value_in m.mirror entry.expected)) (root_resident t s z w.plan.null w.shared_holds live)
    (under_resident t s c (spared t m.walk) (name_in (value_in m.mirror entry.expected)) w.plan.null w.shared_holds expected)
place_offered t s c x m i k entry (places.Field (Num a) f) w is = ((sym w.plan.null, refl), inl refl, (λ some. absurd (some refl)))
place_offered t s c x m i k entry (places.Field (Ref a) f) w is =
    let object = under_guard t s c x m i k entry (Ref a) w (object_is (Ref a) f entry is) in
    let expected = under_guard t s c x m i k entry entry.expected w (expected_at entry.place entry) in (
      agrees t s c x m i k entry (Ref a) w (object_is (Ref a) f entry is),
      under_at_hand t s c (spared t m.walk) (node_in m.mirror a) w.shared_holds object,
      (λ some. content_apart t s c (spared t m.walk) (node_in m.mirror a) (name_in (value_in m.mirror entry.expected)) (place_of t.text.fields f) w.plan.null w.shared_holds w.walks.sound.pairs object some expected),
    )

pub offers : (t : Plan) (s : Shared) (c : ℕ) (x : Caller) (m : Trail t) (i : Instr) (k : ℕ) (entry : CasEntry) → Before t s c x m i k entry → Offers t s c x.entry.hand.registers m.mirror entry
offers t s c x m i k entry w = record {
  place = place_offered t s c x m i k entry entry.place w refl;
  expected = agrees t s c x m i k entry entry.expected w (expected_at entry.place entry);
  replacement = agrees t s c x m i k entry entry.replacement w (replacement_at entry.place entry);
  resident = under_resident t s c (spared t m.walk) (name_in (value_in m.mirror entry.expected)) w.plan.null w.shared_holds (under_guard t s c x m i k entry entry.expected w (expected_at entry.place entry));
  new = under_at_hand t s c (spared t m.walk) (name_in (value_in m.mirror entry.replacement)) w.shared_holds (under_guard t s c x m i k entry entry.replacement w (replacement_at entry.place entry));
  asked = w.asked;
  fields = ap (λ (text : Text). text.fields) w.plan.compiled.barred.erases;
  inside = place_inside t.text s.source m.mirror entry.place kind.0 w.shared_holds.typed (entry_object t.text entry s.source.nodes m.mirror w.asked) kind.1;
  alike = λ v found. same_kind s.source.nodes kind.0 v m.mirror entry.expected (found_right t.text s.source m.mirror entry.place kind.0 v w.shared_holds.typed (entry_object t.text entry s.source.nodes m.mirror w.asked) kind.1 found) kind.2;
} where
  kind : (kind : FieldKind) × (place_kind t.text.fields t.text.roots entry.place ≡ Some kind) × IsRegisterFor kind entry.expected
  kind = register_for (place_kind t.text.fields t.text.roots entry.place) entry.expected (or_parts (is_unlike (place_kind t.text.fields t.text.roots entry.place) entry.expected) _ (or_parts (has_wrong_object entry.place) _ w.right).1).0
