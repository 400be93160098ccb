-- A load of the text: what the core finds is what the source finds, unless the caller was warned.
use Rattle.std.proofs.Common.{ℕ, zero, suc, ◌≡◌, ◌≢◌, ◌==◌, ◌+◌, ◌*◌, ◌/◌, ◌%◌, ◌<◌, ◌⊎◌, ◌∙◌, ◌||◌, not, Bool, true, false, List, [], ◌∷◌, Option, Some, None, arith, inl, inr, ⊎_elim, sym, ap, subst, refl}
use Rattle.std.specs.Prelude.{slice_get, IsTrue, unwrap_or}
use Rattle.std.proofs.lemmas.Bool.{cases_eq, false_from_ne_true}
use Rattle.std.proofs.lemmas.Bool.Decides.{nat_tests, eqb_tells}
use Rattle.norm_lang.specs.declared.text.Reg.{Reg}
use Rattle.norm_lang.specs.declared.text.Reg.TheVariants.{Num, Ref}
use Rattle.norm_lang.specs.declared.text.FieldKind.{FieldKind}
use Rattle.norm_lang.specs.declared.text.FieldKind.TheVariants as field_kinds
use Rattle.norm_lang.specs.declared.text.Instr.{Instr}
use Rattle.norm_lang.specs.declared.text.Instr.TheVariants as instr
use Rattle.norm_lang.specs.declared.text.Text.{Text}
use Rattle.norm_lang.specs.declared.text.FieldDecl.{FieldDecl}
use Rattle.norm_lang.specs.declared.registers.Reference.{Reference}
use Rattle.norm_lang.specs.declared.registers.Registers.{Registers}
use Rattle.norm_lang.specs.Grammar.{is_new}
use Rattle.norm_lang.specs.InstructionRules.{are_roots_of_one_kind}
use Rattle.norm_lang.specs.Local.{Spot, remainder}
use Rattle.norm_lang.specs.NormalForm.{N13}
use Rattle.norm_lang.specs.Registers.{number_in, reference_in, node_in}
use Rattle.norm_lang.specs.RegisterUse.{reads, destination}
use Rattle.norm_lang.specs.KindFields.{owner_of, place_of}
use Rattle.target_code.specs.declared.target.TargetInstr.TheVariants.{Plain}
use Rattle.target_code.specs.Erasing.{source_place, redirected}
use Rattle.oa_words.specs.Words.{Word, FieldOf, Cell}
use Rattle.oa_words.specs.Memories.{store}
use Rattle.oa_words.specs.Packed.{ref_word, slot_part, is_marked}
use Rattle.phase_pools.specs.Accesses.{Loads}
use Rattle.source_machine.specs.declared.event.SourceEvent.TheVariants as events
use Rattle.source_machine.specs.declared.state.Value.{Value}
use Rattle.source_machine.specs.declared.state.Value.TheVariants.{Number, Node}
use Rattle.source_machine.specs.declared.state.NamedNode.{NamedNode}
use Rattle.source_machine.specs.declared.state.Memory.{Memory}
use Rattle.source_machine.specs.declared.state.SourceCaller.{SourceCaller}
use Rattle.source_machine.specs.Memory.{with_value, value_at, null_fields, fields_named, field_behind, loaded}
use Rattle.source_machine.specs.MethodRuns.{MethodRun, with_name, name_in, name_got}
use Rattle.source_machine.specs.Plans.{blank_in}
use Rattle.source_machine.proofs.NullFields.{null_field}
use Rattle.source_machine.specs.Proper.{has, field_of}
use Rattle.source_machine.specs.Run.{is_name}
use Rattle.caller_parts.specs.Operands.{with_word, unpacked, slot_in}
use Rattle.caller_steps.specs.Wants.{plain_wanted}
use Rattle.caller_steps.specs.Entries.{one_more}
use Rattle.caller_steps.specs.After.{counted, with_access, loaded as core_loaded, plain_accepted}
use Rattle.run_ahead.specs.Agreeing.{Agree, Changes}
use Rattle.target_laws.specs.Methods.{code_in}
use Rattle.target_laws.specs.Trusted.{Trusted, Unchecked, Spoilt, trust_along, trust_in_set}
use Rattle.run_ahead.specs.Ahead.{erasing, AsTrusted}
use Rattle.run_ahead.specs.Known.{IsGot, AreGot}
use Rattle.run_ahead.specs.Standing.{loads_into, IsValueFor, ValuesAgree, run_from}
use Rattle.run_ahead.specs.Typed.{IsOfKind, IsRegisterFor, AreAsked}
use Rattle.run_ahead.proofs.Accesses.{value_changes, is_load}
use Rattle.run_ahead.proofs.Plain.{trusted_at}
use Rattle.run_ahead.proofs.Getting.{plain_got}
use Rattle.run_ahead.proofs.Mirroring.{numbers_agree, references_agree, reads_first}
use Rattle.target_laws.proofs.TextRules.{keeps_at}
use Rattle.run_ahead.proofs.Plain.{at_place, kind_right}
use Rattle.run_ahead.proofs.Telling.{told_trusted}
use Rattle.run_ahead.proofs.TypedMemory.{FindsFor, root_finds, field_finds, pick_finds}
use Rattle.oa_simulation.specs.sim_relation.Views.{Plan, IsPlan, Null, Held, Shared, Caller, word_for, value_count, Resident}
use Rattle.oa_simulation.specs.sim_relation.Shared.{SharedHolds}
use Rattle.oa_simulation.specs.sim_relation.Callers.{Known, Calm, Base, Trail, Walks, Stands, Gets, Guards, Running, spot_of}
use Rattle.oa_simulation.specs.sim_relation.Allowing.{IsProperFor}
use Rattle.caller_steps.specs.Signs.{Accesses, Moved}
use Rattle.oa_simulation.specs.sim_relation.Points.{point}
use Rattle.oa_simulation.proofs.sim_relation.Playing.{PlaysEvent, plays_first}
use Rattle.oa_simulation.specs.sim_relation.Steps.{KeptSetting}
use Rattle.oa_simulation.specs.sim_relation.WasSet.{set_by, set_onward, set_plain}
use Rattle.oa_simulation.proofs.sim_relation.Names.{own_private, null_resident}
use Rattle.oa_simulation.proofs.sim_relation.Words.{store_idle}
use Rattle.oa_simulation.proofs.sim_steps.Walks.Along.{has_before, base_walked, walks_along, guards_along, gets_along}
use Rattle.oa_simulation.proofs.sim_relation.Codes.{blank}
use Rattle.oa_simulation.proofs.sim_steps.Inside.{field_inside}
use Rattle.oa_simulation.proofs.sim_steps.Exchanges.Fresh.{blank_null}
use Rattle.oa_simulation.proofs.sim_relation.Moving.{base_moved, running_moved, goes_same}
use Rattle.oa_simulation.proofs.sim_steps.Guards.Residents.{hoped_resident}
use Rattle.oa_simulation.proofs.sim_steps.Walks.Stopping.{settles_ends}
use Rattle.oa_simulation.proofs.sim_steps.Guards.Unguarding.{counted_caller}
use Rattle.oa_simulation.proofs.sim_steps.Walks.Accessing.{Makes, turns, turned, took, base_turned, walks_turned, stands_took}
use Rattle.caller_parts.specs.declared.setting.Reclamation.TheVariants.{Optimistic}

-- ---- a word as a register sees it

-- the value that a register gets from a word
abbrev pub read_as : Reg → ℕ → Value
read_as (Num r) word = Number word
read_as (Ref r) word = Node (unpacked word)

pub word_put : (registers : Registers) (d : Reg) (word : ℕ) → with_word registers d word ≡ with_value registers d (read_as d word)
word_put registers (Num r) word = refl
word_put registers (Ref r) word = refl

pub unpacks : (node : ℕ) (marked : Bool) → (slot_part (ref_word node marked) ≡ node) × (is_marked (ref_word node marked) ≡ marked)
unpacks node true = (let e : (2 * node + 1) / 2 ≡ node = omega arith in e, let e : (2 * node + 1) % 2 ≡ 1 = omega arith in grind (arith, nat_tests, e))
unpacks node false = (let e : (2 * node + 0) / 2 ≡ node = omega arith in e, let e : (2 * node + 0) % 2 ≡ 0 = omega arith in grind (arith, nat_tests, e))

-- a register of a value's kind gets what stands for the value from the value's word
pub reads_back : (home : ℕ → ℕ) (nodes : List NamedNode) (kind : FieldKind) (d : Reg) (word : ℕ) (v : Value) → IsRegisterFor kind d → IsOfKind nodes kind v → word ≡ word_for home v → ValuesAgree home (read_as d word) v
reads_back home nodes field_kinds.Number (Num r) word (Number n) right typed is = is
reads_back home nodes field_kinds.Number (Num r) word (Node y) right typed is = absurd typed
reads_back home nodes field_kinds.Number (Ref r) word v right typed is = absurd right
reads_back home nodes (field_kinds.Reference k) (Num r) word v right typed is = absurd right
reads_back home nodes (field_kinds.Reference k) (Ref r) word (Number n) right typed is = absurd typed
reads_back home nodes (field_kinds.Reference k) (Ref r) word (Node y) right typed is =
    (ap slot_part is ∙ (unpacks (home y.node) y.marked).0, ap is_marked is ∙ (unpacks (home y.node) y.marked).1)

-- and something of its kind from any word
pub reads_kind : (nodes : List NamedNode) (kind : FieldKind) (d : Reg) (word : ℕ) (v : Value) → IsRegisterFor kind d → IsOfKind nodes kind v → IsValueFor d (read_as d word) × IsValueFor d v
reads_kind nodes field_kinds.Number (Num r) word (Number n) right typed = (tt, tt)
reads_kind nodes field_kinds.Number (Num r) word (Node y) right typed = absurd typed
reads_kind nodes field_kinds.Number (Ref r) word v right typed = absurd right
reads_kind nodes (field_kinds.Reference k) (Num r) word v right typed = absurd right
reads_kind nodes (field_kinds.Reference k) (Ref r) word (Number n) right typed = absurd typed
reads_kind nodes (field_kinds.Reference k) (Ref r) word (Node y) right typed = (tt, tt)

-- ---- what is found

-- where a load looks
abbrev pub LooksAt : List FieldDecl → Instr → Registers → Word → Type 0
LooksAt fields i registers w = plain_wanted fields i registers ≡ Some (Loads w)

pub record Found (t : Plan) (s : Shared) (c : ℕ) (x : Caller) (m : Trail t) (i : Instr) (d : Reg) (w : Word) : Type 0 where
  pub kind : IsValueFor d (read_as d (s.memory w)) × IsValueFor d (loaded t.text i m.mirror s.source)
  -- not stale
  pub agrees : Calm s c x → ValuesAgree t.home (read_as d (s.memory w)) (loaded t.text i m.mirror s.source)
  -- null or published
  pub known : (name_in (loaded t.text i m.mirror s.source) ≡ 0) ⊎ (s.public (name_in (loaded t.text i m.mirror s.source)) ≡ true)

-- what a load stands on
pub record Reading (t : Plan) (s : Shared) (c : ℕ) (x : Caller) (m : Trail t) (i : Instr) : Type 0 where
  pub plan : IsPlan t
  pub shared_holds : SharedHolds t s
  pub base : Base t s c x
  pub walks : Walks t s c x (spot_of x.entry.hand) m
  pub gets : Gets t s c x m
  pub below : c < t.setting.sizes.callers
  pub proper : IsProperFor s x
  pub here : slice_get (code_in m.walk.method) x.entry.hand.at ≡ Some (Plain i)

-- what a register that a load reads holds agrees
pub read_agrees : (t : Plan) (s : Shared) (c : ℕ) (x : Caller) (m : Trail t) (i : Instr) (r : Reg) → Reading t s c x m i → IsTrue (reads r i) → Agree t.home x.entry.hand.registers m.mirror r
read_agrees t s c x m i r w is =
    told_trusted (Calm s c x) (trust_along m.walk.method m.path r) (Agree t.home x.entry.hand.registers m.mirror r)
    (trusted_at m.walk.method w.plan.compiled m.path x.entry.hand.at i r w.walks.ahead.path_is w.here is) (w.walks.ahead.agree r)

by_kind : (t : Plan) (s : Shared) (c : ℕ) (x : Caller) (m : Trail t) (i : Instr) (d : Reg) (w : Word) (o : Option FieldKind) → FindsFor s.source.nodes o d (loaded t.text i m.mirror s.source) → (Calm s c x → s.memory w ≡ word_for t.home (loaded t.text i m.mirror s.source))
    → (name_in (loaded t.text i m.mirror s.source) ≡ 0) ⊎ (s.public (name_in (loaded t.text i m.mirror s.source)) ≡ true) → Found t s c x m i d w
by_kind t s c x m i d w o finds word known = record {
  kind = reads_kind s.source.nodes finds.0 d (s.memory w) (loaded t.text i m.mirror s.source) finds.2 finds.3;
  agrees = λ calm. reads_back t.home s.source.nodes finds.0 d (s.memory w) (loaded t.text i m.mirror s.source) finds.2 finds.3 (word calm);
  known = known;
}

-- what null has in a field
null_value : (t : Plan) (f : ℕ) → t.home 0 ≡ 0 → (word_for t.home (value_at (null_fields t.text (owner_of t.text.fields f)) (place_of t.text.fields f)) ≡ 0) × (name_in (value_at (null_fields t.text (owner_of t.text.fields f)) (place_of t.text.fields f)) ≡ 0)
null_value t f null_home = subst (λ (v : Value). (word_for t.home v ≡ 0) × (name_in v ≡ 0)) (sym (null_field t.text f)) (of (slice_get t.text.fields f)) where
  of : (o : Option FieldDecl) → (word_for t.home (blank_in o) ≡ 0) × (name_in (blank_in o) ≡ 0)
  of None = (refl, refl)
  of (Some field) = blank_null t field.kind null_home

-- a field of a name: the word of a resident's that has the field, and 0 of null's
pub field_word : (t : Plan) (s : Shared) (y : Reference) (f : ℕ) → t.home 0 ≡ 0 → SharedHolds t s → (y.node ≢ 0 → place_of t.text.fields f < value_count s.source y.node) → Resident t s y.node
    → s.memory (FieldOf (t.home y.node) (place_of t.text.fields f)) ≡ word_for t.home (field_behind t.text s.source y f)
field_word t s y f null_home fine inside here = ⊎_elim
    (λ (z : y.node ≡ 0).
    let none : fields_named y.node s.source.nodes ≡ None = ap (λ (n : ℕ). fields_named n s.source.nodes) z ∙ fine.store.null_node in
    ap (λ (j : ℕ). s.memory (FieldOf j (place_of t.text.fields f))) (ap t.home z ∙ null_home) ∙ (fine.store.null_field (place_of t.text.fields f)
    ∙ sym (ap (λ (o : Option (List Value)). word_for t.home (value_at (unwrap_or o (null_fields t.text (owner_of t.text.fields f))) (place_of t.text.fields f))) none ∙ (null_value t f null_home).0)))
    (λ (some : y.node ≢ 0).
    let there : s.present (t.home y.node) ≢ 0 = λ z. some (sym here ∙ z) in
    let node = fine.store.node (t.home y.node) there in
    let fields : fields_named y.node s.source.nodes ≡ Some node.0 = ap (λ (n : ℕ). fields_named n s.source.nodes) (sym here) ∙ node.1 in
    fine.store.field (t.home y.node) (place_of t.text.fields f) there (subst (λ (n : ℕ). (place_of t.text.fields f) < value_count s.source n) (sym here) (inside some)) ∙ (ap (λ (n : ℕ). word_for t.home (field_of s.source n (place_of t.text.fields f))) here
    ∙ (ap (λ (o : Option (List Value)). word_for t.home (value_at (unwrap_or o []) (place_of t.text.fields f))) fields
    ∙ sym (ap (λ (o : Option (List Value)). word_for t.home (value_at (unwrap_or o (null_fields t.text (owner_of t.text.fields f))) (place_of t.text.fields f))) fields))))
    (cases_eq y.node 0)

-- what stands there is null or published
pub field_known : (t : Plan) (s : Shared) (y : Reference) (f : ℕ) → t.home 0 ≡ 0 → SharedHolds t s → (name_in (field_behind t.text s.source y f) ≡ 0) ⊎ (s.public (name_in (field_behind t.text s.source y f)) ≡ true)
field_known t s y f null_home fine = of (fields_named y.node s.source.nodes) refl where
  of : (o : Option (List Value)) → fields_named y.node s.source.nodes ≡ o
      → (name_in (value_at (unwrap_or o (null_fields t.text (owner_of t.text.fields f))) (place_of t.text.fields f)) ≡ 0) ⊎ (s.public (name_in (value_at (unwrap_or o (null_fields t.text (owner_of t.text.fields f))) (place_of t.text.fields f))) ≡ true)
  of None is = inl (null_value t f null_home).1
  of (Some values) is =
      subst (λ (o : Option (List Value)). (name_in (value_at (unwrap_or o []) (place_of t.text.fields f)) ≡ 0) ⊎ (s.public (name_in (value_at (unwrap_or o []) (place_of t.text.fields f))) ≡ true)) is (fine.store.link y.node (place_of t.text.fields f))

-- a name that a trusted register holds is resident, while its caller isn't warned
trusted_resident : (t : Plan) (s : Shared) (c : ℕ) (x : Caller) (m : Trail t) (i : Instr) (r : ℕ) → Reading t s c x m i → IsTrue (reads (Ref r) i) → Calm s c x → Resident t s (node_in m.mirror r)
trusted_resident t s c x m i r w is calm =
    let trusted = trusted_at m.walk.method w.plan.compiled m.path x.entry.hand.at i (Ref r) w.walks.ahead.path_is w.here is in
    hoped_resident t s c x m w.plan.null w.shared_holds w.base w.below calm w.proper (blank m.walk w.walks.generator) w.walks.kept w.gets (node_in m.mirror r)
    (inr (r, (λ spoilt. let z : Trusted ≡ Spoilt = sym trusted ∙ spoilt in cc), refl))

pub object_resident : (t : Plan) (s : Shared) (c : ℕ) (x : Caller) (m : Trail t) (i : Instr) (a : Reg) → Reading t s c x m i → IsTrue (reads a i) → Calm s c x → Resident t s (reference_in m.mirror a).node
object_resident t s c x m i (Ref r) w is calm = trusted_resident t s c x m i r w is calm
object_resident t s c x m i (Num r) w is calm = null_resident t s 0 w.plan.null w.shared_holds refl

pub some_load : (v w : Word) → Some (Loads v) ≡ Some (Loads w) → v ≡ w
some_load v w is = cc

pub finds : (t : Plan) (s : Shared) (c : ℕ) (x : Caller) (m : Trail t) (i : Instr) (d : Reg) (w : Word) → Reading t s c x m i → AreAsked t.text i s.source.nodes m.mirror → loads_into i ≡ Some d → LooksAt t.target.fields i x.entry.hand.registers w → Found t s c x m i d w
finds t s c x m (instr.LoadRoot e z) d w rd asked loads looks =
    subst (λ (r : Reg). Found t s c x m (instr.LoadRoot e z) r w) (let same : e ≡ d = cc in same) (subst (λ (v : Word). Found t s c x m (instr.LoadRoot e z) e v) (some_load (Cell z) w looks)
    (by_kind t s c x m (instr.LoadRoot e z) e (Cell z) _ (root_finds t.text e z m.mirror s.source (kind_right m.walk.method (erasing rd.plan.compiled) x.entry.hand.at (instr.LoadRoot e z) rd.here) rd.shared_holds.typed) (λ calm. rd.shared_holds.store.root z) (rd.shared_holds.store.top z)))
finds t s c x m (instr.LoadPick e z n a) d w rd asked loads looks =
    let i = instr.LoadPick e z n a in
    let same : number_in x.entry.hand.registers a ≡ number_in m.mirror a = numbers_agree t.home x.entry.hand.registers m.mirror a (read_agrees t s c x m i a rd (reads_first a false)) in
    let one : are_roots_of_one_kind t.text.roots z n ≡ true = unnegated (are_roots_of_one_kind t.text.roots z n) (false_from_ne_true _ (λ wrong. keeps_at rd.plan.compiled.normal rd.plan.compiled.barred.erases m.walk.method N13 x.entry.hand.at i rd.here wrong)) in
    subst (λ (r : Reg). Found t s c x m i r w) (let same : e ≡ d = cc in same) (subst (λ (v : Word). Found t s c x m i e v) (ap (λ (k : ℕ). Cell (z + remainder k n)) (sym same) ∙ some_load (Cell (z + remainder (number_in x.entry.hand.registers a) n)) w looks)
    (by_kind t s c x m i e (Cell (z + remainder (number_in m.mirror a) n)) _ (pick_finds t.text e z n a m.mirror s.source (kind_right m.walk.method (erasing rd.plan.compiled) x.entry.hand.at i rd.here) one rd.shared_holds.typed)
    (λ calm. rd.shared_holds.store.root (z + remainder (number_in m.mirror a) n)) (rd.shared_holds.store.top (z + remainder (number_in m.mirror a) n))))
  where
    unnegated : (b : Bool) → not b ≡ false → b ≡ true
    unnegated true is = refl
    unnegated false is = absurd (let z : true ≡ false = is in cc)
finds t s c x m (instr.LoadField e a f) d w rd asked loads looks =
    let i = instr.LoadField e a f in
    let same_fields : t.target.fields ≡ t.text.fields = ap (λ (text : Text). text.fields) rd.plan.compiled.barred.erases in
    let right = kind_right m.walk.method (erasing rd.plan.compiled) x.entry.hand.at i rd.here in
    let held = field_finds t.text e a f m.mirror s.source right asked rd.shared_holds.typed in
    let slot : (reference_in x.entry.hand.registers a).node ≡ t.home (reference_in m.mirror a).node = (references_agree t.home x.entry.hand.registers m.mirror a rd.plan.null (read_agrees t s c x m i a rd (reads_first a false))).0 in
    let looked : FieldOf (t.home (reference_in m.mirror a).node) (place_of t.text.fields f) ≡ w =
    ap (λ (j : ℕ). FieldOf j (place_of t.text.fields f)) (sym slot) ∙ (ap (λ (fields : List FieldDecl). FieldOf (slot_in x.entry.hand.registers a) (place_of fields f)) (sym same_fields)
    ∙ some_load (FieldOf (slot_in x.entry.hand.registers a) (place_of t.target.fields f)) w looks) in
    subst (λ (r : Reg). Found t s c x m i r w) (let same : e ≡ d = cc in same) (subst (λ (v : Word). Found t s c x m i e v) looked
    (by_kind t s c x m i e (FieldOf (t.home (reference_in m.mirror a).node) (place_of t.text.fields f)) _ held
    (λ calm. field_word t s (reference_in m.mirror a) f rd.plan.null rd.shared_holds (field_inside t.text s.source m.mirror a f held.0 rd.shared_holds.typed asked held.1) (object_resident t s c x m i a rd (reads_first a false) calm))
    (field_known t s (reference_in m.mirror a) f rd.plan.null rd.shared_holds)))
finds t s c x m _ d w rd asked loads looks = absurd (let never : None ≡ Some d = loads in cc)

-- ---- the names that a run has got

pub has_with : (n g : ℕ) (got : List ℕ) → has n (with_name g got) ≡ true → (n ≡ g) ⊎ (has n got ≡ true)
has_with n zero got is = inr is
has_with n (suc g) got is = ⊎_elim
    (λ (e : ((suc g == n) ≡ true) × (suc g ≡ n)). inl (sym e.1))
    (λ (e : ((suc g == n) ≡ false) × (suc g ≢ n)). inr (sym (ap (λ (b : Bool). b || has n got) e.0) ∙ is))
    (eqb_tells (suc g) n)

pub has_kept : (n g : ℕ) (got : List ℕ) → has n got ≡ true → has n (with_name g got) ≡ true
has_kept n zero got is = is
has_kept n (suc g) got is = has_before (suc g) got n is

pub got_kept : (n g : ℕ) (got : List ℕ) → IsGot got n → IsGot (with_name g got) n
got_kept n g got (inl z) = inl z
got_kept n zero got (inr among) = inr among
got_kept n (suc g) got (inr among) = inr (has_before (suc g) got n among)

pub got_new : (g : ℕ) (got : List ℕ) → IsGot (with_name g got) g
got_new zero got = inl refl
got_new (suc g) got = inr (let one : (suc g == suc g) ≡ true = grind (arith, nat_tests) in rw one refl)

-- ---- the load

load_old : (i : Instr) (d : Reg) → loads_into i ≡ Some d → is_new i ≡ false
load_old (instr.LoadRoot e z) d is = refl
load_old (instr.LoadPick e z n a) d is = refl
load_old (instr.LoadField e a f) d is = refl
load_old _ d is = absurd (let never : None ≡ Some d = is in cc)

load_got : (text : Text) (i : Instr) (d : Reg) (place : ℕ → ℕ) (mirror : Registers) (memory : Memory) → loads_into i ≡ Some d → name_got text 0 (Some (redirected place i)) mirror memory ≡ name_in (loaded text i mirror memory)
load_got text (instr.LoadRoot e z) d place mirror memory is = refl
load_got text (instr.LoadPick e z n a) d place mirror memory is = refl
load_got text (instr.LoadField e a f) d place mirror memory is = refl
load_got text _ d place mirror memory is = absurd (let never : None ≡ Some d = is in cc)

load_accepted : (t : Plan) (i : Instr) (d : Reg) (word : ℕ) (x : Caller) → loads_into i ≡ Some d → core_loaded Optimistic t.target t.setting.sizes d word (counted x.entry) ≡ plain_accepted Optimistic t.target t.setting.sizes i word (counted x.entry)
load_accepted t (instr.LoadRoot e z) d word x is = let same : d ≡ e = cc in ap (λ (r : Reg). core_loaded Optimistic t.target t.setting.sizes r word (counted x.entry)) same
load_accepted t (instr.LoadPick e z n a) d word x is = let same : d ≡ e = cc in ap (λ (r : Reg). core_loaded Optimistic t.target t.setting.sizes r word (counted x.entry)) same
load_accepted t (instr.LoadField e a f) d word x is = let same : d ≡ e = cc in ap (λ (r : Reg). core_loaded Optimistic t.target t.setting.sizes r word (counted x.entry)) same
load_accepted t _ d word x is = absurd (let never : None ≡ Some d = is in cc)

-- the registers that the run has set after it
load_sets : (t : Plan) (i : Instr) (d : Reg) (word : ℕ) (x : Caller) → loads_into i ≡ Some d → set_onward t.target x.entry (set_by (Some (Plain i)) x.was_set) (with_word x.entry.hand.registers d word) ≡ set_plain t.target i word x.entry x.was_set
load_sets t (instr.LoadRoot e z) d word x is = let same : d ≡ e = cc in ap (λ (r : Reg). set_onward t.target x.entry (set_by (Some (Plain (instr.LoadRoot e z))) x.was_set) (with_word x.entry.hand.registers r word)) same
load_sets t (instr.LoadPick e z n a) d word x is = let same : d ≡ e = cc in ap (λ (r : Reg). set_onward t.target x.entry (set_by (Some (Plain (instr.LoadPick e z n a))) x.was_set) (with_word x.entry.hand.registers r word)) same
load_sets t (instr.LoadField e a f) d word x is = let same : d ≡ e = cc in ap (λ (r : Reg). set_onward t.target x.entry (set_by (Some (Plain (instr.LoadField e a f))) x.was_set) (with_word x.entry.hand.registers r word)) same
load_sets t _ d word x is = absurd (let never : None ≡ Some d = is in cc)

-- the spot after a load
abbrev pub behind_load : Caller → Reg → ℕ → Spot
behind_load x d word = record { at = x.entry.hand.at + 1; registers = with_word x.entry.hand.registers d word }

-- a load makes the source's load too, and the run gets what it found
pub load_takes : (t : Plan) (s : Shared) (c : ℕ) (x : Caller) (m : Trail t) (i : Instr) (d : Reg) (w : Word) (accessed : Bool) → Reading t s c x m i → Stands t x m → Guards t x m → loads_into i ≡ Some d
    → Found t s c x m i d w → (m.walk.method.wrapup ≡ true → accessed ≡ true)
    → let y = took t s c 0 x (behind_load x d (s.memory w)) accessed (name_in (loaded t.text i m.mirror s.source)) (set_by (Some (Plain i)) x.was_set) in
    PlaysEvent t.text (events.Access c 0) s.source x.source x.watch s.source y.source y.watch × (Base t s c y × Running t s c y (behind_load x d (s.memory w)))
load_takes t s c x m i d w accessed rd st guards loads found marked =
    let l = is_load t.text i d loads in
    let method = m.walk.method in
    let place = source_place (code_in method) in
    let at = x.entry.hand.at in
    let v = loaded t.text i m.mirror s.source in
    let n : ℕ = name_in v in
    let next = behind_load x d (s.memory w) in
    let mirror' = with_value m.mirror d v in
    let changes : Changes t.home (AsTrusted (Calm s c x) (trust_in_set i)) (destination i) (name_in v) x.entry.hand.registers m.mirror next.registers mirror' =
    subst (λ registers. Changes t.home (AsTrusted (Calm s c x) (trust_in_set i)) (destination i) (name_in v) x.entry.hand.registers m.mirror registers mirror') (sym (word_put x.entry.hand.registers d (s.memory w)))
    (subst (λ o. Changes t.home (AsTrusted (Calm s c x) (trust_in_set i)) o (name_in v) x.entry.hand.registers m.mirror (with_value x.entry.hand.registers d (read_as d (s.memory w))) mirror') (sym l.sets)
    (subst (λ z. Changes t.home (AsTrusted (Calm s c x) z) (Some d) (name_in v) x.entry.hand.registers m.mirror (with_value x.entry.hand.registers d (read_as d (s.memory w))) mirror') (sym l.trust)
    (value_changes t.home (Calm s c x) Unchecked x.entry.hand.registers m.mirror d (read_as d (s.memory w)) v rd.plan.null rd.walks.ahead.sized found.kind.0 found.kind.1 found.agrees))) in
    let made : Makes t s c 0 x m i (name_in v) next mirror' = record {
      here = rd.here;
      access = l.access;
      named = subst (λ b. IsTrue (is_name b 0 s.source.nodes)) (sym l.old) refl;
      goes = l.next at;
      changes = changes;
      known = λ trusted. absurd (let never : Unchecked ≡ Trusted = sym l.trust ∙ trusted in cc);
      leads = l.spot place 0 (place at) m.mirror s.source ∙ ap (λ (k : ℕ). record { at = k; registers = mirror' }) (sym (at_place method (erasing rd.plan.compiled) at (Plain i) rd.here).1);
    } in
    let turn = turns t s c 0 x m i (name_in v) next mirror' (erasing rd.plan.compiled) rd.walks st made in
    let y = turned x (took t s c 0 x next accessed n x.was_set).source (took t s c 0 x next accessed n x.was_set).watch in
    let held = (took t s c 0 x next accessed n x.was_set).held in
    let there : Spot = run_from method.op method.wrapup (record { at = place next.at; registers = mirror' }) in
    let got : AreGot method (at ∷ m.path) m.walk.started mirror' held.got =
    plain_got method t.home (AsTrusted (Calm s c x) (trust_in_set i)) m.path at i (name_in v) x.entry.hand.registers m.mirror next.registers mirror' m.walk.started x.held.got held.got rd.here changes
    (λ r set. got_new n x.held.got) (λ k. got_kept k n x.held.got) rd.gets.got in (
      (turn.enabled, (sym (turn.memory ∙ l.memory place 0 (place at) m.mirror s.source), refl, sym (turn.watch ∙ ap (λ (k : ℕ). record x.watch { got = with_name k x.watch.got }) (load_got t.text i d place m.mirror s.source loads)))),
      (
        base_walked t s c y next accessed held (set_by (Some (Plain i)) x.was_set) refl
            (λ k has_k. ⊎_elim (λ (e : k ≡ n). subst (λ (j : ℕ). Known t s c j) (sym e) (found_known n found.known)) (λ (old : has k x.held.got ≡ true). rd.base.known k old) (has_with k n x.held.got has_k))
            (base_turned t s c x y.source y.watch rd.base),
        (
          record { walk = m.walk; path = at ∷ m.path; mirror = mirror'; there = there },
          walks_along t s c y (spot_of x.entry.hand) next m i (name_in v) (AsTrusted (Calm s c x) (trust_in_set i)) mirror' there accessed held rd.plan.null rd.shared_holds rd.here changes
              (λ trusted. absurd (let never : Unchecked ≡ Trusted = sym l.trust ∙ trusted in cc)) turn.ahead (walks_turned t s c x (spot_of x.entry.hand) m y.source y.watch rd.walks),
          stands_took t s c 0 x m i next mirror' accessed n marked turn,
          gets_along t s c y (spot_of x.entry.hand) next m i (name_in v) (AsTrusted (Calm s c x) (trust_in_set i)) mirror' there accessed held rd.here (load_old i d loads) changes got (λ k is. has_kept k n x.held.got is)
              (λ k j has_k own here. ⊎_elim (λ (e : k ≡ n). absurd (not_own n found.known j (subst (λ (a : ℕ). s.owner (t.home a) ≡ Held c j) e own) (subst (λ (a : ℕ). Resident t s a) e here))) (λ (old : has k x.held.got ≡ true). old) (has_with k n x.held.got has_k))
              (λ gen r set. found.known)
              rd.gets,
          guards_along t s c y (spot_of x.entry.hand) next m i (name_in v) (AsTrusted (Calm s c x) (trust_in_set i)) mirror' there accessed held rd.here (load_old i d loads) changes guards,
        ),
      ),
    )
  where
    found_known : (n : ℕ) → (n ≡ 0) ⊎ (s.public n ≡ true) → Known t s c n
    found_known n (inl z) = inl z
    found_known n (inr p) = inr (inl p)

    not_own : (n : ℕ) → (n ≡ 0) ⊎ (s.public n ≡ true) → (j : ℕ) → s.owner (t.home n) ≡ Held c j → Resident t s n → ⊥
    not_own n (inl z) j own here = let e : Null ≡ Held c j = sym rd.shared_holds.none_there ∙ (ap s.owner (sym (ap t.home z ∙ rd.plan.null)) ∙ own) in cc
    not_own n (inr p) j own here = let e : true ≡ false = sym p ∙ own_private t s c j n rd.shared_holds own here in cc

-- the caller whose access was made, where it stood
abbrev pub made_by : Caller → SourceCaller → MethodRun → MethodRun → (ℕ → Bool) → Caller
made_by x source watch held were = record x { source = source; watch = watch; held = held; was_set = were; entry = with_access (counted x.entry) }

-- a load, and the local code after it
pub load_kept : (t : Plan) (c : ℕ) (s : Shared) (x : Caller) (i : Instr) (d : Reg) (w : Word) → IsPlan t → SharedHolds t s → Base t s c x → (walk : Running t s c x (spot_of x.entry.hand)) → c < t.setting.sizes.callers → IsProperFor s x
    → slice_get (code_in walk.0.walk.method) x.entry.hand.at ≡ Some (Plain i) → AreAsked t.text i s.source.nodes walk.0.mirror → loads_into i ≡ Some d → LooksAt t.target.fields i x.entry.hand.registers w
    → KeptSetting t c s x (set_plain t.target i (s.memory w) x.entry x.was_set) (store s.memory w (s.memory w)) (plain_accepted Optimistic t.target t.setting.sizes i (s.memory w) (counted x.entry))
load_kept t c s x i d w plan f b walk below proper here asked loads looks =
    let y = counted_caller x in
    let moves = running_moved t s c x (spot_of x.entry.hand) (one_more x.entry.running.steps) x.entry.counts x.entry.routine walk in
    let rd : Reading t s c y walk.0 i = record { plan = plan; shared_holds = f; base = base_moved t s c x (one_more x.entry.running.steps) x.entry.counts x.entry.routine b; walks = moves.1; gets = moves.3; below = below; proper = proper; here = here } in
    let taken = load_takes t s c y walk.0 i d w x.entry.hand.wrapup rd moves.2 moves.4 loads (finds t s c y walk.0 i d w rd asked loads looks) (λ e. walk.1.wrapup ∙ e) in
    let z = took t s c 0 y (behind_load x d (s.memory w)) x.entry.hand.wrapup (name_in (loaded t.text i walk.0.mirror s.source)) (set_by (Some (Plain i)) x.was_set) in
    let ended = settles_ends t s c (made_by x z.source z.watch z.held z.was_set) (behind_load x d (s.memory w)) plan f taken.1.0 taken.1.1 in
    subst (λ (were : ℕ → Bool). KeptSetting t c s x were (store s.memory w (s.memory w)) (plain_accepted Optimistic t.target t.setting.sizes i (s.memory w) (counted x.entry))) (load_sets t i d (s.memory w) x loads)
    (subst (λ (m : Moved). KeptSetting t c s x (set_onward t.target x.entry (set_by (Some (Plain i)) x.was_set) (with_word x.entry.hand.registers d (s.memory w))) (store s.memory w (s.memory w)) m) (load_accepted t i d (s.memory w) x loads) (record {
      s' = s;
      x' = ended.x';
      memory = store_idle s.memory w;
      present = refl;
      entry = ended.entry;
      names = ended.names;
      was_set = ended.was_set;
      plays = plays_first t.text c Accesses _ (point s x) (point s z) (point s ended.x') taken.0 refl ended.plays;
      shared_holds = f;
      goes = goes_same t s c;
      retires = λ n is. inl is;
      caller_holds = ended.caller_holds;
    }))
