-- A load of the text: its base is resident, and what the core finds is what the source finds.
use Rattle.std.proofs.Common.{ℕ, ◌≡◌, ◌+◌, ◌∙◌, true, false, List, [], Option, Some, None, inl, sym, ap, subst, refl}
use Rattle.std.specs.Prelude.{slice_get, IsTrue, unwrap_or}
use Rattle.std.proofs.lemmas.Bool.{not-false, false_from_ne_true}
use Rattle.norm_lang.specs.declared.text.Reg.{Reg}
use Rattle.norm_lang.specs.declared.text.Reg.TheVariants.{Num, Ref}
use Rattle.norm_lang.specs.declared.text.FieldKind.{FieldKind}
use Rattle.norm_lang.specs.declared.text.Instr.{Instr}
use Rattle.norm_lang.specs.declared.text.Instr.TheVariants as instr
use Rattle.norm_lang.specs.declared.text.Text.{Text}
use Rattle.norm_lang.specs.declared.registers.Reference.{Reference}
use Rattle.norm_lang.specs.InstructionRules.{are_roots_of_one_kind}
use Rattle.norm_lang.specs.Local.{remainder}
use Rattle.norm_lang.specs.NormalForm.{N13}
use Rattle.norm_lang.specs.PathRules.{follows}
use Rattle.norm_lang.specs.Registers.{number_in, reference_in, node_in}
use Rattle.norm_lang.specs.RegisterUse.{reads}
use Rattle.target_code.specs.declared.target.TargetInstr.TheVariants.{Plain}
use Rattle.target_laws.specs.Methods.{code_in}
use Rattle.target_laws.proofs.TextRules.{keeps_at}
use Rattle.oa_words.specs.Words.{Word, FieldOf, Cell}
use Rattle.source_machine.specs.declared.state.Value.{Value}
use Rattle.source_machine.specs.Memory.{value_at, blank_of, null_fields, fields_named, field_behind, loaded}
use Rattle.source_machine.specs.Plans.{blank_in}
use Rattle.source_machine.proofs.NullFields.{null_field}
use Rattle.source_machine.specs.MethodRuns.{name_in}
use Rattle.norm_lang.specs.declared.text.FieldDecl.{FieldDecl}
use Rattle.norm_lang.specs.declared.text.FieldKind.TheVariants as field_kinds
use Rattle.norm_lang.specs.KindFields.{owner_of, place_of}
use Rattle.run_ahead.specs.Typed.{AreAsked}
use Rattle.caller_parts.specs.Operands.{slot_in}
use Rattle.run_ahead.specs.Known.{IsGot}
use Rattle.run_ahead.specs.Standing.{loads_into, IsValueFor, ValuesAgree}
use Rattle.run_ahead.proofs.Mirroring.{numbers_agree, references_agree, reads_first, same_itself}
use Rattle.run_ahead.proofs.TypedMemory.{FindsFor, root_finds, field_finds, pick_finds}
use Rattle.oa_simulation.specs.sim_relation.Views.{Plan, Shared, word_for, Resident}
use Rattle.oa_simulation.specs.sim_relation.Callers.{Shown}
use Rattle.oa_simulation.proofs.sim_relation.Codes.{blank}
use Rattle.oa_simulation.proofs.sim_steps.Accesses.Loads.{read_as, reads_back, reads_kind, LooksAt, field_word, field_known, some_load}
use Rattle.oa_simulation.proofs.sim_steps.Inside.{field_inside}
use Rattle.epoch_relation.specs.Reckoned.{reckoned}
use Rattle.epoch_relation.specs.Callers.{Caller}
use Rattle.epoch_relation.specs.Walking.{Trail}
use Rattle.run_ahead.proofs.Plain.{kind_right}
use Rattle.epoch_relation.proofs.Local.{erased_of, safe_here}
use Rattle.run_ahead.proofs.Getting.{copied_got}
use Rattle.epoch_relation.proofs.Accessing.{Clear, Owing, root_clear, link_clear, got_clear}

-- what a load stands on: the source runs the method
pub record Reading (t : Plan) (s : Shared) (since : ℕ → ℕ) (d : ℕ) (x : Caller) (m : Trail t) (i : Instr) : Type 0 where
  pub owes : Owing t s since d x m
  pub here : slice_get (code_in m.walk.method) x.entry.hand.at ≡ Some (Plain i)
  pub asked : AreAsked t.text i s.source.nodes m.mirror

-- ---- what is found is clear

-- null's fields name nothing
null_names : (t : Plan) (f : ℕ) → name_in (value_at (null_fields t.text (owner_of t.text.fields f)) (place_of t.text.fields f)) ≡ 0
null_names t f = subst (λ (v : Value). name_in v ≡ 0) (sym (null_field t.text f)) (of (slice_get t.text.fields f)) where
  blank : (kind : FieldKind) → name_in (blank_of kind) ≡ 0
  blank field_kinds.Number = refl
  blank (field_kinds.Reference k) = refl

  of : (o : Option FieldDecl) → name_in (blank_in o) ≡ 0
  of None = refl
  of (Some field) = blank field.kind

behind_clear : (t : Plan) (s : Shared) (since : ℕ → ℕ) (c : ℕ) (x : Caller) (m : Trail t) (y : Reference) (f : ℕ) → Owing t s since c x m → IsGot x.watch.got y.node → Clear s x (name_in (field_behind t.text s.source y f))
behind_clear t s since c x m y f w got = of (fields_named y.node s.source.nodes) refl where
  of : (o : Option (List Value)) → fields_named y.node s.source.nodes ≡ o → Clear s x (name_in (value_at (unwrap_or o (null_fields t.text (owner_of t.text.fields f))) (place_of t.text.fields f)))
  of None is = inl (null_names t f)
  of (Some values) is = subst (λ (o : Option (List Value)). Clear s x (name_in (value_at (unwrap_or o []) (place_of t.text.fields f)))) is (link_clear t s since c x m w y.node (place_of t.text.fields f) (got_clear t s since c x m w y.node got))

-- a register through which a load goes, other than null, was got by the run
base_got : (t : Plan) (s : Shared) (since : ℕ → ℕ) (c : ℕ) (x : Caller) (m : Trail t) (i : Instr) (a : Reg) → Reading t s since c x m i → IsTrue (reads a i) → IsTrue (follows a i) → IsGot x.watch.got (reference_in m.mirror a).node
base_got t s since c x m i (Num r) w read followed = inl refl
base_got t s since c x m i (Ref r) w read followed =
    copied_got m.walk.method (erased_of t w.owes.standing.plan) m.path x.entry.hand.at i m.walk.started m.mirror x.watch.got r w.owes.walks.path_is w.here read followed (blank m.walk w.owes.walks.generator) w.owes.gets.got

found_clear : (t : Plan) (s : Shared) (since : ℕ → ℕ) (c : ℕ) (x : Caller) (m : Trail t) (i : Instr) (d : Reg) → Reading t s since c x m i → loads_into i ≡ Some d → Clear s x (name_in (loaded t.text i m.mirror s.source))
found_clear t s since c x m (instr.LoadRoot e z) d w loads = root_clear t s since c x z w.owes.standing.base w.owes.proper
found_clear t s since c x m (instr.LoadPick e z n a) d w loads = root_clear t s since c x (z + remainder (number_in m.mirror a) n) w.owes.standing.base w.owes.proper
found_clear t s since c x m (instr.LoadField e a f) d w loads = behind_clear t s since c x m (reference_in m.mirror a) f w.owes (base_got t s since c x m (instr.LoadField e a f) a w (reads_first a false) (same_itself a))
found_clear t s since c x m _ d w loads = absurd (let never : None ≡ Some d = loads in cc)

-- ---- what is found

pub record Found (t : Plan) (s : Shared) (d : ℕ) (x : Caller) (m : Trail t) (i : Instr) (to : Reg) (w : Word) : Type 0 where
  pub kind : IsValueFor to (read_as to (s.memory w)) × IsValueFor to (loaded t.text i m.mirror s.source)
  pub agrees : ValuesAgree t.home (read_as to (s.memory w)) (loaded t.text i m.mirror s.source)
  pub clear : Clear s x (name_in (loaded t.text i m.mirror s.source))
  pub shown : Shown s (name_in (loaded t.text i m.mirror s.source))

by_kind : (t : Plan) (s : Shared) (d : ℕ) (x : Caller) (m : Trail t) (i : Instr) (to : Reg) (w : Word) (o : Option FieldKind) → FindsFor s.source.nodes o to (loaded t.text i m.mirror s.source) → s.memory w ≡ word_for t.home (loaded t.text i m.mirror s.source)
    → Clear s x (name_in (loaded t.text i m.mirror s.source)) → Shown s (name_in (loaded t.text i m.mirror s.source)) → Found t s d x m i to w
by_kind t s d x m i to w o finds word clear shown = record {
  kind = reads_kind s.source.nodes finds.0 to (s.memory w) (loaded t.text i m.mirror s.source) finds.2 finds.3;
  agrees = reads_back t.home s.source.nodes finds.0 to (s.memory w) (loaded t.text i m.mirror s.source) finds.2 finds.3 word;
  clear = clear;
  shown = shown;
}

-- the base of a load is null or resident
base_is_here : (t : Plan) (s : Shared) (since : ℕ → ℕ) (d : ℕ) (x : Caller) (m : Trail t) (i : Instr) (a : Reg) → Reading t s since d x m i → Resident t s (reference_in m.mirror a).node
base_is_here t s since d x m i (Num r) rd = safe_here t s since d x 0 rd.owes.standing (inl refl)
base_is_here t s since d x m i (Ref r) rd = safe_here t s since d x (node_in m.mirror r) rd.owes.standing (rd.owes.walks.safe r)

pub finds : (t : Plan) (s : Shared) (since : ℕ → ℕ) (d : ℕ) (x : Caller) (m : Trail t) (i : Instr) (to : Reg) (w : Word) → Reading t s since d x m i → loads_into i ≡ Some to → LooksAt t.target.fields i x.entry.hand.registers w → Found t s d x m i to w
finds t s since d x m (instr.LoadRoot e z) to w rd loads looks =
    let i = instr.LoadRoot e z in
    subst (λ (r : Reg). Found t s d x m i r w) (let same : e ≡ to = cc in same) (subst (λ (v : Word). Found t s d x m i e v) (some_load (Cell z) w looks)
    (by_kind t s d x m i e (Cell z) _ (root_finds t.text e z m.mirror s.source (kind_right m.walk.method (erased_of t rd.owes.standing.plan) x.entry.hand.at i rd.here) rd.owes.standing.holds.holds.typed)
    (rd.owes.standing.holds.holds.store.root z) (found_clear t s since d x m i e rd refl) (rd.owes.standing.holds.holds.store.top z)))
finds t s since d x m (instr.LoadPick e z n a) to w rd loads looks =
    let i = instr.LoadPick e z n a in
    let same : number_in x.entry.hand.registers a ≡ number_in m.mirror a = numbers_agree t.home x.entry.hand.registers m.mirror a (rd.owes.walks.agree a) in
    let one : are_roots_of_one_kind t.text.roots z n ≡ true = not-false (are_roots_of_one_kind t.text.roots z n) (false_from_ne_true _ (λ wrong. keeps_at rd.owes.standing.plan.normal rd.owes.standing.plan.erases m.walk.method N13 x.entry.hand.at i rd.here wrong)) in
    let place : ℕ = z + remainder (number_in m.mirror a) n in
    subst (λ (r : Reg). Found t s d x m i r w) (let same : e ≡ to = cc in same) (subst (λ (v : Word). Found t s d x m i e v) (ap (λ (k : ℕ). Cell (z + remainder k n)) (sym same) ∙ some_load (Cell (z + remainder (number_in x.entry.hand.registers a) n)) w looks)
    (by_kind t s d x m i e (Cell (z + remainder (number_in m.mirror a) n)) _ (pick_finds t.text e z n a m.mirror s.source (kind_right m.walk.method (erased_of t rd.owes.standing.plan) x.entry.hand.at i rd.here) one rd.owes.standing.holds.holds.typed)
    (rd.owes.standing.holds.holds.store.root (z + remainder (number_in m.mirror a) n)) (found_clear t s since d x m i e rd refl) (rd.owes.standing.holds.holds.store.top (z + remainder (number_in m.mirror a) n))))
finds t s since d x m (instr.LoadField e a f) to w rd loads looks =
    let i = instr.LoadField e a f in
    let y : Reference = reference_in m.mirror a in
    let g : ℕ = place_of t.text.fields f in
    let same_fields : t.target.fields ≡ t.text.fields = ap (λ (text : Text). text.fields) rd.owes.standing.plan.erases in
    let held = field_finds t.text e a f m.mirror s.source (kind_right m.walk.method (erased_of t rd.owes.standing.plan) x.entry.hand.at i rd.here) rd.asked rd.owes.standing.holds.holds.typed in
    let slot : (reference_in x.entry.hand.registers a).node ≡ t.home y.node = (references_agree t.home x.entry.hand.registers m.mirror a rd.owes.standing.plan.null (rd.owes.walks.agree a)).0 in
    let looked : FieldOf (t.home y.node) g ≡ w =
    ap (λ (j : ℕ). FieldOf j g) (sym slot) ∙ (ap (λ (fields : List FieldDecl). FieldOf (slot_in x.entry.hand.registers a) (place_of fields f)) (sym same_fields)
    ∙ some_load (FieldOf (slot_in x.entry.hand.registers a) (place_of t.target.fields f)) w looks) in
    subst (λ (r : Reg). Found t s d x m i r w) (let same : e ≡ to = cc in same) (subst (λ (v : Word). Found t s d x m i e v) looked
    (by_kind t s d x m i e (FieldOf (t.home y.node) g) _ held
    (field_word t (reckoned s since) y f rd.owes.standing.plan.null rd.owes.standing.holds.holds (field_inside t.text s.source m.mirror a f held.0 rd.owes.standing.holds.holds.typed rd.asked held.1) (base_is_here t s since d x m i a rd))
    (found_clear t s since d x m i e rd refl)
    (field_known t (reckoned s since) y f rd.owes.standing.plan.null rd.owes.standing.holds.holds)))
finds t s since d x m _ to w rd loads looks = absurd (let never : None ≡ Some to = loads in cc)
