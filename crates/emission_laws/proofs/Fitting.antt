-- What the laws ask of instructions holds in each target that callers may run.
use Rattle.std.proofs.Common.{◌≡◌, ◌⊎◌, ℕ, zero, suc, ◌+◌, ◌≤◌, ◌<◌, ◌^◌, Bool, true, false, ◌&&◌, ◌||◌, not, ◌==◌, List, [], ◌∷◌, length, Option, Some, None, refl, sym, ◌∙◌, ap, subst, arith, inl, inr}
use Rattle.std.specs.Prelude.{slice_get, nat_lt, nat_le, take, drop, option_map, unwrap_or}
use Rattle.std.proofs.lemmas.Bool.{and_parts, ltb-true, leb-true}
use Rattle.std.specs.List.{list_all}
use Rattle.std.proofs.lemmas.Bool.Decides.{nat_tests}
use Rattle.std.proofs.lemmas.Option.{slice_get-map}
use Rattle.norm_lang.specs.declared.text.Reg.{Reg}
use Rattle.norm_lang.specs.declared.text.Reg.TheVariants.{Num, Ref}
use Rattle.norm_lang.specs.declared.text.FieldKind.{FieldKind}
use Rattle.norm_lang.specs.declared.text.FieldKind.TheVariants as holdings
use Rattle.norm_lang.specs.declared.text.FieldDecl.{FieldDecl}
use Rattle.norm_lang.specs.declared.text.RootDecl.{RootDecl}
use Rattle.norm_lang.specs.declared.text.Instr.{Instr}
use Rattle.norm_lang.specs.declared.text.Instr.TheVariants as instr
use Rattle.norm_lang.specs.declared.text.Text.{Text}
use Rattle.norm_lang.specs.declared.text.Place.TheVariants as places
use Rattle.norm_lang.specs.declared.registers.Registers.{Registers}
use Rattle.norm_lang.specs.Registers.{number_in}
use Rattle.norm_lang.specs.LineWords.{is_owner}
use Rattle.norm_lang.specs.RegisterUse.{same_register}
use Rattle.norm_lang.specs.Local.{Spot, local_step, remainder}
use Rattle.norm_lang.specs.Limits.{is_register, is_instr, is_number, is_target}
use Rattle.norm_lang.specs.InstructionRules.{has_wrong_kind, computes_on_reference, has_wrong_range, are_roots_of_one_kind, is_of_kind, same_kind, is_unlike, field_kind, root_kind}
use Rattle.norm_lang.specs.Kinds.{asks, asks_object, refers}
use Rattle.norm_lang.specs.KindFields.{owner_of, place_of, fields_of}
use Rattle.norm_lang.proofs.FieldPlaces.{place_finds}
use Rattle.target_code.specs.declared.target.TargetInstr.{TargetInstr}
use Rattle.target_code.specs.declared.target.TargetInstr.TheVariants.{Plain, Guard}
use Rattle.target_code.specs.declared.target.TargetOp.{TargetOp}
use Rattle.target_code.specs.declared.target.Target.{Target}
use Rattle.target_code.specs.Erasing.{erased_op}
use Rattle.target_code.specs.TargetLimits.{is_target_instr}
use Rattle.target_laws.specs.Methods.{Method}
use Rattle.target_laws.specs.target_runs.Runnable.{MayBeWalked}
use Rattle.target_laws.proofs.Filled.{item_passes}
use Rattle.target_laws.proofs.Forms.{instructions_are_in_form}
use Rattle.target_laws.proofs.target_runs.Limited.{op_limits}
use Rattle.kind_laws.proofs.InText.{asked_kinds_are_named}
use Rattle.oa_words.specs.Words.{Cell, FieldOf}
use Rattle.oa_words.specs.SlotKinds.{kind_of, IsNullOrOf}
use Rattle.phase_pools.specs.Accesses.{WordAccess, Loads}
use Rattle.caller_parts.specs.declared.routine.Routine.{Routine}
use Rattle.caller_parts.specs.declared.routine.Routine.TheVariants.{At}
use Rattle.caller_parts.specs.Settings.{Setting}
use Rattle.caller_parts.specs.Operands.{slot_in, method_code, code_at, instr_at}
use Rattle.caller_steps.specs.Entries.{Entry, instr_in, op_of}
use Rattle.caller_steps.specs.Wants.{wants}
use Rattle.caller_steps.specs.Lawful.{MayBeTold, IsLawful, LawfulValue, held_at}
use Rattle.caller_steps.specs.Belongs.{Belongs, HaveKinds, RunsWithKinds}
use Rattle.c_language.specs.Steps.{Pool}
use Rattle.c_emission.specs.Exchanges.{kind_of_field}
use Rattle.emission_laws.specs.Making.{RunsFor, HasNumber, FitsIn, TellsFitting}
use Rattle.emission_laws.specs.Accesses.{HasField}
use Rattle.emission_laws.specs.Locals.{FitsLocal, AllFit}
use Rattle.emission_laws.specs.Fitting.{FitsAccess, FitsGuard, InstructionsFit}
use Rattle.emission_laws.proofs.Sides.{wants_at, slots_small}

-- ---- registers

numbered : (r : Reg) → is_register r ≡ true → HasNumber r
numbered (Num r) is = ltb-true r 8 is
numbered (Ref r) is = ltb-true r 8 is

two : (a b : Reg) → (is_register a && is_register b) ≡ true → HasNumber a × HasNumber b
two a b is = let parts = and_parts (is_register a) (is_register b) is in (numbered a parts.0, numbered b parts.1)

three : (a b c : Reg) → (is_register a && (is_register b && is_register c)) ≡ true → HasNumber a × HasNumber b × HasNumber c
three a b c is =
    let parts = and_parts (is_register a) (is_register b && is_register c) is in
    let rest = two b c parts.1 in (numbered a parts.0, rest.0, rest.1)

two_and : (a b : Reg) (rest : Bool) → (is_register a && (is_register b && rest)) ≡ true → HasNumber a × HasNumber b
two_and a b rest is =
    let parts = and_parts (is_register a) (is_register b && rest) is in
    let more = and_parts (is_register b) rest parts.1 in (numbered a parts.0, numbered b more.0)

some_of : (n : ℕ) (rest : Bool) → (nat_le 1 n && rest) ≡ true → 1 ≤ n
some_of zero rest is = absurd (let no : ⊥ = cc in no)
some_of (suc n) rest is = omega arith

-- ---- local instructions

local_fits : (kinds fields roots : ℕ) (fs : List FieldDecl) (rs : List RootDecl) (i : Instr) (at : ℕ) (registers : Registers) (spot : Spot) → is_instr kinds fields roots i ≡ true
    → has_wrong_kind fs rs i ≡ false → computes_on_reference i ≡ false → local_step i at registers ≡ Some spot → FitsLocal i
local_fits kinds fields roots fs rs (instr.Set (Num d) n) at registers spot limits kind computes is = numbered (Num d) (and_parts (is_register (Num d)) (is_number n) limits).0
local_fits kinds fields roots fs rs (instr.Set (Ref d) n) at registers spot limits kind computes is = absurd (let no : ⊥ = cc in no)
local_fits kinds fields roots fs rs (instr.Mov (Num d) (Num a)) at registers spot limits kind computes is = two (Num d) (Num a) limits
local_fits kinds fields roots fs rs (instr.Mov (Num d) (Ref a)) at registers spot limits kind computes is = absurd (let no : ⊥ = cc in no)
local_fits kinds fields roots fs rs (instr.Mov (Ref d) (Num a)) at registers spot limits kind computes is = absurd (let no : ⊥ = cc in no)
local_fits kinds fields roots fs rs (instr.Mov (Ref d) (Ref a)) at registers spot limits kind computes is = two (Ref d) (Ref a) limits
local_fits kinds fields roots fs rs (instr.Add (Ref d) a b) at registers spot limits kind computes is = absurd (let no : ⊥ = cc in no)
local_fits kinds fields roots fs rs (instr.Add (Num d) (Ref a) b) at registers spot limits kind computes is = absurd (let no : ⊥ = cc in no)
local_fits kinds fields roots fs rs (instr.Add (Num d) (Num a) (Ref b)) at registers spot limits kind computes is = absurd (let no : ⊥ = cc in no)
local_fits kinds fields roots fs rs (instr.Add (Num d) (Num a) (Num b)) at registers spot limits kind computes is = three (Num d) (Num a) (Num b) limits
local_fits kinds fields roots fs rs (instr.Sub (Ref d) a b) at registers spot limits kind computes is = absurd (let no : ⊥ = cc in no)
local_fits kinds fields roots fs rs (instr.Sub (Num d) (Ref a) b) at registers spot limits kind computes is = absurd (let no : ⊥ = cc in no)
local_fits kinds fields roots fs rs (instr.Sub (Num d) (Num a) (Ref b)) at registers spot limits kind computes is = absurd (let no : ⊥ = cc in no)
local_fits kinds fields roots fs rs (instr.Sub (Num d) (Num a) (Num b)) at registers spot limits kind computes is = three (Num d) (Num a) (Num b) limits
local_fits kinds fields roots fs rs (instr.Rem (Ref d) a n) at registers spot limits kind computes is = absurd (let no : ⊥ = cc in no)
local_fits kinds fields roots fs rs (instr.Rem (Num d) (Ref a) n) at registers spot limits kind computes is = absurd (let no : ⊥ = cc in no)
local_fits kinds fields roots fs rs (instr.Rem (Num d) (Num a) n) at registers spot limits kind computes is =
    let both = two_and (Num d) (Num a) (nat_le 1 n && is_number n) limits in
    let rest = and_parts (is_register (Num d)) (is_register (Num a) && (nat_le 1 n && is_number n)) limits in
    (both.0, both.1, some_of n (is_number n) (and_parts (is_register (Num a)) (nat_le 1 n && is_number n) rest.1).1)
local_fits kinds fields roots fs rs (instr.Null (Num d)) at registers spot limits kind computes is = absurd (let no : ⊥ = cc in no)
local_fits kinds fields roots fs rs (instr.Null (Ref d)) at registers spot limits kind computes is = numbered (Ref d) limits
local_fits kinds fields roots fs rs (instr.Mark (Num d) a) at registers spot limits kind computes is = absurd (let no : ⊥ = cc in no)
local_fits kinds fields roots fs rs (instr.Mark (Ref d) (Num a)) at registers spot limits kind computes is = absurd (let no : ⊥ = cc in no)
local_fits kinds fields roots fs rs (instr.Mark (Ref d) (Ref a)) at registers spot limits kind computes is = two (Ref d) (Ref a) limits
local_fits kinds fields roots fs rs (instr.Unmark (Num d) a) at registers spot limits kind computes is = absurd (let no : ⊥ = cc in no)
local_fits kinds fields roots fs rs (instr.Unmark (Ref d) (Num a)) at registers spot limits kind computes is = absurd (let no : ⊥ = cc in no)
local_fits kinds fields roots fs rs (instr.Unmark (Ref d) (Ref a)) at registers spot limits kind computes is = two (Ref d) (Ref a) limits
local_fits kinds fields roots fs rs (instr.Jump l) at registers spot limits kind computes is = tt
local_fits kinds fields roots fs rs (instr.IfEq (Num a) (Num b) l) at registers spot limits kind computes is = two_and (Num a) (Num b) (is_target l) limits
local_fits kinds fields roots fs rs (instr.IfEq (Num a) (Ref b) l) at registers spot limits kind computes is = absurd (let no : ⊥ = cc in no)
local_fits kinds fields roots fs rs (instr.IfEq (Ref a) (Num b) l) at registers spot limits kind computes is = absurd (let no : ⊥ = cc in no)
local_fits kinds fields roots fs rs (instr.IfEq (Ref a) (Ref b) l) at registers spot limits kind computes is = two_and (Ref a) (Ref b) (is_target l) limits
local_fits kinds fields roots fs rs (instr.IfLess (Ref a) b l) at registers spot limits kind computes is = absurd (let no : ⊥ = cc in no)
local_fits kinds fields roots fs rs (instr.IfLess (Num a) (Ref b) l) at registers spot limits kind computes is = absurd (let no : ⊥ = cc in no)
local_fits kinds fields roots fs rs (instr.IfLess (Num a) (Num b) l) at registers spot limits kind computes is = two_and (Num a) (Num b) (is_target l) limits
local_fits kinds fields roots fs rs (instr.IfMarked (Num a) l) at registers spot limits kind computes is = absurd (let no : ⊥ = cc in no)
local_fits kinds fields roots fs rs (instr.IfMarked (Ref a) l) at registers spot limits kind computes is = numbered (Ref a) (and_parts (is_register (Ref a)) (is_target l) limits).0
local_fits kinds fields roots fs rs (instr.LoadRoot d x) at registers spot limits kind computes is = absurd (let z : None ≡ Some spot = is in let no : ⊥ = cc in no)
local_fits kinds fields roots fs rs (instr.LoadPick d x count a) at registers spot limits kind computes is = absurd (let z : None ≡ Some spot = is in let no : ⊥ = cc in no)
local_fits kinds fields roots fs rs (instr.LoadField d a f) at registers spot limits kind computes is = absurd (let z : None ≡ Some spot = is in let no : ⊥ = cc in no)
local_fits kinds fields roots fs rs (instr.New d k) at registers spot limits kind computes is = absurd (let z : None ≡ Some spot = is in let no : ⊥ = cc in no)
local_fits kinds fields roots fs rs (instr.Put a f b) at registers spot limits kind computes is = absurd (let z : None ≡ Some spot = is in let no : ⊥ = cc in no)
local_fits kinds fields roots fs rs (instr.Cas exchange l) at registers spot limits kind computes is = absurd (let z : None ≡ Some spot = is in let no : ⊥ = cc in no)
local_fits kinds fields roots fs rs (instr.Commit exchanges) at registers spot limits kind computes is = absurd (let z : None ≡ Some spot = is in let no : ⊥ = cc in no)
local_fits kinds fields roots fs rs (instr.Return a) at registers spot limits kind computes is = absurd (let z : None ≡ Some spot = is in let no : ⊥ = cc in no)
local_fits kinds fields roots fs rs instr.ReturnNone at registers spot limits kind computes is = absurd (let z : None ≡ Some spot = is in let no : ⊥ = cc in no)
local_fits kinds fields roots fs rs instr.Again at registers spot limits kind computes is = absurd (let z : None ≡ Some spot = is in let no : ⊥ = cc in no)

-- ---- accesses

access_fits : (kinds fields roots : ℕ) (fs : List FieldDecl) (rs : List RootDecl) (i : Instr) → is_instr kinds fields roots i ≡ true → has_wrong_kind fs rs i ≡ false → computes_on_reference i ≡ false
    → FitsAccess fields i
access_fits kinds fields roots fs rs (instr.LoadRoot d x) limits kind computes = numbered d (and_parts (is_register d) (nat_lt x roots) limits).0
access_fits kinds fields roots fs rs (instr.LoadPick d x n (Ref a)) limits kind computes = let no : ⊥ = cc in no
access_fits kinds fields roots fs rs (instr.LoadPick d x n (Num a)) limits kind computes =
    let one = and_parts (is_register d) _ limits in
    let more = and_parts (nat_lt x roots) _ one.1 in
    let last = and_parts _ (is_register (Num a)) more.1 in
    (numbered d one.0, numbered (Num a) last.1, some_of n _ last.0)
access_fits kinds fields roots fs rs (instr.LoadField d (Num a) f) limits kind computes = let no : ⊥ = cc in no
access_fits kinds fields roots fs rs (instr.LoadField d (Ref a) f) limits kind computes =
    let one = and_parts (is_register d) _ limits in
    let more = and_parts (is_register (Ref a)) (nat_lt f fields) one.1 in
    (numbered d one.0, numbered (Ref a) more.0, ltb-true f fields more.1)
access_fits kinds fields roots fs rs (instr.Put (Num a) f b) limits kind computes = let no : ⊥ = cc in no
access_fits kinds fields roots fs rs (instr.Put (Ref a) f b) limits kind computes =
    let one = and_parts (is_register (Ref a)) _ limits in
    let more = and_parts (nat_lt f fields) (is_register b) one.1 in
    (numbered b more.1, numbered (Ref a) one.0, ltb-true f fields more.0)
access_fits kinds fields roots fs rs (instr.Set d n) limits kind computes = tt
access_fits kinds fields roots fs rs (instr.Mov d a) limits kind computes = tt
access_fits kinds fields roots fs rs (instr.Add d a b) limits kind computes = tt
access_fits kinds fields roots fs rs (instr.Sub d a b) limits kind computes = tt
access_fits kinds fields roots fs rs (instr.Rem d a n) limits kind computes = tt
access_fits kinds fields roots fs rs (instr.Mark d a) limits kind computes = tt
access_fits kinds fields roots fs rs (instr.Unmark d a) limits kind computes = tt
access_fits kinds fields roots fs rs (instr.Null d) limits kind computes = tt
access_fits kinds fields roots fs rs (instr.New d k) limits kind computes = tt
access_fits kinds fields roots fs rs (instr.Cas exchange l) limits kind computes = tt
access_fits kinds fields roots fs rs (instr.Jump l) limits kind computes = tt
access_fits kinds fields roots fs rs (instr.IfEq a b l) limits kind computes = tt
access_fits kinds fields roots fs rs (instr.IfLess a b l) limits kind computes = tt
access_fits kinds fields roots fs rs (instr.IfMarked a l) limits kind computes = tt
access_fits kinds fields roots fs rs (instr.Commit exchanges) limits kind computes = tt
access_fits kinds fields roots fs rs (instr.Return a) limits kind computes = tt
access_fits kinds fields roots fs rs instr.ReturnNone limits kind computes = tt
access_fits kinds fields roots fs rs instr.Again limits kind computes = tt

-- whether a root or field holds what is held, numbers or references
abbrev of_kind : Option FieldKind → FieldKind → Bool
of_kind None held = false
of_kind (Some kind) held = same_kind kind held

-- ---- the instructions of a target

module _ (target : Target) (text : Text) (walked : MayBeWalked target text) where
  abbrev method_of : (op : ℕ) (wrapup : Bool) (compiled : TargetOp) → slice_get target.ops op ≡ Some compiled → Method target text
  method_of op wrapup compiled is = record {
    number = op;
    wrapup = wrapup;
    op = erased_op compiled;
    compiled = compiled;
    in_text = ap (λ (t : Text). slice_get t.ops op) (sym walked.erases) ∙ (slice_get-map erased_op target.ops op ∙ ap (option_map erased_op) is);
    in_target = is;
  }

  limits_of : (op : ℕ) (wrapup : Bool) (at : ℕ) (i : TargetInstr) (o : Option TargetOp) → slice_get target.ops op ≡ o → slice_get (method_code o wrapup) at ≡ Some i
      → is_target_instr (length target.kinds) (length target.fields) (length target.roots) i ≡ true
  limits_of op wrapup at i None is there = absurd (let z : None ≡ Some i = there in let no : ⊥ = cc in no)
  limits_of op wrapup at i (Some compiled) is there =
      item_passes (is_target_instr (length target.kinds) (length target.fields) (length target.roots)) (method_code (Some compiled) wrapup) at i (op_limits target op compiled wrapup walked.within is).each there

  pub limits_at : (op : ℕ) (wrapup : Bool) (at : ℕ) (i : TargetInstr) → instr_at target op wrapup at ≡ Some i → is_target_instr (length target.kinds) (length target.fields) (length target.roots) i ≡ true
  limits_at op wrapup at i there = limits_of op wrapup at i (slice_get target.ops op) refl there

  form_of : (op : ℕ) (wrapup : Bool) (at : ℕ) (i : Instr) (o : Option TargetOp) → slice_get target.ops op ≡ o → slice_get (method_code o wrapup) at ≡ Some (Plain i)
      → (has_wrong_kind target.fields target.roots i ≡ false) × (computes_on_reference i ≡ false) × ((count : ℕ) × (has_wrong_range target.roots i count ≡ false))
  form_of op wrapup at i None is there = absurd (let z : None ≡ Some (Plain i) = there in let no : ⊥ = cc in no)
  form_of op wrapup at i (Some compiled) is there =
      let form = instructions_are_in_form target text walked.normal walked.erases (method_of op wrapup compiled is) at i there in (
        subst (λ (t : Text). has_wrong_kind t.fields t.roots i ≡ false) (sym walked.erases) form.kinds,
        form.numbers,
        (length (method_code (Some compiled) wrapup), subst (λ (t : Text). has_wrong_range t.roots i (length (method_code (Some compiled) wrapup)) ≡ false) (sym walked.erases) form.range),
      )

  pub form_at : (op : ℕ) (wrapup : Bool) (at : ℕ) (i : Instr) → instr_at target op wrapup at ≡ Some (Plain i) → (has_wrong_kind target.fields target.roots i ≡ false) × (computes_on_reference i ≡ false) × ((count : ℕ) × (has_wrong_range target.roots i count ≡ false))
  form_at op wrapup at i there = form_of op wrapup at i (slice_get target.ops op) refl there

  named_of : (setting : Setting) (op : ℕ) (wrapup : Bool) (at : ℕ) (i : Instr) (registers : Registers) (r k : ℕ) (o : Option TargetOp) → slice_get target.ops op ≡ o → slice_get (method_code o wrapup) at ≡ Some (Plain i)
      → asks target.fields target.roots i r k ≡ true → HaveKinds target setting o wrapup at registers → (slot_in registers (Ref r) ≡ 0) ⊎ (kind_of setting.sizes (slot_in registers (Ref r)) ≡ k)
  named_of setting op wrapup at i registers r k None is there asked have = absurd (let z : None ≡ Some (Plain i) = there in let no : ⊥ = cc in no)
  named_of setting op wrapup at i registers r k (Some compiled) is there asked have =
      asked_kinds_are_named (kind_of setting.sizes) target text walked.normal walked.erases (method_of op wrapup compiled is) at i registers r k there asked have

  locals_fit : (op : ℕ) (wrapup : Bool) → AllFit (code_at target op wrapup)
  locals_fit op wrapup at i registers spot there is =
      let form = form_at op wrapup at i there in
      local_fits (length target.kinds) (length target.fields) (length target.roots) target.fields target.roots i at registers spot (limits_at op wrapup at (Plain i) there) form.0 form.1 is

  accesses_fit : (op : ℕ) (wrapup : Bool) (at : ℕ) (i : Instr) → instr_at target op wrapup at ≡ Some (Plain i) → FitsAccess (length target.fields) i
  accesses_fit op wrapup at i there =
      let form = form_at op wrapup at i there in
      access_fits (length target.kinds) (length target.fields) (length target.roots) target.fields target.roots i (limits_at op wrapup at (Plain i) there) form.0 form.1

guard_fits : (kinds fields roots : ℕ) (r : Reg) → is_target_instr kinds fields roots (Guard r) ≡ true → FitsGuard r
guard_fits kinds fields roots (Num r) is = let no : ⊥ = cc in no
guard_fits kinds fields roots (Ref r) is = ltb-true r 8 is

-- ---- objects

some_owner : (fields : List FieldDecl) (f : ℕ) → f < length fields → owner_of fields f ≡ Some (kind_of_field fields f)
some_owner fields f low = of (slice_get fields f) refl where
  missing : (xs : List FieldDecl) (i : ℕ) → i < length xs → slice_get xs i ≡ None → ⊥
  missing [] i lt none = absurd (omega (arith, lt))
  missing (x ∷ xs) zero lt none = let no : Some x ≡ None = none in cc
  missing (x ∷ xs) (suc i) lt none = missing xs i (omega (arith, lt)) none

  of : (o : Option FieldDecl) → slice_get fields f ≡ o → owner_of fields f ≡ Some (kind_of_field fields f)
  of None is = absurd (missing fields f low is)
  of (Some field) is =
      ap (option_map (λ (x : FieldDecl). x.owner)) is ∙ sym (ap (λ (o : Option FieldDecl). Some (unwrap_or (option_map (λ (x : FieldDecl). x.owner) o) 0)) is)

kinds_at : (target : Target) (setting : Setting) (e : Entry) → Belongs target setting e → e.routine ≡ At → HaveKinds target setting (op_of target e) e.hand.wrapup e.hand.at e.hand.registers
kinds_at target setting e belongs at = (subst (λ (r : Routine). RunsWithKinds target setting e r) at belongs.kinds).now

null_or_of : (setting : Setting) (k j : ℕ) → j ≤ setting.sizes.slots → (j ≡ 0) ⊎ (kind_of setting.sizes j ≡ k) → IsNullOrOf setting.sizes k j
null_or_of setting k zero le is = inl refl
null_or_of setting k (suc j) le (inl none) = inl none
null_or_of setting k (suc j) le (inr same) = inr (omega arith, le, same)

itself : (n : ℕ) → (n == n) ≡ true
itself n = grind (arith, nat_tests)

asked_object : (fields : List FieldDecl) (a f : ℕ) → f < length fields → asks_object fields (places.Field (Ref a) f) a (kind_of_field fields f) ≡ true
asked_object fields a f low =
    ap (λ (b : Bool). b && is_owner (owner_of fields f) (kind_of_field fields f)) (itself a)
    ∙ (ap (λ (o : Option ℕ). true && is_owner o (kind_of_field fields f)) (some_owner fields f low) ∙ ap (λ (b : Bool). true && b) (itself (kind_of_field fields f)))

object_fits : (target : Target) (text : Text) (setting : Setting) (e : Entry) (i : Instr) (a f : ℕ) → MayBeWalked target text → Belongs target setting e → e.routine ≡ At
    → instr_in target e ≡ Some (Plain i) → a < 8 → f < length target.fields → asks target.fields target.roots i a (kind_of_field target.fields f) ≡ true → HasField target setting e a f
object_fits target text setting e i a f walked belongs at is low declared asked = record {
  low = low;
  declared = declared;
  object = null_or_of setting (kind_of_field target.fields f) (slot_in e.hand.registers (Ref a)) (belongs.hand.registers.within a)
      (named_of target text walked setting e.running.call.op e.hand.wrapup e.hand.at i e.hand.registers a (kind_of_field target.fields f) (slice_get target.ops e.running.call.op) refl is asked (kinds_at target setting e belongs at));
}

loaded_fits : (target : Target) (text : Text) (setting : Setting) (e : Entry) (d : Reg) (a f : ℕ) → MayBeWalked target text → Belongs target setting e → e.routine ≡ At
    → instr_in target e ≡ Some (Plain (instr.LoadField d (Ref a) f)) → HasField target setting e a f
loaded_fits target text setting e d a f walked belongs at is =
    let fits = accesses_fit target text walked e.running.call.op e.hand.wrapup e.hand.at (instr.LoadField d (Ref a) f) is in
    object_fits target text setting e (instr.LoadField d (Ref a) f) a f walked belongs at is fits.1 fits.2 (asked_object target.fields a f fits.2)

put_fits : (target : Target) (text : Text) (setting : Setting) (e : Entry) (a f : ℕ) (b : Reg) → MayBeWalked target text → Belongs target setting e → e.routine ≡ At
    → instr_in target e ≡ Some (Plain (instr.Put (Ref a) f b)) → HasField target setting e a f
put_fits target text setting e a f b walked belongs at is =
    let fits = accesses_fit target text walked e.running.call.op e.hand.wrapup e.hand.at (instr.Put (Ref a) f b) is in
    object_fits target text setting e (instr.Put (Ref a) f b) a f walked belongs at is fits.1 fits.2
    (ap (λ (x : Bool). x || (same_register (Ref a) b && refers (field_kind target.fields f) (kind_of_field target.fields f))) (asked_object target.fields a f fits.2))

-- ---- words that are told

value_fits : (setting : Setting) (kind : Option FieldKind) (d : Reg) (word : ℕ) → setting.sizes.slots < 2 ^ 63 → is_unlike kind d ≡ false → LawfulValue setting.sizes kind word → FitsIn d word
value_fits setting kind (Num r) word few like lawful = tt
value_fits setting None (Ref r) word few like lawful = absurd (let no : ⊥ = cc in no)
value_fits setting (Some holdings.Number) (Ref r) word few like lawful = absurd (let no : ⊥ = cc in no)
value_fits setting (Some (holdings.Reference k)) (Ref r) word few like (inl none) = omega (arith, none)
value_fits setting (Some (holdings.Reference k)) (Ref r) word few like (inr slot) = (let within = slot.1 in omega (arith, within, few))

told_by : (target : Target) (setting : Setting) (e : Entry) (a : WordAccess) (word : ℕ) → wants target e ≡ Some a → MayBeTold target setting (wants target e) word → MayBeTold target setting (Some a) word
told_by target setting e a word is told = subst (λ (o : Option WordAccess). MayBeTold target setting o word) is told

root_tells : (pool : Pool) (target : Target) (text : Text) (setting : Setting) (e : Entry) (d : Reg) (x : ℕ) → MayBeWalked target text → RunsFor pool target setting e → e.routine ≡ At
    → instr_in target e ≡ Some (Plain (instr.LoadRoot d x)) → TellsFitting target setting e d
root_tells pool target text setting e d x walked runs at is word told =
    value_fits setting (root_kind target.roots x) d word (slots_small pool target setting e runs)
    (form_at target text walked e.running.call.op e.hand.wrapup e.hand.at (instr.LoadRoot d x) is).0
    (told_by target setting e (Loads (Cell x)) word (wants_at target e (Some (Plain (instr.LoadRoot d x))) at is) told)

kind_of_root : (kind : Option FieldKind) (root : RootDecl) → is_of_kind kind root ≡ true → of_kind kind root.kind ≡ true
kind_of_root None root is = is
kind_of_root (Some kind) root is = is

-- of so many roots from one on each is like the first
first_alike : (kind : Option FieldKind) (roots : List RootDecl) (n m : ℕ) (d : Reg) → list_all (is_of_kind kind) (take n roots) ≡ true → m < n → m < length roots → is_unlike kind d ≡ false
    → is_unlike (root_kind roots m) d ≡ false
first_alike kind [] n m d all low within like = absurd (omega (arith, within))
first_alike kind (root ∷ roots) zero m d all low within like = absurd (omega (arith, low))
first_alike kind (root ∷ roots) (suc n) zero d all low within like =
    alike kind root.kind d (kind_of_root kind root (and_parts (is_of_kind kind root) (list_all (is_of_kind kind) (take n roots)) all).0) like where
      alike : (kind : Option FieldKind) (held : FieldKind) (d : Reg) → of_kind kind held ≡ true → is_unlike kind d ≡ false → is_unlike (Some held) d ≡ false
      alike None held d same like = absurd (let no : ⊥ = cc in no)
      alike (Some holdings.Number) holdings.Number d same like = like
      alike (Some holdings.Number) (holdings.Reference k) d same like = absurd (let no : ⊥ = cc in no)
      alike (Some (holdings.Reference j)) holdings.Number d same like = absurd (let no : ⊥ = cc in no)
      alike (Some (holdings.Reference j)) (holdings.Reference k) d same like = like
first_alike kind (root ∷ roots) (suc n) (suc m) d all low within like =
    first_alike kind roots n m d (and_parts (is_of_kind kind root) (list_all (is_of_kind kind) (take n roots)) all).1 (omega (arith, low)) (omega (arith, within)) like

roots_alike : (kind : Option FieldKind) (roots : List RootDecl) (x n m : ℕ) (d : Reg) → list_all (is_of_kind kind) (take n (drop x roots)) ≡ true → m < n → x + m < length roots → is_unlike kind d ≡ false
    → is_unlike (root_kind roots (x + m)) d ≡ false
roots_alike kind [] x n m d all low within like = absurd (omega (arith, within))
roots_alike kind (root ∷ roots) zero n m d all low within like =
    subst (λ (k : ℕ). is_unlike (root_kind (root ∷ roots) k) d ≡ false) (let same : m ≡ 0 + m = omega arith in same) (first_alike kind (root ∷ roots) n m d all low (omega (arith, within)) like)
roots_alike kind (root ∷ roots) (suc x) n m d all low within like =
    subst (λ (k : ℕ). is_unlike (root_kind (root ∷ roots) k) d ≡ false) (let same : suc (x + m) ≡ suc x + m = omega arith in same) (roots_alike kind roots x n m d all low (omega (arith, within)) like)

rest_low : (n count : ℕ) → 1 ≤ count → remainder n count < count
rest_low n zero some = absurd (omega (arith, some))
rest_low n (suc count) some = omega arith

not_not : (b : Bool) → not b ≡ false → b ≡ true
not_not true is = refl
not_not false is = absurd (let no : ⊥ = cc in no)

pick_tells : (pool : Pool) (target : Target) (text : Text) (setting : Setting) (e : Entry) (d : Reg) (x count a : ℕ) → MayBeWalked target text → RunsFor pool target setting e → e.routine ≡ At
    → instr_in target e ≡ Some (Plain (instr.LoadPick d x count (Num a))) → TellsFitting target setting e d
pick_tells pool target text setting e d x count a walked runs at is word told =
    let form = form_at target text walked e.running.call.op e.hand.wrapup e.hand.at (instr.LoadPick d x count (Num a)) is in
    let fits = accesses_fit target text walked e.running.call.op e.hand.wrapup e.hand.at (instr.LoadPick d x count (Num a)) is in
    let one = and_parts (nat_le (x + count) (length target.roots)) (list_all (is_of_kind (root_kind target.roots x)) (take count (drop x target.roots))) (not_not (are_roots_of_one_kind target.roots x count) form.2.1) in
    let within : x + count ≤ length target.roots = leb-true (x + count) (length target.roots) one.0 in
    let low : remainder (number_in e.hand.registers (Num a)) count < count = rest_low (number_in e.hand.registers (Num a)) count fits.2 in
    value_fits setting (root_kind target.roots (x + remainder (number_in e.hand.registers (Num a)) count)) d word (slots_small pool target setting e runs)
    (roots_alike (root_kind target.roots x) target.roots x count (remainder (number_in e.hand.registers (Num a)) count) d one.1 low (omega (arith, within, low)) form.0)
    (told_by target setting e (Loads (Cell (x + remainder (number_in e.hand.registers (Num a)) count))) word (wants_at target e (Some (Plain (instr.LoadPick d x count (Num a)))) at is) told)

-- what a node has at a field's place is what the field holds
held_there : (target : Target) (f : ℕ) → f < length target.fields → held_at target (kind_of_field target.fields f) (place_of target.fields f) ≡ field_kind target.fields f
held_there target f low = of (slice_get target.fields f) refl where
  missing : (xs : List FieldDecl) (i : ℕ) → i < length xs → slice_get xs i ≡ None → ⊥
  missing [] i lt none = absurd (omega (arith, lt))
  missing (x ∷ xs) zero lt none = let no : Some x ≡ None = none in cc
  missing (x ∷ xs) (suc i) lt none = missing xs i (omega (arith, lt)) none

  of : (o : Option FieldDecl) → slice_get target.fields f ≡ o → held_at target (kind_of_field target.fields f) (place_of target.fields f) ≡ field_kind target.fields f
  of None is = absurd (missing target.fields f low is)
  of (Some field) is =
      ap (λ (k : ℕ). field_kind (fields_of k target.fields) (place_of target.fields f)) (ap (λ (o : Option FieldDecl). unwrap_or (option_map (λ (x : FieldDecl). x.owner) o) 0) is)
      ∙ (ap (option_map (λ (x : FieldDecl). x.kind)) (place_finds target.fields f field is) ∙ sym (ap (option_map (λ (x : FieldDecl). x.kind)) is))

field_fits : (target : Target) (setting : Setting) (d : Reg) (j f word : ℕ) → setting.sizes.slots < 2 ^ 63 → f < length target.fields → IsNullOrOf setting.sizes (kind_of_field target.fields f) j
    → is_unlike (field_kind target.fields f) d ≡ false → IsLawful target setting (FieldOf j (place_of target.fields f)) word → FitsIn d word
field_fits target setting d zero f word few low object like lawful = of d where
  of : (d : Reg) → FitsIn d word
  of (Num r) = tt
  of (Ref r) = omega (arith, lawful)
field_fits target setting d (suc j) f word few low (inl none) like lawful = absurd (omega (arith, none))
field_fits target setting d (suc j) f word few low (inr slot) like lawful =
    value_fits setting (field_kind target.fields f) d word few like
    (subst (λ (kind : Option FieldKind). LawfulValue setting.sizes kind word) (ap (λ (k : ℕ). held_at target k (place_of target.fields f)) slot.2 ∙ held_there target f low) lawful)

field_tells : (pool : Pool) (target : Target) (text : Text) (setting : Setting) (e : Entry) (d : Reg) (a f : ℕ) → MayBeWalked target text → RunsFor pool target setting e → e.routine ≡ At
    → instr_in target e ≡ Some (Plain (instr.LoadField d (Ref a) f)) → TellsFitting target setting e d
field_tells pool target text setting e d a f walked runs at is word told =
    let field = loaded_fits target text setting e d a f walked runs.belongs at is in
    field_fits target setting d (slot_in e.hand.registers (Ref a)) f word (slots_small pool target setting e runs) field.declared field.object
    (form_at target text walked e.running.call.op e.hand.wrapup e.hand.at (instr.LoadField d (Ref a) f) is).0
    (told_by target setting e (Loads (FieldOf (slot_in e.hand.registers (Ref a)) (place_of target.fields f))) word (wants_at target e (Some (Plain (instr.LoadField d (Ref a) f))) at is) told)

pub instructions_fit : InstructionsFit
instructions_fit = record {
  locals = λ target text op wrapup walked. locals_fit target text walked op wrapup;
  accesses = λ target text op wrapup at i walked there. accesses_fit target text walked op wrapup at i there;
  guards = λ target text op wrapup at r walked there. guard_fits (length target.kinds) (length target.fields) (length target.roots) r (limits_at target text walked op wrapup at (Guard r) there);
  loaded = loaded_fits;
  put = put_fits;
  roots = root_tells;
  picks = pick_tells;
  fields = field_tells;
}
