-- The methods of a target that callers may run, and what its setting gives.
use Rattle.std.proofs.Common.{◌≡◌, ℕ, zero, suc, ◌≤◌, ◌<◌, ◌⊎◌, Bool, true, false, List, [], ◌∷◌, length, Option, Some, None, refl, sym, ap, ◌∙◌, arith}
use Rattle.std.specs.Prelude.{slice_get, nat_lt, option_map}
use Rattle.std.proofs.lemmas.Bool.{and_parts, ltb-true}
use Rattle.std.proofs.lemmas.Option.{slice_get-map}
use Rattle.norm_lang.specs.declared.text.Reg.TheVariants.{Ref}
use Rattle.norm_lang.specs.declared.text.Instr.{Instr}
use Rattle.norm_lang.specs.declared.text.Instr.TheVariants as instr
use Rattle.norm_lang.specs.declared.text.Text.{Text}
use Rattle.norm_lang.specs.declared.registers.Registers.{Registers}
use Rattle.norm_lang.specs.Kinds.{asks}
use Rattle.norm_lang.specs.Limits.{is_register, are_fields}
use Rattle.target_code.specs.declared.target.TargetInstr.{TargetInstr}
use Rattle.target_code.specs.declared.target.TargetInstr.TheVariants.{Plain}
use Rattle.target_code.specs.declared.target.TargetOp.{TargetOp}
use Rattle.target_code.specs.declared.target.Target.{Target}
use Rattle.target_code.specs.Erasing.{erased_op}
use Rattle.target_code.specs.TargetLimits.{is_target_instr}
use Rattle.target_laws.specs.Methods.{Method}
use Rattle.target_laws.proofs.Filled.{item_passes}
use Rattle.kind_laws.proofs.InText.{asked_kinds_are_named}
use Rattle.oa_words.specs.Within.{AreKinds}
use Rattle.oa_words.specs.SlotKinds.{kind_of}
use Rattle.caller_parts.specs.Settings.{Setting, Fits, IsSetting}
use Rattle.caller_parts.specs.Operands.{method_code, code_at, instr_at, slot_in, is_new_at, kind_made}
use Rattle.caller_parts.proofs.News.{new_there}
use Rattle.caller_steps.specs.Entries.{zero_count}
use Rattle.caller_steps.specs.Asking.{NewsFit}
use Rattle.caller_steps.specs.Belongs.{HaveKinds}
use Rattle.target_laws.specs.target_runs.Runnable.{MayBeWalked}
use Rattle.target_laws.specs.target_runs.Sane.{SaneCode, Sane}
use Rattle.target_laws.proofs.target_runs.Limited.{parts, op_limits}
use Rattle.target_laws.proofs.target_runs.SaneTargets.{runnable_is_sane}
use Rattle.core_runs.proofs.caller_laws.Fields.{field_of_kind, fields_fit}

-- of each operation by its number; if the target has none with that number, its methods are empty
pub record Methods (target : Target) : Type 0 where
  pub ops : 0 < length target.ops
  pub some : (op : ℕ) (wrapup : Bool) → op < length target.ops → 0 < length (method_code (slice_get target.ops op) wrapup)
  pub code : (op : ℕ) (wrapup : Bool) → SaneCode target wrapup (method_code (slice_get target.ops op) wrapup)
  -- the nodes that are made are of kinds of the target
  pub news : (op : ℕ) (wrapup : Bool) (at : ℕ) → is_new_at (instr_at target op wrapup at) ≡ true → kind_made (instr_at target op wrapup at) < length target.kinds
  pub fields : are_fields (length target.kinds) target.fields ≡ true
  -- a register that has only kinds that it may have names null or a node of the kind that an instruction asks it to be of
  pub asked : (setting : Setting) (op : ℕ) (wrapup : Bool) (at : ℕ) (i : Instr) (registers : Registers) (r k : ℕ) → instr_at target op wrapup at ≡ Some (Plain i) → asks target.fields target.roots i r k ≡ true
      → HaveKinds target setting (slice_get target.ops op) wrapup at registers → (slot_in registers (Ref r) ≡ 0) ⊎ (kind_of setting.sizes (slot_in registers (Ref r)) ≡ k)

no_code : (target : Target) (wrapup : Bool) → SaneCode target wrapup []
no_code target wrapup = record {
  short = omega arith;
  news = omega arith;
  each = λ at i path is leads. absurd (let no : None ≡ Some i = is in cc);
  ends = λ spot. refl;
  puts = λ at a b f is. absurd (let no : None ≡ Some _ = is in cc);
}

past_none : (ops : List TargetOp) (k : ℕ) → slice_get ops k ≡ None → k < length ops → ⊥
past_none [] k is lt = omega (arith, lt)
past_none (x ∷ ops) zero is lt = cc
past_none (x ∷ ops) (suc k) is lt = past_none ops k is (omega (arith, lt))

-- the methods of sane operations are sane
pub sane_code : (target : Target) → Sane target → (op : ℕ) (wrapup : Bool) → SaneCode target wrapup (code_at target op wrapup)
sane_code target sane op wrapup = by (slice_get target.ops op) refl
  where
    by : (o : Option TargetOp) → slice_get target.ops op ≡ o → SaneCode target wrapup (method_code o wrapup)
    by None is = no_code target wrapup
    by (Some compiled) is = sane.method op wrapup compiled is

-- a `new` to which the limits of its method apply makes a node of one of the target's kinds
kind_within : (target : Target) (o : Option TargetInstr) → ((i : TargetInstr) → o ≡ Some i → is_target_instr (length target.kinds) (length target.fields) (length target.roots) i ≡ true)
    → is_new_at o ≡ true → kind_made o < length target.kinds
kind_within target o each new =
    let there = new_there o new in
    let limits = each (Plain (instr.New there.0 there.1)) there.2 in
    let same : kind_made o ≡ there.1 = ap kind_made there.2 in
    let lt = ltb-true there.1 (length target.kinds) (and_parts (is_register there.0) (nat_lt there.1 (length target.kinds)) limits).1 in
    omega (arith, same, lt)

module _ (target : Target) (text : Text) (runs : MayBeWalked target text) where
  filled : (op : ℕ) (wrapup : Bool) (o : Option TargetOp) → slice_get target.ops op ≡ o → op < length target.ops → 0 < length (method_code o wrapup)
  filled op wrapup None is lt = absurd (past_none target.ops op is lt)
  filled op wrapup (Some compiled) is lt = (runnable_is_sane target text runs).some op wrapup compiled is

  news_known : (op : ℕ) (wrapup : Bool) (at : ℕ) (o : Option TargetOp) → slice_get target.ops op ≡ o → is_new_at (slice_get (method_code o wrapup) at) ≡ true → kind_made (slice_get (method_code o wrapup) at) < length target.kinds
  news_known op wrapup at None is new = absurd (let no : false ≡ true = new in cc)
  news_known op wrapup at (Some compiled) is new =
      kind_within target (slice_get (method_code (Some compiled) wrapup) at)
      (λ i there. item_passes (is_target_instr (length target.kinds) (length target.fields) (length target.roots)) (method_code (Some compiled) wrapup) at i (op_limits target op compiled wrapup runs.within is).each there) new

  abbrev method_of : (op : ℕ) (wrapup : Bool) (compiled : TargetOp) → slice_get target.ops op ≡ Some compiled → Method target text
  method_of op wrapup compiled is = record {
    number = op;
    wrapup = wrapup;
    op = erased_op compiled;
    compiled = compiled;
    in_text = ap (λ (t : Text). slice_get t.ops op) (sym runs.erases) ∙ (slice_get-map erased_op target.ops op ∙ ap (option_map erased_op) is);
    in_target = is;
  }

  asked_of : (setting : Setting) (op : ℕ) (wrapup : Bool) (at : ℕ) (i : Instr) (registers : Registers) (r k : ℕ) (o : Option TargetOp) → slice_get target.ops op ≡ o → slice_get (method_code o wrapup) at ≡ Some (Plain i)
      → asks target.fields target.roots i r k ≡ true → HaveKinds target setting o wrapup at registers → (slot_in registers (Ref r) ≡ 0) ⊎ (kind_of setting.sizes (slot_in registers (Ref r)) ≡ k)
  asked_of setting op wrapup at i registers r k None is stands asked have = absurd (let no : None ≡ Some (Plain i) = stands in cc)
  asked_of setting op wrapup at i registers r k (Some compiled) is stands asked have =
      asked_kinds_are_named (kind_of setting.sizes) target text runs.normal runs.erases (method_of op wrapup compiled is) at i registers r k stands asked have

  pub methods_of : Methods target
  methods_of = record {
    ops = (runnable_is_sane target text runs).ops;
    some = λ op wrapup lt. filled op wrapup (slice_get target.ops op) refl lt;
    code = sane_code target (runnable_is_sane target text runs);
    news = λ op wrapup at new. news_known op wrapup at (slice_get target.ops op) refl new;
    fields = (parts target runs.within).fields;
    asked = λ setting op wrapup at i registers r k stands asked have. asked_of setting op wrapup at i registers r k (slice_get target.ops op) refl stands asked have;
  }

-- there is a slot, a field and a phase, each slot has room on top of a head, and the kinds share the slots out
pub record SettingSane (setting : Setting) : Type 0 where
  pub slots : 1 ≤ setting.sizes.slots
  pub few : setting.sizes.slots < setting.sizes.tops
  pub fields : 1 ≤ setting.sizes.fields
  pub phases : setting.first ≤ setting.last
  pub kinds : AreKinds setting.sizes

pub setting_sane : (setting : Setting) → IsSetting setting → SettingSane setting
setting_sane setting own = record { slots = own.sizes.slots; few = own.sizes.tops; fields = own.sizes.fields; phases = own.phases; kinds = own.sizes.kinds }

-- a `new` makes a node of one of the row's kinds, of which there are at most four
pub new_fits : (target : Target) (setting : Setting) (op : ℕ) (wrapup : Bool) (at : ℕ) → Methods target → SettingSane setting → Fits target setting → is_new_at (instr_at target op wrapup at) ≡ true
    → (kind_made (instr_at target op wrapup at) < length setting.sizes.kinds) × (kind_made (instr_at target op wrapup at) < 4)
new_fits target setting op wrapup at sane some fits new =
    let lt = sane.news op wrapup at new in let same = fits.kinds in let few = some.kinds.few in (omega (arith, lt, same), omega (arith, lt, same, few))

-- it stores 0 to a field or more, and each of them is in the row
pub zero_count_fits : (target : Target) (setting : Setting) (op : ℕ) (wrapup : Bool) (at : ℕ) → Methods target → Fits target setting → is_new_at (instr_at target op wrapup at) ≡ true
    → (1 ≤ zero_count target (instr_at target op wrapup at)) × (zero_count target (instr_at target op wrapup at) ≤ setting.sizes.fields)
zero_count_fits target setting op wrapup at sane fits new =
    let lt = sane.news op wrapup at new in
    let kind = kind_made (instr_at target op wrapup at) in
    (field_of_kind (length target.kinds) target.fields kind sane.fields lt, fields_fit target setting kind fits lt)

-- any other instruction counts to the first kind
kind_of_others : (o : Option TargetInstr) → is_new_at o ≡ false → kind_made o ≡ 0
kind_of_others (Some (Plain (instr.New d kind))) is = absurd (let no : true ≡ false = is in cc)
kind_of_others _ is = refl

pub news_fit : (target : Target) (setting : Setting) → Methods target → SettingSane setting → Fits target setting → NewsFit target setting.sizes
news_fit target setting sane some fits op wrapup at = of (is_new_at (instr_at target op wrapup at)) refl
  where
    of : (b : Bool) → is_new_at (instr_at target op wrapup at) ≡ b → kind_made (instr_at target op wrapup at) < length setting.sizes.kinds
    of true new = (new_fits target setting op wrapup at sane some fits new).0
    of false other = let none = kind_of_others (instr_at target op wrapup at) other in let several = some.kinds.some in omega (arith, none, several)
