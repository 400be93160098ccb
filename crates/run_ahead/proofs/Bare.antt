-- Control goes in a text as a target as it does in the text.
use Rattle.std.proofs.Common.{ℕ, ◌≡◌, ◌<◌, ◌∙◌, Bool, true, false, ◌&&◌, List, map, length, Option, Some, sym, ap, subst}
use Rattle.std.specs.Prelude.{slice_get, option_map, IsTrue}
use Rattle.std.specs.List.{list_all}
use Rattle.std.proofs.lemmas.Bool.{and_parts, false_from_ne_true}
use Rattle.std.proofs.lemmas.Option.{slice_get-map}
use Rattle.norm_lang.specs.declared.text.Instr.{Instr}
use Rattle.norm_lang.specs.declared.text.Op.{Op}
use Rattle.norm_lang.specs.declared.text.Text.{Text}
use Rattle.norm_lang.specs.Flow.{goes_to}
use Rattle.norm_lang.specs.InstructionRules.{has_wrong_kind, has_wrong_range}
use Rattle.norm_lang.specs.Kept.{code_of}
use Rattle.norm_lang.specs.Limits.{has_between, are_different, are_kinds, are_fields, are_nodes, are_roots, are_ops, owners_of, is_instr, is_method, is_op, IsWithinLimits}
use Rattle.norm_lang.specs.NormalForm.{N1, N13, IsNormal}
use Rattle.target_laws.proofs.local_laws.Inside.{stays_inside}
use Rattle.target_laws.proofs.local_laws.Settled.{keeps_rule}
use Rattle.target_code.specs.declared.target.TargetInstr.{TargetInstr}
use Rattle.target_code.specs.declared.target.TargetInstr.TheVariants.{Plain}
use Rattle.target_code.specs.Paths.{IsTargetSuccessor, target_goes_from, target_code_of}
use Rattle.target_laws.specs.Methods.{Method}
use Rattle.target_laws.proofs.Filled.{item_passes}
use Rattle.target_code.specs.Bare.{bare_op, bare}
use Rattle.bare_targets.proofs.PlainCode.{code_is_plain}
use Rattle.std.proofs.lemmas.List.{length-map}

-- ---- a method of it

abbrev pub method_of : (text : Text) (number : ℕ) (op : Op) (wrapup : Bool) → slice_get text.ops number ≡ Some op → Method (bare text) text
method_of text number op wrapup is = record {
  number = number;
  wrapup = wrapup;
  op = op;
  compiled = bare_op op;
  in_text = is;
  in_target = slice_get-map bare_op text.ops number ∙ ap (option_map bare_op) is;
}

pub bare_at : (op : Op) (wrapup : Bool) (at : ℕ) (i : Instr) → slice_get (code_of op wrapup) at ≡ Some i → slice_get (target_code_of (bare_op op) wrapup) at ≡ Some (Plain i)
bare_at op wrapup at i is = ap (λ (code : List TargetInstr). slice_get code at) (code_is_plain op wrapup) ∙ (slice_get-map Plain (code_of op wrapup) at ∙ ap (option_map Plain) is)

-- in a text in normal form no place that follows another is outside
pub bare_goes : (text : Text) → IsNormal text → (number : ℕ) (op : Op) (wrapup : Bool) → slice_get text.ops number ≡ Some op → (at to : ℕ) (i : Instr) → slice_get (code_of op wrapup) at ≡ Some i
    → IsTrue (goes_to i at to) → IsTargetSuccessor (target_code_of (bare_op op) wrapup) at to
bare_goes text normal number op wrapup is at to i there goes = (
  subst (λ (o : Option TargetInstr). IsTrue (target_goes_from o at to)) (sym (bare_at op wrapup at i there)) goes,
  subst (λ (count : ℕ). to < count) (sym (ap length (code_is_plain op wrapup) ∙ length-map (code_of op wrapup) Plain)) (stays_inside text number op wrapup normal is at to i there goes),
)

-- ---- an instruction of a text

-- N1
pub kind_at : (text : Text) → IsNormal text → (number : ℕ) (op : Op) (wrapup : Bool) (at : ℕ) (i : Instr) → slice_get text.ops number ≡ Some op → slice_get (code_of op wrapup) at ≡ Some i → has_wrong_kind text.fields text.roots i ≡ false
kind_at text normal number op wrapup at i is there = false_from_ne_true _ (keeps_rule text N1 number op wrapup at i normal is there)

-- and N13
pub range_at : (text : Text) → IsNormal text → (number : ℕ) (op : Op) (wrapup : Bool) (at : ℕ) (i : Instr) → slice_get text.ops number ≡ Some op → slice_get (code_of op wrapup) at ≡ Some i
    → has_wrong_range text.roots i (length (code_of op wrapup)) ≡ false
range_at text normal number op wrapup at i is there = false_from_ne_true _ (keeps_rule text N13 number op wrapup at i normal is there)

-- the limits
pub limits_at : (text : Text) → IsWithinLimits text → (number : ℕ) (op : Op) (wrapup : Bool) (at : ℕ) (i : Instr) → slice_get text.ops number ≡ Some op → slice_get (code_of op wrapup) at ≡ Some i
    → is_instr (length text.kinds) (length text.fields) (length text.roots) i ≡ true
limits_at text within number op wrapup at i is there =
    let ops = are_ops (length text.kinds) (length text.fields) (length text.roots) text.ops in
    let roots = are_roots (length text.kinds) (owners_of text.nodes) text.roots in
    let nodes = are_nodes (length text.kinds) text.fields text.nodes in
    let declared = (and_parts (are_kinds text.kinds) (are_fields (length text.kinds) text.fields && (nodes && (roots && ops))) within).1 in
    let several = (and_parts roots ops (and_parts nodes (roots && ops) (and_parts (are_fields (length text.kinds) text.fields) (nodes && (roots && ops)) declared).1).1).1 in
    let all = (and_parts (list_all (is_op (length text.kinds) (length text.fields) (length text.roots)) text.ops) (are_different (map (λ op. op.name) text.ops)) (and_parts (has_between 1 16 text.ops) _ several).1).0 in
    let one = item_passes (is_op (length text.kinds) (length text.fields) (length text.roots)) text.ops number op all is in
    let methods = (and_parts _ _ (and_parts _ _ one).1).1 in
    by_method wrapup (and_parts _ _ methods).0 (and_parts _ _ (and_parts _ _ methods).1).0 there
  where
    in_method : (code : List Instr) → IsTrue (is_method (length text.kinds) (length text.fields) (length text.roots) code) → slice_get code at ≡ Some i → is_instr (length text.kinds) (length text.fields) (length text.roots) i ≡ true
    in_method code right stands = item_passes (is_instr (length text.kinds) (length text.fields) (length text.roots)) code at i (and_parts (has_between 1 256 code) (list_all (is_instr (length text.kinds) (length text.fields) (length text.roots)) code) right).1 stands

    by_method : (w : Bool) → IsTrue (is_method (length text.kinds) (length text.fields) (length text.roots) op.generator) → IsTrue (is_method (length text.kinds) (length text.fields) (length text.roots) op.wrapup)
        → slice_get (code_of op w) at ≡ Some i → is_instr (length text.kinds) (length text.fields) (length text.roots) i ≡ true
    by_method false generator wrap stands = in_method op.generator generator stands
    by_method true generator wrap stands = in_method op.wrapup wrap stands
