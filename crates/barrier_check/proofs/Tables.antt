-- What the limits of a target say of its parts.
use Rattle.std.proofs.Common.{◌≡◌, ℕ, ◌<◌, ◌≤◌, Bool, true, false, not, ◌&&◌, List, length, Some, sym, ap, subst, ◌∙◌, arith}
use Rattle.std.specs.Prelude.{slice_get, map, nat_le, IsTrue}
use Rattle.std.specs.List.{list_all}
use Rattle.std.proofs.lemmas.Bool.Decides.{nat_tests}
use Rattle.norm_lang.specs.declared.text.Text.{Text}
use Rattle.norm_lang.specs.LineWords.{is_name}
use Rattle.norm_lang.specs.Declarations.{is_reserved}
use Rattle.norm_lang.specs.Limits.{are_kinds, are_fields, are_nodes, are_roots, has_between, are_different, owners_of}
use Rattle.norm_paths.proofs.Within.{and_left, and_right, all_get}
use Rattle.target_code.specs.declared.target.TargetInstr.{TargetInstr}
use Rattle.target_code.specs.declared.target.TargetOp.{TargetOp}
use Rattle.target_code.specs.declared.target.Target.{Target}
use Rattle.target_code.specs.Paths.{target_code_of}
use Rattle.target_code.specs.TargetLimits.{IsTargetWithinLimits, are_target_ops, is_target_op, is_target_method, is_target_instr, target_news_of}
use Rattle.target_code.specs.Erasing.{ErasesTo, erased_op}
use Rattle.barrier_check.specs.Judging.{IsTargetOpWithin, IsTargetInstrWithin}
use Rattle.barrier_check.proofs.Differing.{length_map}

-- a target within the limits has operations within them, and at most 16
target_ops_within : (target : Target) → IsTargetWithinLimits target → IsTrue (are_target_ops (length target.kinds) (length target.fields) (length target.roots) target.ops)
target_ops_within target within =
    let ops = are_target_ops (length target.kinds) (length target.fields) (length target.roots) target.ops in
    let roots = are_roots (length target.kinds) (owners_of target.nodes) target.roots in
    let nodes = are_nodes (length target.kinds) target.fields target.nodes in
    let fields = are_fields (length target.kinds) target.fields in
    and_right roots ops
    (and_right nodes (roots && ops) (and_right fields (nodes && (roots && ops)) (and_right (are_kinds target.kinds) (fields && (nodes && (roots && ops))) within)))

pub target_op_within : (target : Target) (number : ℕ) (op : TargetOp) → IsTargetWithinLimits target → slice_get target.ops number ≡ Some op → IsTargetOpWithin op
target_op_within target number op within stands =
    let each = list_all (is_target_op (length target.kinds) (length target.fields) (length target.roots)) target.ops in
    let apart = are_different (map (λ (o : TargetOp). o.name) target.ops) in (
      length target.kinds,
      length target.fields,
      length target.roots,
      all_get (is_target_op (length target.kinds) (length target.fields) (length target.roots)) target.ops number op
          (and_left each apart (and_right (has_between 1 16 target.ops) (each && apart) (target_ops_within target within))) stands,
    )

pub few_target_ops : (target : Target) → IsTargetWithinLimits target → length target.ops ≤ 16
few_target_ops target within =
    let most : IsTrue (nat_le (length target.ops) 16) =
    and_right (nat_le 1 (length target.ops)) (nat_le (length target.ops) 16) (and_left (has_between 1 16 target.ops) _ (target_ops_within target within)) in
    grind (arith, nat_tests)

-- its methods have 1 to 4096 instructions, each within them
method_within : (kinds fields roots : ℕ) (op : TargetOp) (wrapup : Bool) → IsTrue (is_target_op kinds fields roots op) → IsTrue (is_target_method kinds fields roots (target_code_of op wrapup))
method_within kinds fields roots op wrapup within =
    chosen wrapup
    (and_right (nat_le op.args 4) (generator && (behind && news)) (and_right (is_name op.name && not (is_reserved op.name)) (nat_le op.args 4 && (generator && (behind && news))) within))
  where
    generator : Bool
    generator = is_target_method kinds fields roots op.generator

    behind : Bool
    behind = is_target_method kinds fields roots op.wrapup

    news : Bool
    news = nat_le (target_news_of op) 4

    chosen : (w : Bool) → IsTrue (generator && (behind && news)) → IsTrue (is_target_method kinds fields roots (target_code_of op w))
    chosen false methods = and_left generator (behind && news) methods
    chosen true methods = and_left behind news (and_right generator (behind && news) methods)

pub target_method_sized : (op : TargetOp) (wrapup : Bool) → IsTargetOpWithin op → (0 < length (target_code_of op wrapup)) × (length (target_code_of op wrapup) ≤ 4096)
target_method_sized op wrapup within =
    let code = target_code_of op wrapup in
    let size : IsTrue (nat_le 1 (length code) && nat_le (length code) 4096) =
    and_left (has_between 1 4096 code) (list_all (is_target_instr within.0 within.1 within.2) code) (method_within within.0 within.1 within.2 op wrapup within.3) in
    let least : IsTrue (nat_le 1 (length code)) = and_left (nat_le 1 (length code)) (nat_le (length code) 4096) size in
    let most : IsTrue (nat_le (length code) 4096) = and_right (nat_le 1 (length code)) (nat_le (length code) 4096) size in
    (grind (arith, nat_tests), grind (arith, nat_tests))

pub target_instr_within : (op : TargetOp) (wrapup : Bool) (at : ℕ) (i : TargetInstr) → IsTargetOpWithin op → slice_get (target_code_of op wrapup) at ≡ Some i → IsTargetInstrWithin i
target_instr_within op wrapup at i within stands = (
  within.0,
  within.1,
  within.2,
  all_get (is_target_instr within.0 within.1 within.2) (target_code_of op wrapup) at i
      (and_right (has_between 1 4096 (target_code_of op wrapup)) (list_all (is_target_instr within.0 within.1 within.2) (target_code_of op wrapup)) (method_within within.0 within.1 within.2 op wrapup within.3)) stands,
)

pub method_some : (op : TargetOp) (wrapup : Bool) (code : List TargetInstr) → code ≡ target_code_of op wrapup → IsTargetOpWithin op → 0 < length code
method_some op wrapup code is within = subst (λ (xs : List TargetInstr). 0 < length xs) (sym is) (target_method_sized op wrapup within).0

pub method_few : (op : TargetOp) (wrapup : Bool) (code : List TargetInstr) → code ≡ target_code_of op wrapup → IsTargetOpWithin op → length code ≤ 4096
method_few op wrapup code is within = subst (λ (xs : List TargetInstr). length xs ≤ 4096) (sym is) (target_method_sized op wrapup within).1

-- a text that a target erases to has as many operations
pub erased_count : (target : Target) (text : Text) → ErasesTo target text → length target.ops ≡ length text.ops
erased_count target text erases = sym (length_map erased_op target.ops) ∙ ap (λ (t : Text). length t.ops) erases
