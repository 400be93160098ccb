-- What the limits say of a target's methods.
use Rattle.std.proofs.Common.{◌≡◌, ℕ, ◌+◌, ◌≤◌, ◌<◌, Bool, true, false, ◌&&◌, List, length, map, Some, arith}
use Rattle.std.specs.Prelude.{slice_get, nat_le, not}
use Rattle.std.specs.List.{list_all}
use Rattle.std.proofs.lemmas.Bool.{and_parts, leb-true}
use Rattle.norm_lang.specs.declared.text.FieldKind.TheVariants as holdings
use Rattle.norm_lang.specs.declared.text.Start.TheVariants as starts
use Rattle.norm_lang.specs.LineWords.{is_name}
use Rattle.norm_lang.specs.Declarations.{is_reserved}
use Rattle.norm_lang.specs.Limits.{has_between, are_different, are_kinds, are_fields, owners_of, are_nodes, are_roots}
use Rattle.target_code.specs.declared.target.TargetInstr.{TargetInstr}
use Rattle.target_code.specs.declared.target.TargetOp.{TargetOp}
use Rattle.target_code.specs.declared.target.Target.{Target}
use Rattle.target_code.specs.Paths.{target_code_of}
use Rattle.target_code.specs.TargetLimits.{is_target_instr, is_target_method, is_target_op, are_target_ops, target_news_in, target_news_of, IsTargetWithinLimits}
use Rattle.target_laws.proofs.Filled.{item_passes}
use Rattle.target_laws.proofs.OneKind as one

-- the parts of the limits
pub record Parts (target : Target) : Type 0 where
  pub kinds : are_kinds target.kinds ≡ true
  pub fields : are_fields (length target.kinds) target.fields ≡ true
  pub nodes : are_nodes (length target.kinds) target.fields target.nodes ≡ true
  pub roots : are_roots (length target.kinds) (owners_of target.nodes) target.roots ≡ true
  pub ops : are_target_ops (length target.kinds) (length target.fields) (length target.roots) target.ops ≡ true

pub parts : (target : Target) → IsTargetWithinLimits target → Parts target
parts target within =
    let ops = are_target_ops (length target.kinds) (length target.fields) (length target.roots) target.ops in
    let roots = are_roots (length target.kinds) (owners_of target.nodes) target.roots in
    let nodes = are_nodes (length target.kinds) target.fields target.nodes in
    let fields = are_fields (length target.kinds) target.fields in
    let none = and_parts (are_kinds target.kinds) (fields && (nodes && (roots && ops))) within in
    let one = and_parts fields (nodes && (roots && ops)) none.1 in
    let two = and_parts nodes (roots && ops) one.1 in
    let three = and_parts roots ops two.1 in
    record { kinds = none.0; fields = one.0; nodes = two.0; roots = three.0; ops = three.1 }

-- of a list of between so many
pub between : {A : Type 0} (least most : ℕ) (items : List A) → has_between least most items ≡ true → (least ≤ length items) × (length items ≤ most)
between least most items is =
    let p = and_parts (nat_le least (length items)) (nat_le (length items) most) is in (leb-true least (length items) p.0, leb-true (length items) most p.1)

-- of one method
pub record MethodLimits (target : Target) (code : List TargetInstr) : Type 0 where
  pub some : 0 < length code
  pub each : list_all (is_target_instr (length target.kinds) (length target.fields) (length target.roots)) code ≡ true
  pub news : target_news_in code ≤ 4
  pub short : length code ≤ 4096

method_limits : (target : Target) (code : List TargetInstr) → is_target_method (length target.kinds) (length target.fields) (length target.roots) code ≡ true → target_news_in code ≤ 4 → MethodLimits target code
method_limits target code is few =
    let p = and_parts (has_between 1 4096 code) (list_all (is_target_instr (length target.kinds) (length target.fields) (length target.roots)) code) is in
    let sizes = between 1 4096 code p.0 in
    let least = sizes.0 in
    record { some = omega (arith, least); each = p.1; news = few; short = sizes.1 }

pub op_limits : (target : Target) (number : ℕ) (op : TargetOp) (wrapup : Bool) → IsTargetWithinLimits target → slice_get target.ops number ≡ Some op → MethodLimits target (target_code_of op wrapup)
op_limits target number op wrapup within is = by_method wrapup
  where
    passes : Bool
    passes = list_all (is_target_op (length target.kinds) (length target.fields) (length target.roots)) target.ops

    several : (has_between 1 16 target.ops ≡ true) × (passes && are_different (map (λ (op : TargetOp). op.name) target.ops)) ≡ true
    several = and_parts (has_between 1 16 target.ops) (passes && are_different (map (λ (op : TargetOp). op.name) target.ops)) (parts target within).ops

    one : is_target_op (length target.kinds) (length target.fields) (length target.roots) op ≡ true
    one = item_passes (is_target_op (length target.kinds) (length target.fields) (length target.roots)) target.ops number op (and_parts passes (are_different (map (λ (op : TargetOp). op.name) target.ops)) several.1).0 is

    generator : Bool
    generator = is_target_method (length target.kinds) (length target.fields) (length target.roots) op.generator

    wrap : Bool
    wrap = is_target_method (length target.kinds) (length target.fields) (length target.roots) op.wrapup

    methods : (generator ≡ true) × (wrap && nat_le (target_news_of op) 4) ≡ true
    methods = and_parts generator (wrap && nat_le (target_news_of op) 4)
        (and_parts (nat_le op.args 4) (generator && (wrap && nat_le (target_news_of op) 4))
        (and_parts (is_name op.name && not (is_reserved op.name)) (nat_le op.args 4 && (generator && (wrap && nat_le (target_news_of op) 4))) one).1).1

    last : (wrap ≡ true) × nat_le (target_news_of op) 4 ≡ true
    last = and_parts wrap (nat_le (target_news_of op) 4) methods.1

    few : target_news_in op.generator + target_news_in op.wrapup ≤ 4
    few = leb-true (target_news_of op) 4 last.1

    by_method : (wrapup : Bool) → MethodLimits target (target_code_of op wrapup)
    by_method false = method_limits target op.generator methods.0 (omega (arith, few))
    by_method true = method_limits target op.wrapup last.0 (omega (arith, few))

-- there is an operation
pub some_op : (target : Target) → IsTargetWithinLimits target → 0 < length target.ops
some_op target within =
    let several = (and_parts (has_between 1 16 target.ops) _ (parts target within).ops).0 in
    let least = (between 1 16 target.ops several).0 in omega (arith, least)

-- ---- what the limits say of declarations with one kind, for crates that stand on this one alone
