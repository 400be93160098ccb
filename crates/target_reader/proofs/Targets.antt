-- What declarations within the limits have.
use Rattle.std.specs.Prelude.{◌≡◌, ℕ, ◌≤◌, true, ◌&&◌, List, [], map, length, Ok}
use Rattle.std.proofs.lemmas.Bool.{and_from, and_parts}
use Rattle.std.proofs.lemmas.Result.{IfOk-at_ok}
use Rattle.oa_text.specs.Lines.{TextLine}
use Rattle.norm_lang.specs.declared.text.Text.{Text}
use Rattle.norm_lang.specs.declared.text.Version.TheVariants.{Second}
use Rattle.norm_lang.specs.Limits.{are_different, are_kinds, are_fields, owners_of, are_nodes, are_roots}
use Rattle.norm_parser.specs.declared.head.Head.{Head}
use Rattle.norm_parser.specs.FrontRead.{IsHeadWithinLimits}
use Rattle.text_laws.proofs.FewDeclared.{few_fields as few_of_kinds}
use Rattle.text_laws.proofs.WithinLimits.{declared, kind_parts_of, field_parts_of, node_parts_of}
use Rattle.text_laws.proofs.TextRead.{AreDeclared}
use Rattle.target_code.specs.declared.target.TargetOp.{TargetOp}
use Rattle.target_code.specs.TargetLimits.{are_target_ops, is_target_within_limits}
use Rattle.target_reader.specs.TargetGrammar.{no_ops, ops_read, target_of}
use Rattle.target_reader.proofs.OpsLimits.{ops_within}

-- each part of declarations is within the limits
pub record AreWithin (text : Text) : Type 0 where
  pub kinds : are_kinds text.kinds ≡ true
  pub fields : are_fields (length text.kinds) text.fields ≡ true
  pub nodes : are_nodes (length text.kinds) text.fields text.nodes ≡ true
  pub roots : are_roots (length text.kinds) (owners_of text.nodes) text.roots ≡ true

-- and so they are declared
pub declared_within : (text : Text) → AreWithin text → AreDeclared Second text
declared_within text within = record {
  of = tt;
  kinds = kind_parts_of text.kinds within.kinds;
  fields = field_parts_of (length text.kinds) text.fields within.fields;
  nodes = node_parts_of (length text.kinds) text.fields text.nodes within.nodes;
  roots = declared 1 256 _ _ text.roots within.roots;
}

-- the text that declares the same and has no operation
abbrev head_text : Head → Text
head_text head = record { kinds = head.kinds; fields = head.fields; roots = head.roots; nodes = head.nodes; ops = [] }

pub head_within : (head : Head) → IsHeadWithinLimits head → AreWithin (head_text head)
head_within head within =
    let fields = are_fields (length head.kinds) head.fields in
    let nodes = are_nodes (length head.kinds) head.fields head.nodes in
    let roots = are_roots (length head.kinds) (owners_of head.nodes) head.roots in
    let named = and_parts (are_kinds head.kinds) (fields && (nodes && roots)) within in
    let first = and_parts fields (nodes && roots) named.1 in
    let second = and_parts nodes roots first.1 in
    record { kinds = named.0; fields = first.0; nodes = second.0; roots = second.1 }

head_declared : (head : Head) → IsHeadWithinLimits head → AreDeclared Second (head_text head)
head_declared head within = declared_within (head_text head) (head_within head within)

pub few_kinds : (head : Head) → IsHeadWithinLimits head → length head.kinds ≤ 4
few_kinds head within = (((head_declared head within).kinds).count).few

pub few_fields : (head : Head) → IsHeadWithinLimits head → length head.fields ≤ 16
few_fields head within = few_of_kinds (length head.kinds) head.fields (head_within head within).fields (few_kinds head within)

pub few_roots : (head : Head) → IsHeadWithinLimits head → length head.roots ≤ 256
few_roots head within = (((head_declared head within).roots).count).few

pub fields_differ : (head : Head) → IsHeadWithinLimits head → are_different (map (λ field. field.name) head.fields) ≡ true
fields_differ head within = ((head_declared head within).fields).apart

pub roots_differ : (head : Head) → IsHeadWithinLimits head → are_different (map (λ root. root.name) head.roots) ≡ true
roots_differ head within = ((head_declared head within).roots).apart

-- declarations and operations within the limits
pub both_within : (head : Head) (ops : List TargetOp) → IsHeadWithinLimits head → are_target_ops (length head.kinds) (length head.fields) (length head.roots) ops ≡ true
    → is_target_within_limits (target_of head ops) ≡ true
both_within head ops within last =
    let are = head_within head within in
    and_from _ _ are.kinds (and_from _ _ are.fields (and_from _ _ are.nodes (and_from _ _ are.roots last)))

-- declarations within the limits, with operations that are read after them
pub target_within : (head : Head) (past : ℕ) (lines : List TextLine) (ops : List TargetOp) → IsHeadWithinLimits head → ops_read head.kinds head.fields head.roots past no_ops lines ≡ Ok ops
    → is_target_within_limits (target_of head ops) ≡ true
target_within head past lines ops within read =
    both_within head ops within
    (IfOk-at_ok (λ ops. are_target_ops (length head.kinds) (length head.fields) (length head.roots) ops ≡ true) read (ops_within head.kinds head.fields head.roots past lines))
