-- How many kinds, nodes and operations a text has at most.
use Rattle.std.proofs.Common.{◌≤◌, ◌<◌, ◌^◌, ◌&&◌, length, arith}
use Rattle.std.proofs.lemmas.Bool.Decides.{nat_tests}
use Rattle.std.specs.Prelude.{nat_le, IsTrue}
use Rattle.std.specs.List.{list_all}
use Rattle.norm_lang.specs.declared.text.Text.{Text}
use Rattle.norm_lang.specs.Limits.{IsWithinLimits, has_between, are_kinds, are_fields, are_nodes, are_roots, are_ops, are_different, owners_of}
use Rattle.norm_lang.specs.LineWords.{is_name}
use Rattle.norm_paths.proofs.Within.{and_left, and_right}
use Rattle.norm_check.proofs.Tables.{few_ops as sixteen_ops}

pub few_ops : (text : Text) → IsWithinLimits text → length text.ops < 256
few_ops text within = omega (arith, sixteen_ops text within)

pub few_nodes : (text : Text) → IsWithinLimits text → length text.nodes < 2 ^ 32
few_nodes text within =
    let ops = are_ops (length text.kinds) (length text.fields) (length text.roots) text.ops in
    let roots = are_roots (length text.kinds) (owners_of text.nodes) text.roots in
    let nodes = are_nodes (length text.kinds) text.fields text.nodes in
    let fields = are_fields (length text.kinds) text.fields in
    let between = and_left nodes (roots && ops) (and_right fields (nodes && (roots && ops)) (and_right (are_kinds text.kinds) (fields && (nodes && (roots && ops))) within)) in
    let most : IsTrue (nat_le (length text.nodes) 256) = and_right (nat_le 0 (length text.nodes)) (nat_le (length text.nodes) 256) (and_left (has_between 0 256 text.nodes) _ between) in
    grind (arith, nat_tests)

pub few_kinds : (text : Text) → IsWithinLimits text → length text.kinds ≤ 4
few_kinds text within =
    let ops = are_ops (length text.kinds) (length text.fields) (length text.roots) text.ops in
    let roots = are_roots (length text.kinds) (owners_of text.nodes) text.roots in
    let nodes = are_nodes (length text.kinds) text.fields text.nodes in
    let fields = are_fields (length text.kinds) text.fields in
    let between = and_left (has_between 1 4 text.kinds) (list_all is_name text.kinds && are_different text.kinds) (and_left (are_kinds text.kinds) (fields && (nodes && (roots && ops))) within) in
    let most : IsTrue (nat_le (length text.kinds) 4) = and_right (nat_le 1 (length text.kinds)) (nat_le (length text.kinds) 4) between in
    grind (arith, nat_tests)
