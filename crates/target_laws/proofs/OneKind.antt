-- What the limits say of a text or a target with one kind: all its fields are fields of each of its nodes.
use Rattle.std.proofs.Common.{◌≡◌, ℕ, zero, suc, ◌≤◌, ◌<◌, Bool, true, false, ◌&&◌, List, [], ◌∷◌, map, length, Option, Some, None, refl, ap, subst, ◌∙◌, arith}
use Rattle.std.specs.Prelude.{slice_get, nat_lt, ◌==◌}
use Rattle.std.specs.List.{list_all, filter}
use Rattle.std.proofs.lemmas.Bool.{and_parts}
use Rattle.std.proofs.lemmas.Bool.Decides.{nat_tests}
use Rattle.norm_lang.specs.declared.text.FieldKind.{FieldKind}
use Rattle.norm_lang.specs.declared.text.FieldKind.TheVariants as holdings
use Rattle.norm_lang.specs.declared.text.Start.TheVariants as starts
use Rattle.norm_lang.specs.declared.text.FieldDecl.{FieldDecl}
use Rattle.norm_lang.specs.declared.text.RootDecl.{RootDecl}
use Rattle.norm_lang.specs.declared.text.NodeDecl.{NodeDecl}
use Rattle.norm_lang.specs.declared.text.Text.{Text}
use Rattle.norm_lang.specs.KindFields.{fields_of}
use Rattle.norm_lang.specs.LineWords.{is_name, is_owner}
use Rattle.norm_lang.specs.Limits.{has_between, are_different, are_kinds, is_rising, has_groups, is_kind, is_field, are_fields, is_start, are_starts, owners_of, is_node, are_nodes, is_root, are_roots, are_ops, IsWithinLimits}

-- ---- the parts of what is declared

pub record Declared (text : Text) : Type 0 where
  pub fields : are_fields (length text.kinds) text.fields ≡ true
  pub nodes : are_nodes (length text.kinds) text.fields text.nodes ≡ true
  pub roots : are_roots (length text.kinds) (owners_of text.nodes) text.roots ≡ true

pub declared : (text : Text) → IsWithinLimits text → Declared text
declared text within =
    let fields = are_fields (length text.kinds) text.fields in
    let nodes = are_nodes (length text.kinds) text.fields text.nodes in
    let roots = are_roots (length text.kinds) (owners_of text.nodes) text.roots in
    let ops = are_ops (length text.kinds) (length text.fields) (length text.roots) text.ops in
    let after_kinds = and_parts fields (nodes && (roots && ops)) (and_parts (are_kinds text.kinds) (fields && (nodes && (roots && ops))) within).1 in
    let after_fields = and_parts nodes (roots && ops) after_kinds.1 in
    record { fields = after_kinds.0; nodes = after_fields.0; roots = (and_parts roots ops after_fields.1).0 }

pub fields_are : (kinds : ℕ) (fields : List FieldDecl) → are_fields kinds fields ≡ true → list_all (is_field kinds) fields ≡ true
fields_are kinds fields is =
    let all = list_all (is_field kinds) fields in
    let names = are_different (map (λ field. field.name) fields) in
    let groups = and_parts (is_rising (map (λ field. field.owner) fields)) (has_groups kinds fields && (all && names)) is in
    (and_parts all names (and_parts (has_groups kinds fields) (all && names) groups.1).1).0

pub nodes_are : (kinds : ℕ) (fields : List FieldDecl) (nodes : List NodeDecl) → are_nodes kinds fields nodes ≡ true → list_all (is_node kinds fields (owners_of nodes)) nodes ≡ true
nodes_are kinds fields nodes is =
    let all = list_all (is_node kinds fields (owners_of nodes)) nodes in
    (and_parts (is_rising (owners_of nodes)) all (and_parts (has_between 0 256 nodes) (is_rising (owners_of nodes) && all) is).1).1

pub roots_are : (kinds : ℕ) (owners : List ℕ) (roots : List RootDecl) → are_roots kinds owners roots ≡ true → list_all (is_root kinds owners) roots ≡ true
roots_are kinds owners roots is =
    let all = list_all (is_root kinds owners) roots in
    let names = are_different (map (λ root. root.name) roots) in
    (and_parts all names (and_parts (has_between 1 256 roots) (all && names) is).1).0

pub root_start : (kinds : ℕ) (owners : List ℕ) (root : RootDecl) → is_root kinds owners root ≡ true → is_start owners root.kind root.start ≡ true
root_start kinds owners root is =
    (and_parts (is_kind kinds root.kind) (is_start owners root.kind root.start) (and_parts (is_name root.name) (is_kind kinds root.kind && is_start owners root.kind root.start) is).1).1

-- a first value names null or one of the initial nodes
pub start_known : (owners : List ℕ) (k j : ℕ) → is_start owners (holdings.Reference k) (starts.Node j) ≡ true → j ≤ length owners
start_known owners k zero is = omega arith
start_known owners k (suc j) is = known owners j is
  where
    known : (owners : List ℕ) (j : ℕ) → is_owner (slice_get owners j) k ≡ true → suc j ≤ length owners
    known [] j is = absurd (let no : false ≡ true = is in cc)
    known (owner ∷ owners) zero is = omega arith
    known (owner ∷ owners) (suc j) is = let le = known owners j is in omega (arith, le)

-- ---- one kind

kept : (field : FieldDecl) (fields : List FieldDecl) (owner : ℕ) → (field.owner == owner) ≡ true → fields_of owner fields ≡ fields → fields_of owner (field ∷ fields) ≡ field ∷ fields
kept field fields owner of rest = rw of (ap (λ (more : List FieldDecl). field ∷ more) rest)

-- all fields are of the one kind
pub all_of_one : (fields : List FieldDecl) (owner : ℕ) → list_all (is_field 1) fields ≡ true → owner < 1 → fields_of owner fields ≡ fields
all_of_one [] owner all one = refl
all_of_one (field ∷ fields) owner all one =
    let parts = and_parts (is_field 1 field) (list_all (is_field 1) fields) all in
    let less : nat_lt field.owner 1 ≡ true =
    (and_parts (nat_lt field.owner 1) (is_kind 1 field.kind) (and_parts (is_name field.name) (nat_lt field.owner 1 && is_kind 1 field.kind) parts.0).1).0 in
    let of : (field.owner == owner) ≡ true = grind (arith, nat_tests) in
    kept field fields owner of (all_of_one fields owner parts.1 one)

node_filled : (fields : List FieldDecl) (owners : List ℕ) (node : NodeDecl) → list_all (is_field 1) fields ≡ true → is_node 1 fields owners node ≡ true → are_starts owners fields node.values ≡ true
node_filled fields owners node all is =
    let parts = and_parts (nat_lt node.owner 1) (are_starts owners (fields_of node.owner fields) node.values) is in
    let first : nat_lt node.owner 1 ≡ true = parts.0 in
    let less : node.owner < 1 = grind (arith, nat_tests) in
    subst (λ (own : List FieldDecl). are_starts owners own node.values ≡ true) (all_of_one fields node.owner all less) parts.1

-- so that each node has a first value for each field
pub nodes_filled : (fields : List FieldDecl) (owners : List ℕ) (nodes : List NodeDecl) → list_all (is_field 1) fields ≡ true → list_all (is_node 1 fields owners) nodes ≡ true
    → list_all (λ node. are_starts owners fields node.values) nodes ≡ true
nodes_filled fields owners [] all are = refl
nodes_filled fields owners (node ∷ nodes) all are =
    let parts = and_parts (is_node 1 fields owners node) (list_all (is_node 1 fields owners) nodes) are in
    rw (node_filled fields owners node all parts.0) (nodes_filled fields owners nodes all parts.1)

-- what is declared with one kind
pub filled : (kinds : ℕ) (fields : List FieldDecl) (nodes : List NodeDecl) → kinds ≡ 1 → are_fields kinds fields ≡ true → are_nodes kinds fields nodes ≡ true
    → list_all (λ node. are_starts (owners_of nodes) fields node.values) nodes ≡ true
filled kinds fields nodes one fields_within nodes_within =
    nodes_filled fields (owners_of nodes) nodes
    (fields_are 1 fields (subst (λ (n : ℕ). are_fields n fields ≡ true) one fields_within))
    (nodes_are 1 fields nodes (subst (λ (n : ℕ). are_nodes n fields nodes ≡ true) one nodes_within))
