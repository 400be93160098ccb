-- What a text within the limits has, part by part.
use Rattle.std.specs.Prelude.{◌≡◌, ℕ, ◌≤◌, Bool, true, ◌&&◌, List, map, length, nat_lt, nat_le}
use Rattle.std.specs.List.{list_all}
use Rattle.std.proofs.lemmas.Bool.{and_parts, leb-true}
use Rattle.norm_lang.specs.declared.text.FieldDecl.{FieldDecl}
use Rattle.norm_lang.specs.declared.text.NodeDecl.{NodeDecl}
use Rattle.norm_lang.specs.declared.text.RootDecl.{RootDecl}
use Rattle.norm_lang.specs.declared.text.Instr.{Instr}
use Rattle.norm_lang.specs.declared.text.Op.{Op}
use Rattle.norm_lang.specs.declared.text.Text.{Text}
use Rattle.norm_lang.specs.KindFields.{fields_of}
use Rattle.norm_lang.specs.LineWords.{is_name}
use Rattle.norm_lang.specs.Grammar.{news_of}
use Rattle.norm_lang.specs.Limits.{has_between, are_different, is_instr, is_method, is_op, are_starts, are_kinds, is_kind, is_field, is_rising, has_groups, are_fields, owners_of, is_node, are_nodes, is_start, is_root, are_roots, are_ops, IsWithinLimits}
use Rattle.text_laws.proofs.FewDeclared.{few_fields}

-- a list's bounds
pub record Between {A : Type 0} (least most : ℕ) (items : List A) : Type 0 where
  pub some : least ≤ length items
  pub few : length items ≤ most

pub between : {A : Type 0} (least most : ℕ) (items : List A) → has_between least most items ≡ true → Between least most items
between least most items h =
    let parts = and_parts (nat_le least (length items)) (nat_le (length items) most) h in
    record { some = leb-true _ _ parts.0; few = leb-true _ _ parts.1 }

-- declarations with different names, each of them good
pub record Declared {A : Type 0} (least most : ℕ) (name : A → List ℕ) (good : A → Bool) (items : List A) : Type 0 where
  pub count : Between least most items
  pub each : list_all good items ≡ true
  pub apart : are_different (map name items) ≡ true

pub declared : {A : Type 0} (least most : ℕ) (name : A → List ℕ) (good : A → Bool) (items : List A)
    → has_between least most items && (list_all good items && are_different (map name items)) ≡ true → Declared least most name good items
declared least most name good items h =
    let parts = and_parts (has_between least most items) (list_all good items && are_different (map name items)) h in
    let rest = and_parts (list_all good items) (are_different (map name items)) parts.1 in
    record { count = between least most items parts.0; each = rest.0; apart = rest.1 }

-- kinds with different names
pub record KindParts (kinds : List (List ℕ)) : Type 0 where
  pub count : Between 1 4 kinds
  pub each : list_all is_name kinds ≡ true
  pub apart : are_different kinds ≡ true

pub kind_parts_of : (kinds : List (List ℕ)) → are_kinds kinds ≡ true → KindParts kinds
kind_parts_of kinds h =
    let parts = and_parts (has_between 1 4 kinds) (list_all is_name kinds && are_different kinds) h in
    let rest = and_parts (list_all is_name kinds) (are_different kinds) parts.1 in
    record { count = between 1 4 kinds parts.0; each = rest.0; apart = rest.1 }

-- fields of so many kinds, in the order of the kinds
pub record FieldParts (kinds : ℕ) (fields : List FieldDecl) : Type 0 where
  pub rising : is_rising (map (λ field. field.owner) fields) ≡ true
  pub groups : has_groups kinds fields ≡ true
  pub each : list_all (is_field kinds) fields ≡ true
  pub apart : are_different (map (λ field. field.name) fields) ≡ true

pub field_parts_of : (kinds : ℕ) (fields : List FieldDecl) → are_fields kinds fields ≡ true → FieldParts kinds fields
field_parts_of kinds fields h =
    let order = and_parts (is_rising (map (λ field. field.owner) fields)) _ h in
    let groups = and_parts (has_groups kinds fields) _ order.1 in
    let rest = and_parts (list_all (is_field kinds) fields) (are_different (map (λ field. field.name) fields)) groups.1 in
    record { rising = order.0; groups = groups.0; each = rest.0; apart = rest.1 }

-- a field within the limits, part by part
pub record IsField (kinds : ℕ) (field : FieldDecl) : Type 0 where
  pub name : is_name field.name ≡ true
  pub owner : nat_lt field.owner kinds ≡ true
  pub kind : is_kind kinds field.kind ≡ true

pub field_parts : (kinds : ℕ) (field : FieldDecl) → is_field kinds field ≡ true → IsField kinds field
field_parts kinds field is =
    let name = and_parts (is_name field.name) (nat_lt field.owner kinds && is_kind kinds field.kind) is in
    let rest = and_parts (nat_lt field.owner kinds) (is_kind kinds field.kind) name.1 in
    record { name = name.0; owner = rest.0; kind = rest.1 }

-- initial nodes, in the order of the kinds
pub record NodeParts (kinds : ℕ) (fields : List FieldDecl) (nodes : List NodeDecl) : Type 0 where
  pub count : length nodes ≤ 256
  pub rising : is_rising (owners_of nodes) ≡ true
  pub each : list_all (is_node kinds fields (owners_of nodes)) nodes ≡ true

pub node_parts_of : (kinds : ℕ) (fields : List FieldDecl) (nodes : List NodeDecl) → are_nodes kinds fields nodes ≡ true → NodeParts kinds fields nodes
node_parts_of kinds fields nodes h =
    let count = and_parts (has_between 0 256 nodes) _ h in
    let rest = and_parts (is_rising (owners_of nodes)) (list_all (is_node kinds fields (owners_of nodes)) nodes) count.1 in
    record { count = (between 0 256 nodes count.0).few; rising = rest.0; each = rest.1 }

-- an initial node within the limits, part by part
pub record IsNode (kinds : ℕ) (fields : List FieldDecl) (owners : List ℕ) (node : NodeDecl) : Type 0 where
  pub owner : nat_lt node.owner kinds ≡ true
  pub starts : are_starts owners (fields_of node.owner fields) node.values ≡ true

pub node_parts : (kinds : ℕ) (fields : List FieldDecl) (owners : List ℕ) (node : NodeDecl) → is_node kinds fields owners node ≡ true → IsNode kinds fields owners node
node_parts kinds fields owners node is =
    let parts = and_parts (nat_lt node.owner kinds) (are_starts owners (fields_of node.owner fields) node.values) is in
    record { owner = parts.0; starts = parts.1 }

-- a root within the limits, part by part
pub record IsRoot (kinds : ℕ) (owners : List ℕ) (root : RootDecl) : Type 0 where
  pub name : is_name root.name ≡ true
  pub kind : is_kind kinds root.kind ≡ true
  pub start : is_start owners root.kind root.start ≡ true

pub root_parts : (kinds : ℕ) (owners : List ℕ) (root : RootDecl) → is_root kinds owners root ≡ true → IsRoot kinds owners root
root_parts kinds owners root is =
    let name = and_parts (is_name root.name) (is_kind kinds root.kind && is_start owners root.kind root.start) is in
    let rest = and_parts (is_kind kinds root.kind) (is_start owners root.kind root.start) name.1 in
    record { name = name.0; kind = rest.0; start = rest.1 }

pub record Parts (text : Text) : Type 0 where
  pub kinds : KindParts text.kinds
  pub fields : FieldParts (length text.kinds) text.fields
  pub fields_count : length text.fields ≤ 16
  pub nodes : NodeParts (length text.kinds) text.fields text.nodes
  pub roots : Declared 1 256 (λ root. root.name) (is_root (length text.kinds) (owners_of text.nodes)) text.roots
  pub ops : Declared 1 16 (λ op. op.name) (is_op (length text.kinds) (length text.fields) (length text.roots)) text.ops

-- the parts of a text within the limits
pub parts_of : (text : Text) → IsWithinLimits text → Parts text
parts_of text h =
    let named = and_parts (are_kinds text.kinds) _ h in
    let first = and_parts (are_fields (length text.kinds) text.fields) _ named.1 in
    let second = and_parts (are_nodes (length text.kinds) text.fields text.nodes) _ first.1 in
    let third = and_parts (are_roots (length text.kinds) (owners_of text.nodes) text.roots) (are_ops (length text.kinds) (length text.fields) (length text.roots) text.ops) second.1 in
    let kinds = kind_parts_of text.kinds named.0 in
    record {
      kinds = kinds;
      fields = field_parts_of (length text.kinds) text.fields first.0;
      fields_count = few_fields (length text.kinds) text.fields first.0 kinds.count.few;
      nodes = node_parts_of (length text.kinds) text.fields text.nodes second.0;
      roots = declared 1 256 _ _ text.roots third.0;
      ops = declared 1 16 _ _ text.ops third.1;
    }

-- a method's instructions
pub record Method (kinds fields roots : ℕ) (code : List Instr) : Type 0 where
  pub count : Between 1 256 code
  pub each : list_all (is_instr kinds fields roots) code ≡ true

pub method_of : (kinds fields roots : ℕ) (code : List Instr) → is_method kinds fields roots code ≡ true → Method kinds fields roots code
method_of kinds fields roots code h =
    let parts = and_parts (has_between 1 256 code) (list_all (is_instr kinds fields roots) code) h in
    record { count = between 1 256 code parts.0; each = parts.1 }

pub record OpParts (kinds fields roots : ℕ) (op : Op) : Type 0 where
  pub named : is_name op.name ≡ true
  pub args : op.args ≤ 4
  pub generator : Method kinds fields roots op.generator
  pub wrapup : Method kinds fields roots op.wrapup
  pub news : news_of op ≤ 4

-- the parts of an operation within the limits
pub op_parts_of : (kinds fields roots : ℕ) (op : Op) → is_op kinds fields roots op ≡ true → OpParts kinds fields roots op
op_parts_of kinds fields roots op h =
    let name = and_parts _ _ h in
    let args = and_parts (nat_le op.args 4) _ name.1 in
    let generator = and_parts (is_method kinds fields roots op.generator) _ args.1 in
    let wrapup = and_parts (is_method kinds fields roots op.wrapup) (nat_le (news_of op) 4) generator.1 in
    record {
      named = (and_parts _ _ name.0).0;
      args = leb-true _ _ args.0;
      generator = method_of kinds fields roots op.generator generator.0;
      wrapup = method_of kinds fields roots op.wrapup wrapup.0;
      news = leb-true _ _ wrapup.1;
    }
