-- How many fields and initial nodes each kind of a target has.
use Rattle.std.specs.Prelude.{ℕ, zero, suc, max, List, [], ◌∷◌, length, ◌==◌}
use Rattle.std.specs.List.{filter}
use Rattle.norm_lang.specs.declared.text.FieldDecl.{FieldDecl}
use Rattle.norm_lang.specs.declared.text.NodeDecl.{NodeDecl}
use Rattle.norm_lang.specs.KindFields.{fields_of}
use Rattle.target_code.specs.declared.target.Target.{Target}

-- how many fields a kind has
abbrev pub field_count : List FieldDecl → ℕ → ℕ
field_count fields t = length (fields_of t fields)

-- the greatest count of fields that one of the first so many kinds has
abbrev pub greatest_of : List FieldDecl → ℕ → ℕ
greatest_of fields zero = 0
greatest_of fields (suc t) = max (greatest_of fields t) (field_count fields t)

-- the same of all kinds of a target: so many fields each slot has
abbrev pub greatest_count : Target → ℕ
greatest_count target = greatest_of target.fields (length target.kinds)

-- how many initial nodes a kind has
abbrev pub node_count : List NodeDecl → ℕ → ℕ
node_count nodes t = length (filter (λ node. node.owner == t) nodes)

-- how many initial nodes each of four kinds has
abbrev pub kind_nodes : List NodeDecl → List ℕ
kind_nodes nodes = node_count nodes 0 ∷ node_count nodes 1 ∷ node_count nodes 2 ∷ node_count nodes 3 ∷ []

-- the same of a target. No node is of a kind that the target doesn't have
abbrev pub node_counts : Target → List ℕ
node_counts target = kind_nodes target.nodes
