-- The first memory of a text within the limits is typed.
use Rattle.std.proofs.Common.{◌≡◌, ℕ, zero, suc, ◌+◌, ◌<◌, inl, inr, Bool, true, false, List, [], ◌∷◌, map, length, Some, None, refl, ap, ◌∙◌, arith}
use Rattle.std.specs.Prelude.{slice_get, nat_lt, ◌==◌, if◌then◌else◌}
use Rattle.std.specs.List.{list_all}
use Rattle.std.proofs.lemmas.Bool.{and_parts, eqb-true, eq-eqb}
use Rattle.norm_lang.specs.declared.text.FieldKind.{FieldKind}
use Rattle.norm_lang.specs.declared.text.FieldKind.TheVariants as holdings
use Rattle.norm_lang.specs.declared.text.Start.{Start}
use Rattle.norm_lang.specs.declared.text.Start.TheVariants as starts
use Rattle.norm_lang.specs.declared.text.FieldDecl.{FieldDecl}
use Rattle.norm_lang.specs.declared.text.RootDecl.{RootDecl}
use Rattle.norm_lang.specs.declared.text.NodeDecl.{NodeDecl}
use Rattle.norm_lang.specs.declared.text.Text.{Text}
use Rattle.norm_lang.specs.KindFields.{fields_of}
use Rattle.norm_lang.specs.LineWords.{is_owner}
use Rattle.norm_lang.specs.Limits.{is_root, is_start, are_starts, owners_of, is_node, IsWithinLimits}
use Rattle.source_machine.specs.declared.state.NamedNode.{NamedNode}
use Rattle.source_machine.specs.Memory.{kind_of_node}
use Rattle.source_machine.specs.State.{first_value, root_value, named_from, first_memory}
use Rattle.source_machine.proofs.Places.{other_test}
use Rattle.run_ahead.specs.Typed.{IsOfKind, AreOfKinds, AreTypedNodes, IsTyped}
use Rattle.target_laws.proofs.OneKind.{declared, nodes_are, roots_are, root_start}

-- ---- the names of the initial nodes

-- the initial node with a number, counted from 0, has the name that is so many above the first
named_at : (first : ℕ) (nodes : List NodeDecl) (j : ℕ) (k : ℕ) → is_owner (slice_get (owners_of nodes) j) k ≡ true → kind_of_node (first + j) (named_from first nodes) ≡ Some k
named_at first [] j k is = absurd (let no : false ≡ true = is in cc)
named_at first (node ∷ nodes) zero k is =
    let same : (first == (first + 0)) ≡ true = eq-eqb first (first + 0) (omega arith) in
    ap (λ (b : Bool). if b then Some node.owner else kind_of_node (first + 0) (named_from (first + 1) nodes)) same ∙ ap Some (eqb-true node.owner k is)
named_at first (node ∷ nodes) (suc j) k is =
    let other : (first == (first + suc j)) ≡ false = other_test first (first + suc j) (λ (same : first ≡ first + suc j). let no : ⊥ = omega (arith, same) in no) in
    let next : first + suc j ≡ (first + 1) + j = omega arith in
    ap (λ (b : Bool). if b then Some node.owner else kind_of_node (first + suc j) (named_from (first + 1) nodes)) other
    ∙ (ap (λ (n : ℕ). kind_of_node n (named_from (first + 1) nodes)) next ∙ named_at (first + 1) nodes j k is)

-- none has a name below the first
none_below : (first name : ℕ) (nodes : List NodeDecl) → name < first → kind_of_node name (named_from first nodes) ≡ None
none_below first name [] lt = refl
none_below first name (node ∷ nodes) lt =
    let other : (first == name) ≡ false = other_test first name (λ (same : first ≡ name). let no : ⊥ = omega (arith, same, lt) in no) in
    ap (λ (b : Bool). if b then Some node.owner else kind_of_node name (named_from (first + 1) nodes)) other ∙ none_below (first + 1) name nodes (omega (arith, lt))

-- ---- first values

-- the name of each initial node is of the kind that `owners` says
abbrev AreNamed : List ℕ → List NamedNode → Type 0
AreNamed owners nodes = (j k : ℕ) → is_owner (slice_get owners j) k ≡ true → kind_of_node (suc j) nodes ≡ Some k

start_right : (owners : List ℕ) (nodes : List NamedNode) (kind : FieldKind) (start : Start) → AreNamed owners nodes → is_start owners kind start ≡ true → IsOfKind nodes kind (first_value start)
start_right owners nodes holdings.Number (starts.Value n) named is = tt
start_right owners nodes (holdings.Reference k) (starts.Node zero) named is = inl refl
start_right owners nodes (holdings.Reference k) (starts.Node (suc j)) named is = inr (named j k is)
start_right owners nodes _ _ named is = absurd (let no : false ≡ true = is in cc)

starts_right : (owners : List ℕ) (nodes : List NamedNode) (fields : List FieldDecl) (values : List Start) → AreNamed owners nodes → are_starts owners fields values ≡ true
    → AreOfKinds nodes (map (λ field. field.kind) fields) (map first_value values)
starts_right owners nodes [] [] named is = tt
starts_right owners nodes (field ∷ fields) (start ∷ values) named is =
    let parts = and_parts (is_start owners field.kind start) (are_starts owners fields values) is in
    (start_right owners nodes field.kind start named parts.0, starts_right owners nodes fields values named parts.1)
starts_right owners nodes _ _ named is = absurd (let no : false ≡ true = is in cc)

nodes_right : (text : Text) (owners : List ℕ) (all : List NamedNode) (name : ℕ) (some : List NodeDecl) → AreNamed owners all → list_all (is_node (length text.kinds) text.fields owners) some ≡ true
    → AreTypedNodes text all (named_from name some)
nodes_right text owners all name [] named are = tt
nodes_right text owners all name (node ∷ some) named are =
    let parts = and_parts (is_node (length text.kinds) text.fields owners node) (list_all (is_node (length text.kinds) text.fields owners) some) are in
    let values = (and_parts (nat_lt node.owner (length text.kinds)) (are_starts owners (fields_of node.owner text.fields) node.values) parts.0).1 in
    (starts_right owners all (fields_of node.owner text.fields) node.values named values, nodes_right text owners all (name + 1) some named parts.1)

roots_right : (kinds : ℕ) (owners : List ℕ) (nodes : List NamedNode) (roots : List RootDecl) → AreNamed owners nodes → list_all (is_root kinds owners) roots ≡ true
    → AreOfKinds nodes (map (λ root. root.kind) roots) (map root_value roots)
roots_right kinds owners nodes [] named all = tt
roots_right kinds owners nodes (root ∷ roots) named all =
    let parts = and_parts (is_root kinds owners root) (list_all (is_root kinds owners) roots) all in
    (start_right owners nodes root.kind root.start named (root_start kinds owners root parts.0), roots_right kinds owners nodes roots named parts.1)

pub first_typed : (text : Text) → IsWithinLimits text → IsTyped text (first_memory text)
first_typed text within =
    let parts = declared text within in
    let owners = owners_of text.nodes in
    let nodes = named_from 1 text.nodes in
    let named : AreNamed owners nodes = λ j k is. (let next : suc j ≡ 1 + j = omega arith in ap (λ (n : ℕ). kind_of_node n nodes) next ∙ named_at 1 text.nodes j k is) in
    record {
      roots = roots_right (length text.kinds) owners nodes text.roots named (roots_are (length text.kinds) owners text.roots parts.roots);
      nodes = nodes_right text owners nodes 1 text.nodes named (nodes_are (length text.kinds) text.fields text.nodes parts.nodes);
      null = none_below 1 0 text.nodes (omega arith);
    }
