-- What a pool opens with: the first values of roots, and the initial nodes. The templates are the code's constants.
use Rattle.std.specs.Prelude.{ℕ, List, [], ◌++◌}
use Rattle.std.specs.List.{flat_map}
use Rattle.norm_lang.specs.declared.text.Start.{Start}
use Rattle.norm_lang.specs.declared.text.Start.TheVariants as starts
use Rattle.norm_lang.specs.declared.text.RootDecl.{RootDecl}
use Rattle.norm_lang.specs.declared.text.NodeDecl.{NodeDecl}
use Rattle.c_printer.specs.declared.templates.TheConstants.{ROOTS, FIRST, NODES, NODE, NODE_END}
use Rattle.c_printer.specs.Filling.{filled}

-- a first value: an initial node by its number from 1, or else a number; null is the number 0
unfoldable pub first_text : Start → List ℕ
first_text (starts.Value number) = filled [] 0 number FIRST.now
first_text (starts.Node node) = filled [] node 0 FIRST.now

abbrev pub first_texts : List Start → List ℕ
first_texts values = flat_map first_text values

abbrev pub root_texts : List RootDecl → List ℕ
root_texts roots = flat_map (λ root. first_text root.start) roots

-- what stands before the first values of roots
unfoldable pub roots_begin : List ℕ → List ℕ
roots_begin name = filled name 0 0 ROOTS.now

-- and between them and the initial nodes
unfoldable pub nodes_begin : List ℕ → List ℕ
nodes_begin name = filled name 0 0 NODES.now

unfoldable pub node_begin : ℕ → List ℕ
node_begin kind = filled [] kind 0 NODE.now

unfoldable pub node_end : List ℕ
node_end = filled [] 0 0 NODE_END.now

abbrev pub node_text : NodeDecl → List ℕ
node_text node = node_begin node.owner ++ (first_texts node.values ++ node_end)

abbrev pub node_texts : List NodeDecl → List ℕ
node_texts nodes = flat_map node_text nodes

abbrev pub start_text : List ℕ → List RootDecl → List NodeDecl → List ℕ
start_text name roots nodes = roots_begin name ++ (root_texts roots ++ (nodes_begin name ++ node_texts nodes))
