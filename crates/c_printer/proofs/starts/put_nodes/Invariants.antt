use Rattle.std.proofs.Common.{◌≡◌, ◌++◌, drop}
use Rattle.c_printer.specs.Starts.{node_texts}
use Rattle.c_printer.proofs.starts.put_nodes.Given as goal

abbrev pub invariant-loop-node : goal.invariant-loop-node
invariant-loop-node l = l.out.items ++ node_texts (drop l.node-index l.nodes) ≡ l.fn.out.items ++ node_texts l.nodes
