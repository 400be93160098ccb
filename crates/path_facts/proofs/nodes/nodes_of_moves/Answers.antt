use Rattle.path_facts.proofs.Fitting.{one_fits}
use Rattle.path_facts.proofs.nodes.nodes_of_moves.Goals as goal

pub push_nodes-requires : goal.push_nodes-requires
push_nodes-requires c = one_fits c.args.moves.now c.loop-one.one-index _ _ c.requires.few c.requires.closed c.loop-one-test.true
