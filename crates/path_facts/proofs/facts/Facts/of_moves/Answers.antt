use Rattle.std.proofs.Common.{◌∙◌}
use Rattle.path_facts.proofs.Arriving.{facts_are, nodes_few, start_inside, nodes_closed}
use Rattle.path_facts.proofs.facts.Facts.of_moves.Goals as goal

pub reach-requires-clause-few : goal.reach-requires-clause-few
reach-requires-clause-few c = nodes_few c.args.moves.now c.deref.result.now c.requires.few (c.deref.ensures.value ∙ c.in_ok-forks.ensures)

pub reach-requires-clause-inside : goal.reach-requires-clause-inside
reach-requires-clause-inside c = start_inside c.args.moves.now c.deref.result.now c.args.start c.requires.some c.requires.begins (c.deref.ensures.value ∙ c.in_ok-forks.ensures)

pub reach-requires-clause-closed : goal.reach-requires-clause-closed
reach-requires-clause-closed c = nodes_closed c.args.moves.now c.deref.result.now c.requires.closed (c.deref.ensures.value ∙ c.in_ok-forks.ensures)

pub returns : goal.returns
returns c = facts_are c.args.moves.now c.args.start c.deref.result.now c.in_ok-marks.marks c.requires.begins c.requires.closed (c.deref.ensures.value ∙ c.in_ok-forks.ensures) c.in_ok-marks.ensures
