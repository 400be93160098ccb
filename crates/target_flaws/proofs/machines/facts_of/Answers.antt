use Rattle.std.proofs.Common.{◌∙◌, arith}
use Rattle.target_flaws.specs.Machines.{machine_after}
use Rattle.target_flaws.proofs.Ways.{sees_all, moves_closed, moves_counted}
use Rattle.target_flaws.proofs.Checked.{machine_stays}
use Rattle.target_flaws.proofs.machines.facts_of.Goals as goal

pub of_moves-requires-clause-some : goal.of_moves-requires-clause-some
of_moves-requires-clause-some c = omega (arith, moves_counted (machine_after c.args.machine) c.args.code.now c.deref.result.now (c.deref.ensures.value ∙ c.in_ok-moves.ensures), c.requires.some)

pub of_moves-requires-clause-few : goal.of_moves-requires-clause-few
of_moves-requires-clause-few c = omega (arith, moves_counted (machine_after c.args.machine) c.args.code.now c.deref.result.now (c.deref.ensures.value ∙ c.in_ok-moves.ensures), c.requires.few)

pub of_moves-requires-clause-closed : goal.of_moves-requires-clause-closed
of_moves-requires-clause-closed c = moves_closed (machine_after c.args.machine) (machine_stays c.args.machine) c.args.code.now c.deref.result.now (c.deref.ensures.value ∙ c.in_ok-moves.ensures)

pub returns : goal.returns
returns c = sees_all (machine_after c.args.machine) (machine_stays c.args.machine) c.args.code.now c.deref.result.now c.in_ok-facts.facts (c.deref.ensures.value ∙ c.in_ok-moves.ensures) c.in_ok-facts.ensures
