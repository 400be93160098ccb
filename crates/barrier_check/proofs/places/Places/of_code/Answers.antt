use Rattle.barrier_check.proofs.Counts.{are_places}
use Rattle.barrier_check.proofs.places.Places.of_code.Goals as goal

pub returns : goal.returns
returns c at = are_places c.args.code.now c.loop-instr.before.items c.loop-instr.count c.loop-instr.instr-index at c.loop-instr-test.false c.loop-instr.invariant.places c.loop-instr.invariant.all
