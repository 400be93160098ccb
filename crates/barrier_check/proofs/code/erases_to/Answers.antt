use Rattle.barrier_check.proofs.Codes.{erased_by}
use Rattle.barrier_check.proofs.code.erases_to.Goals as goal

pub returns : goal.returns
returns c = erased_by c.in_ok-places.places c.args.code.now c.args.source.now c.leaves.result c.in_ok-places.ensures c.leaves.ensures
