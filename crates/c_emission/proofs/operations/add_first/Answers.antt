use Rattle.c_emission.proofs.operations.add_first.Goals as goal

pub returns : goal.returns
returns c = c.in_ok-extend_from_slice.ensures.items
