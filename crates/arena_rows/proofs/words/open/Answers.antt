use Rattle.arena_rows.proofs.words.open.Goals as goal

pub invariant_of-result : goal.invariant_of-result
invariant_of-result c = rw (c.in-Ok.ensures.arena) (c.requires.calls, c.requires.count)
