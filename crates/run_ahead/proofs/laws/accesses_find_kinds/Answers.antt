use Rattle.run_ahead.proofs.Asked.{accesses_find_kinds, lists_find_kinds}
use Rattle.run_ahead.proofs.laws.accesses_find_kinds.Goals as goal

pub returns-clause-accesses : goal.returns-clause-accesses
returns-clause-accesses g c = accesses_find_kinds _

pub returns-clause-lists : goal.returns-clause-lists
returns-clause-lists g c = lists_find_kinds
