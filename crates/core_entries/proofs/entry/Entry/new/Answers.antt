use Rattle.std.proofs.Common.{rules}
use Rattle.core_entries.proofs.entry.Entry.new.Goals as goal

pub invariant_of-result : goal.invariant_of-result
invariant_of-result c = search rules

pub returns-clause-made : goal.returns-clause-made
returns-clause-made c = search rules
