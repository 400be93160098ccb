use Rattle.std.proofs.Common.{rules}
use Rattle.core_entries.proofs.entry.Entry.renumber.Goals as goal

pub returns-clause-numbered : goal.returns-clause-numbered
returns-clause-numbered c = search rules
