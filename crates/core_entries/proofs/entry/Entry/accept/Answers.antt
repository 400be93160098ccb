use Rattle.std.proofs.Common.{rules}
use Rattle.core_entries.proofs.entry.Entry.accept.Goals as goal

pub accept_in-requires-clause-lawful : goal.accept_in-requires-clause-lawful
accept_in-requires-clause-lawful c = search rules

pub returns-clause-after : goal.returns-clause-after
returns-clause-after c = search rules
