use Rattle.std.proofs.Common.{rules}
use Rattle.core_entries.proofs.entry.Entry.spare.Goals as goal

pub returns : goal.returns
returns c = search rules
