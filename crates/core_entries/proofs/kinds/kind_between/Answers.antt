use Rattle.std.proofs.Common.{rules}
use Rattle.core_entries.proofs.kinds.kind_between.Goals as goal

pub returns-then-at-head : goal.returns-then-at-head
returns-then-at-head c = search rules
