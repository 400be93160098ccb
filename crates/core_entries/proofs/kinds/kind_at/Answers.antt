use Rattle.std.proofs.Common.{rules}
use Rattle.core_entries.proofs.kinds.kind_at.Goals as goal

pub returns-in-CompareExchange : goal.returns-in-CompareExchange
returns-in-CompareExchange c = search rules
