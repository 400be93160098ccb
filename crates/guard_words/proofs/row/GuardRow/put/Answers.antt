use Rattle.std.proofs.Common.{rules}
use Rattle.guard_words.proofs.row.GuardRow.put.Goals as goal

pub returns : goal.returns
returns c = search rules
