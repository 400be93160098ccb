use Rattle.std.proofs.Common.{rules}
use Rattle.guard_words.proofs.row.least.Goals as goal

pub returns-then-is_to_clear : goal.returns-then-is_to_clear
returns-then-is_to_clear c = search rules
