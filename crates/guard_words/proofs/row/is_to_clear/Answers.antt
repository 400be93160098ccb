use Rattle.std.proofs.Common.{rules}
use Rattle.guard_words.proofs.row.is_to_clear.Goals as goal

pub returns-then-slot_at-ne0 : goal.returns-then-slot_at-ne0
returns-then-slot_at-ne0 c = search rules
