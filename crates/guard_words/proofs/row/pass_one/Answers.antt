use Rattle.std.proofs.Common.{rules}
use Rattle.guard_words.proofs.row.pass_one.Goals as goal

pub returns-then-slot_at-ne0-clause-at : goal.returns-then-slot_at-ne0-clause-at
returns-then-slot_at-ne0-clause-at c = search rules
