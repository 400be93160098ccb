use Rattle.std.proofs.Common.{rules}
use Rattle.document_runs.proofs.building.answer_at.Goals as goal

pub returns-in-Some : goal.returns-in-Some
returns-in-Some c = search rules

pub returns-then-index-replies : goal.returns-then-index-replies
returns-then-index-replies c = search rules

pub returns-else-running : goal.returns-else-running
returns-else-running c = search rules
