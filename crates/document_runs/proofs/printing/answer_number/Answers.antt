use Rattle.std.proofs.Common.{rules}
use Rattle.document_runs.proofs.printing.answer_number.Goals as goal

pub returns-in-Replied-Phases : goal.returns-in-Replied-Phases
returns-in-Replied-Phases c = search rules
