use Rattle.std.proofs.Common.{rules}
use Rattle.document_runs.proofs.printing.answered.Goals as goal

pub returns-in-Replied-Full : goal.returns-in-Replied-Full
returns-in-Replied-Full c = search rules
