use Rattle.std.proofs.Common.{rules}
use Rattle.document_runs.proofs.building.report_at.Goals as goal

pub returns : goal.returns
returns c = search rules
