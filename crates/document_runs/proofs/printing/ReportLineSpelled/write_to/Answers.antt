use Rattle.std.proofs.Common.{rules}
use Rattle.document_runs.proofs.printing.ReportLineSpelled.write_to.Goals as goal

pub returns-clause-bytes : goal.returns-clause-bytes
returns-clause-bytes c = search rules
