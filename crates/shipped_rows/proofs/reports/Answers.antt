use Rattle.shipped_rows.proofs.Rows.{report_rows}
use Rattle.shipped_rows.proofs.reports.Goals as goal

pub returns : goal.returns
returns c = report_rows
