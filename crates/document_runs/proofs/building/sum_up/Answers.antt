use Rattle.std.proofs.Common.{rules}
use Rattle.document_runs.proofs.Totals.{claims_more}
use Rattle.document_runs.proofs.Totals.{claims_end}
use Rattle.document_runs.proofs.Totals.{restarts_more}
use Rattle.document_runs.proofs.Totals.{restarts_end}
use Rattle.document_runs.proofs.building.sum_up.Goals as goal

pub loop-entry-preserved : goal.loop-entry-preserved
loop-entry-preserved c = search (rules, claims_more, claims_end, restarts_more, restarts_end)
