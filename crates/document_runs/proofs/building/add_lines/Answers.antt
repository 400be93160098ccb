use Rattle.std.proofs.Common.{rules}
use Rattle.document_runs.proofs.Blanking.{lines_more}
use Rattle.document_runs.proofs.Blanking.{lines_end}
use Rattle.document_runs.proofs.building.add_lines.Goals as goal

pub loop-index-preserved : goal.loop-index-preserved
loop-index-preserved c = search (rules, lines_more, lines_end)
