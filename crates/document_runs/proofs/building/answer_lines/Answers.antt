use Rattle.std.proofs.Common.{rules}
use Rattle.document_runs.proofs.Answering.{line_answered}
use Rattle.document_runs.proofs.Answering.{all_answered}
use Rattle.document_runs.proofs.building.answer_lines.Goals as goal

pub loop-line-preserved : goal.loop-line-preserved
loop-line-preserved c = search (rules, line_answered, all_answered)
