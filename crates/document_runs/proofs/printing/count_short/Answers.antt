use Rattle.std.proofs.Common.{rules}
use Rattle.document_runs.proofs.Counting.{counts_left}
use Rattle.document_runs.proofs.printing.count_short.Goals as goal

pub returns : goal.returns
returns c = search (rules, counts_left)
