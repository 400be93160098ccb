use Rattle.std.proofs.Common.{rules}
use Rattle.document_runs.proofs.printing.is_partial.Goals as goal

pub returns : goal.returns
returns c = search rules
