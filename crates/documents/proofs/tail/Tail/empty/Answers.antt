use Rattle.std.proofs.Common.{rules}
use Rattle.documents.proofs.tail.Tail.empty.Goals as goal

pub returns : goal.returns
returns c = search rules
