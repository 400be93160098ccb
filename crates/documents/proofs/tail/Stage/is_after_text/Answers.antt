use Rattle.std.proofs.Common.{rules}
use Rattle.documents.proofs.tail.Stage.is_after_text.Goals as goal

pub returns-in-Slots : goal.returns-in-Slots
returns-in-Slots c = search rules
