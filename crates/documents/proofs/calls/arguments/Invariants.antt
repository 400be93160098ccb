use Rattle.std.proofs.Common.{◌≡◌, length}
use Rattle.documents.specs.TailLines.{arguments_at}
use Rattle.documents.proofs.Arguments.{arguments_from}
use Rattle.documents.proofs.calls.arguments.Given as goal

abbrev pub invariant-words : goal.invariant-words
invariant-words l = arguments_from l.args l.great l.words ≡ arguments_at l.fn.words

abbrev pub decreases-words : goal.decreases-words
decreases-words l = length l.words
