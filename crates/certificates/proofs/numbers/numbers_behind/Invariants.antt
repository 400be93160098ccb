use Rattle.std.proofs.Common.{◌≡◌, length}
use Rattle.certificates.specs.EventLines.{no_numbers, numbers_from}
use Rattle.certificates.proofs.numbers.numbers_behind.Given as goal

abbrev pub invariant-words : goal.invariant-words
invariant-words l = numbers_from l.numbers l.words ≡ numbers_from no_numbers l.fn.words

abbrev pub decreases-words : goal.decreases-words
decreases-words l = length l.words
