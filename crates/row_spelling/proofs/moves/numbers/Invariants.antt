use Rattle.std.proofs.Common.{◌≡◌, Some, length, take}
use Rattle.row_spelling.specs.Moves.{each_in, number_in, words_of}
use Rattle.row_spelling.proofs.moves.numbers.Given as goal

abbrev pub invariant-loop-digits : goal.invariant-loop-digits
invariant-loop-digits l = each_in number_in (take (length l.yielded) (words_of l.text)) ≡ Some l.numbers.items
