use Rattle.std.proofs.Common.{◌≡◌, Some, length, take}
use Rattle.row_spelling.specs.Moves.{each_in, move_in, parts_of}
use Rattle.row_spelling.proofs.moves.moves_in.Given as goal

abbrev pub invariant-loop-part : goal.invariant-loop-part
invariant-loop-part l = each_in (move_in l.begins l.goes_on) (take (length l.yielded) (parts_of l.text)) ≡ Some l.moves.items
