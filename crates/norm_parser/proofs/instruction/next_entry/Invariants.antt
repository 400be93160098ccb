use Rattle.std.proofs.Common.{◌≡◌, ◌+◌, length}
use Rattle.norm_parser.specs.Instruction.{AreFrom, AreLeftOf, next_entry}
use Rattle.norm_parser.proofs.instruction.next_entry.Given as goal

abbrev pub invariant-lines : goal.invariant-lines
invariant-lines l = record {
  same : next_entry l.fields l.roots (l.fn.next + length l.fn.rest) l.rest ≡ next_entry l.fields l.roots (l.fn.next + length l.fn.rest) l.fn.rest;
  ordered : AreFrom l.next l.rest;
  past : l.next + length l.rest ≡ l.fn.next + length l.fn.rest;
  left : AreLeftOf l.fn.rest l.rest;
}

abbrev pub decreases-lines : goal.decreases-lines
decreases-lines l = length l.rest
