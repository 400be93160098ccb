use Rattle.std.proofs.Common.{◌≡◌, ◌+◌, ◌-◌, ◌≤◌, length, vec_len, vec_capacity}
use Rattle.norm_parser.specs.Instruction.{AreFrom, AreLeftOf, entries_from}
use Rattle.norm_parser.proofs.instruction.add_entries.Given as goal

abbrev pub invariant-loop : goal.invariant-loop
invariant-loop l = record {
  same :
      entries_from l.fields l.roots (l.fn.next + length l.fn.rest) (l.count - l.counter) l.entries.items l.rest
      ≡ entries_from l.fields l.roots (l.fn.next + length l.fn.rest) l.count l.fn.entries.items l.fn.rest;
  ordered : AreFrom l.next l.rest;
  past : l.next + length l.rest ≡ l.fn.next + length l.fn.rest;
  left : AreLeftOf l.fn.rest l.rest;
  places : vec_len l.entries + (l.count - l.counter) ≤ vec_capacity l.entries;
}
