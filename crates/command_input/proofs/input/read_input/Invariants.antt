use Rattle.std.proofs.Common.{◌≡◌, ◌+◌, length, vec_len}
use Rattle.std.specs.Io.KnownBytes.{Consumes}
use Rattle.command_input.specs.declared.input.Standing.TheVariants.{Open}
use Rattle.command_input.proofs.input.read_input.Given as goal

abbrev pub invariant-reads : goal.invariant-reads
invariant-reads g l = record {
  size : length l.buffer ≡ 4096;
  open_still : l.reading.standing ≡ Open;
  most : vec_len l.bytes + l.reading.room ≡ l.limit;
  bytes : Consumes (g.S.Source.left l.fn.input) (g.S.Source.left l.input) l.bytes.items;
  kept : g.S.Source.faults l.input ≡ g.S.Source.faults l.fn.input;
}

abbrev pub decreases-reads : goal.decreases-reads
decreases-reads g l = l.reading.room
