use Rattle.std.proofs.Common.{◌≡◌, ◌++◌, drop}
use Rattle.std.specs.List.{flat_map}
use Rattle.c_printer.specs.Filling.{filled_byte}
use Rattle.c_printer.proofs.filling.put_filled.Given as goal

abbrev pub invariant-loop-byte : goal.invariant-loop-byte
invariant-loop-byte l = l.out.items ++ flat_map (filled_byte l.name l.first l.second) (drop l.byte-index l.text) ≡ l.fn.out.items ++ flat_map (filled_byte l.name l.first l.second) l.text
