use Rattle.std.proofs.Common.{refl}
use Rattle.c_printer.proofs.laws.names_differ.Goals as goal

pub returns : goal.returns
returns c = (refl, refl)
