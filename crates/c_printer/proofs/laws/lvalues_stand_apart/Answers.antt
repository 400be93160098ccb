use Rattle.c_printer.proofs.LvaluesApart.{lvalues_apart}
use Rattle.c_printer.proofs.laws.lvalues_stand_apart.Goals as goal

pub returns : goal.returns
returns c = lvalues_apart
