use Rattle.c_printer.proofs.LinesBack.{lines_back}
use Rattle.c_printer.proofs.laws.lines_read_back.Goals as goal

pub returns : goal.returns
returns c = lines_back
