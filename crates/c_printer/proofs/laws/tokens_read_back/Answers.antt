use Rattle.c_printer.proofs.LineBack.{line_back}
use Rattle.c_printer.proofs.laws.tokens_read_back.Goals as goal

pub returns : goal.returns
returns c = line_back
