use Rattle.c_printer.proofs.HeaderBack.{headers_back}
use Rattle.c_printer.proofs.laws.headers_read_back.Goals as goal

pub returns : goal.returns
returns c = headers_back
