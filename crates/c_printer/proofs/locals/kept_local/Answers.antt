use Rattle.std.proofs.Common.{arith}
use Rattle.c_printer.specs.Names.{operation_names}
use Rattle.c_printer.proofs.LocalsPut.{no_local}
use Rattle.c_printer.proofs.locals.kept_local.Goals as goal

pub returns-in_default : goal.returns-in_default
returns-in_default c = no_local operation_names c.args.d (omega (arith, c.requires, c.in_default))
