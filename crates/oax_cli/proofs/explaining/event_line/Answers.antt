use Rattle.std.proofs.Common.{arith}
use Rattle.oa_text.proofs.Counts.{length-lines_of-le}
use Rattle.oax_cli.proofs.explaining.event_line.Goals as goal

pub line_beginning-requires : goal.line_beginning-requires
line_beginning-requires c = omega (arith, length-lines_of-le c.args.bytes.now, c.requires)

pub line_beginning-requires-2 : goal.line_beginning-requires-2
line_beginning-requires-2 c = omega (arith, length-lines_of-le c.args.bytes.now, c.requires)

pub instruction_line-requires : goal.instruction_line-requires
instruction_line-requires c = omega (arith, length-lines_of-le c.args.bytes.now, c.requires)
