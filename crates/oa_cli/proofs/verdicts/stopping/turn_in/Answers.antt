use Rattle.std.proofs.Common.{arith}
use Rattle.oa_text.proofs.Counts.{length-lines_of-le}
use Rattle.oa_cli.proofs.Halting.{stop_of_read, stop_of_none, stop_without_memory}
use Rattle.oa_cli.proofs.verdicts.stopping.turn_in.Goals as goal

pub read_document-requires : goal.read_document-requires
read_document-requires c = omega (arith, length-lines_of-le c.args.bytes.now, c.requires)

pub returns-in-Ok : goal.returns-in-Ok
returns-in-Ok c = stop_of_read c.args.bytes.now c.in-Ok.document c.turn_of.result c.in-Ok.ensures.exact c.turn_of.ensures

pub returns-in-Err-Memory : goal.returns-in-Err-Memory
returns-in-Err-Memory c = stop_without_memory c.args.bytes.now

pub returns-in-Err-Fault : goal.returns-in-Err-Fault
returns-in-Err-Fault c = stop_of_none c.args.bytes.now _ _ c.in-Err-Fault.field-0-is c.in-Err-Fault.ensures.exact
