use Rattle.row_spelling.proofs.Counting.{count_read, count_not_read}
use Rattle.row_spelling.proofs.spelling.count_in.Goals as goal

pub returns-in-Ok : goal.returns-in-Ok
returns-in-Ok c = count_read c.args.digits.now c.parse.result c.in-Ok.count c.parse.ensures.value.0 c.in-Ok.is

pub returns-in-Err : goal.returns-in-Err
returns-in-Err c = count_not_read c.args.digits.now c.parse.result c.in-Err.field-0 c.parse.ensures.value.0 c.in-Err.is
