use Rattle.c_rows.proofs.Calling.{thread_rows}
use Rattle.c_rows.proofs.thread_rows.Goals as goal

pub returns : goal.returns
returns c = thread_rows
