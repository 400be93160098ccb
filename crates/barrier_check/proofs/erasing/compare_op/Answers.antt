use Rattle.std.proofs.Common.{rules}
use Rattle.barrier_check.proofs.erasing.compare_op.Goals as goal

pub returns-in_err-compare_part : goal.returns-in_err-compare_part
returns-in_err-compare_part c = search rules
