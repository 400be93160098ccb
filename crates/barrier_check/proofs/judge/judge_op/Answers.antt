use Rattle.std.proofs.Common.{true}
use Rattle.norm_paths.proofs.Founding.{sized_within}
use Rattle.barrier_check.proofs.judge.judge_op.Goals as goal

pub of_op-requires-clause-wrapup : goal.of_op-requires-clause-wrapup
of_op-requires-clause-wrapup c = sized_within c.args.subject.now.source.now true c.requires.within
