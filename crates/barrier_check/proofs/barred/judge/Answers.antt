use Rattle.std.proofs.Common.{rules}
use Rattle.barrier_check.proofs.Tables.{few_target_ops, erased_count}
use Rattle.barrier_check.proofs.Verifying.{erasing_error, flaw_error}
use Rattle.barrier_check.proofs.barred.judge.Goals as goal

pub compare-requires : goal.compare-requires
compare-requires c = record { few = few_target_ops c.args.target.now c.requires.target }

pub returns-in_err-compare-clause-refused : goal.returns-in_err-compare-clause-refused
returns-in_err-compare-clause-refused c = search (rules, erasing_error)

pub judge_ops-requires-clause-count : goal.judge_ops-requires-clause-count
judge_ops-requires-clause-count c = search (rules, erased_count)

pub returns-clause-refused : goal.returns-clause-refused
returns-clause-refused c = search (rules, flaw_error)
