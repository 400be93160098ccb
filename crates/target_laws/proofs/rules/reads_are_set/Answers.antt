use Rattle.target_laws.proofs.SetRules.{generators_read_set, wrap_ups_read_set}
use Rattle.target_laws.proofs.rules.reads_are_set.Goals as goal

pub returns-clause-generators : goal.returns-clause-generators
returns-clause-generators c = generators_read_set

pub returns-clause-wrap_ups : goal.returns-clause-wrap_ups
returns-clause-wrap_ups c = wrap_ups_read_set
