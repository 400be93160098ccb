use Rattle.epoch_relation.proofs.Worlds.{worlds_step, calls_are_taken}
use Rattle.epoch_relation.proofs.laws.worlds_go_on.Goals as goal

pub returns-clause-steps : goal.returns-clause-steps
returns-clause-steps c = worlds_step

pub returns-clause-calls : goal.returns-clause-calls
returns-clause-calls c = calls_are_taken
