use Rattle.target_laws.proofs.KeptRules.{kept_are_left, kept_stay_unset}
use Rattle.target_laws.proofs.rules.kept_registers_are_left.Goals as goal

pub returns-clause-left : goal.returns-clause-left
returns-clause-left c = kept_are_left

pub returns-clause-unset : goal.returns-clause-unset
returns-clause-unset c = kept_stay_unset
