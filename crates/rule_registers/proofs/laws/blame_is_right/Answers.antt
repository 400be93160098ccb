use Rattle.rule_registers.proofs.Breaking.{blamed_is_broken, broken_is_blamed}
use Rattle.rule_registers.proofs.laws.blame_is_right.Goals as goal

pub returns-clause-broken : goal.returns-clause-broken
returns-clause-broken c = blamed_is_broken

pub returns-clause-blamed : goal.returns-clause-blamed
returns-clause-blamed c = broken_is_blamed
