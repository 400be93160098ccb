use Rattle.script_driver.proofs.Sequence.{keys_are_own}
use Rattle.script_driver.proofs.laws.keys_are_own.Goals as goal

pub returns : goal.returns
returns c = keys_are_own
