use Rattle.std.proofs.Common.{rules}
use Rattle.source_machine.proofs.source_state.first_machine.Goals as goal

pub returns : goal.returns
returns c = search rules
