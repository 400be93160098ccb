use Rattle.std.proofs.Common.{rules}
use Rattle.histories.proofs.shared.with_value.Goals as goal

pub returns : goal.returns
returns c = search rules
