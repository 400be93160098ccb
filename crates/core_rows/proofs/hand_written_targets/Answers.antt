use Rattle.core_rows.proofs.Compiled.{compiled_rows}
use Rattle.core_rows.proofs.hand_written_targets.Goals as goal

pub returns : goal.returns
returns c = compiled_rows
