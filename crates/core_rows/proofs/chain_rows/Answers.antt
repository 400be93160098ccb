use Rattle.core_rows.proofs.Chains.{returned_rows, circle_rows}
use Rattle.core_rows.proofs.chain_rows.Goals as goal

pub returns-clause-returned : goal.returns-clause-returned
returns-clause-returned c = returned_rows

pub returns-clause-circle : goal.returns-clause-circle
returns-clause-circle c = circle_rows
