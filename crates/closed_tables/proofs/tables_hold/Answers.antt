use Rattle.closed_tables.proofs.Along.{tables_hold}
use Rattle.closed_tables.proofs.tables_hold.Goals as goal

pub returns : goal.returns
returns c = tables_hold
