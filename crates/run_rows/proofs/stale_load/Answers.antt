use Rattle.run_rows.proofs.Names.{recycled_names, held_names, recycled_load}
use Rattle.run_rows.proofs.stale_load.Goals as goal

pub returns-clause-names : goal.returns-clause-names
returns-clause-names c = recycled_names

pub returns-clause-held : goal.returns-clause-held
returns-clause-held c = held_names

pub returns-clause-load : goal.returns-clause-load
returns-clause-load c = recycled_load
