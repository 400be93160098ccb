use Rattle.epoch_rows.proofs.Held.{held_rows as the_held, let_go_rows as the_let_go}
use Rattle.epoch_rows.proofs.held_rows.Goals as goal

pub returns-clause-held : goal.returns-clause-held
returns-clause-held c = the_held

pub returns-clause-let_go : goal.returns-clause-let_go
returns-clause-let_go c = the_let_go
