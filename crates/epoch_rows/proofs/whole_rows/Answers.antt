use Rattle.epoch_rows.proofs.Whole.{whole_rows as the_whole, again_rows as the_again}
use Rattle.epoch_rows.proofs.whole_rows.Goals as goal

pub returns-clause-whole : goal.returns-clause-whole
returns-clause-whole c = the_whole

pub returns-clause-again : goal.returns-clause-again
returns-clause-again c = the_again
