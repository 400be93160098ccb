use Rattle.epoch_rows.proofs.WrapUp.{wrap_up_rows as the_wrap_up, tally_rows as the_tally}
use Rattle.epoch_rows.proofs.wrap_up_rows.Goals as goal

pub returns-clause-wrap_up : goal.returns-clause-wrap_up
returns-clause-wrap_up c = the_wrap_up

pub returns-clause-tally : goal.returns-clause-tally
returns-clause-tally c = the_tally
