use Rattle.epoch_rows.proofs.Lone.{lone_rows as the_lone, back_rows as the_back}
use Rattle.epoch_rows.proofs.lone_rows.Goals as goal

pub returns-clause-lone : goal.returns-clause-lone
returns-clause-lone c = the_lone

pub returns-clause-back : goal.returns-clause-back
returns-clause-back c = the_back
