use Rattle.core_rows.proofs.Swaps.{kept_rows, kept_again_rows, peek_rows, given_up_rows}
use Rattle.core_rows.proofs.swap_rows.Goals as goal

pub returns-clause-kept : goal.returns-clause-kept
returns-clause-kept c = kept_rows

pub returns-clause-kept_again : goal.returns-clause-kept_again
returns-clause-kept_again c = kept_again_rows

pub returns-clause-peek : goal.returns-clause-peek
returns-clause-peek c = peek_rows

pub returns-clause-given_up : goal.returns-clause-given_up
returns-clause-given_up c = given_up_rows
