use Rattle.corner_rows.proofs.States.{address_rows, guard_word_rows}
use Rattle.corner_rows.proofs.addresses.Goals as goal

pub returns-clause-addresses : goal.returns-clause-addresses
returns-clause-addresses c = address_rows

pub returns-clause-guards : goal.returns-clause-guards
returns-clause-guards c = guard_word_rows
