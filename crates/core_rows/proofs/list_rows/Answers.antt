use Rattle.core_rows.proofs.Lists.{list_rows}
use Rattle.core_rows.proofs.Shared.{recycled_rows, spared_rows, helped_rows}
use Rattle.core_rows.proofs.list_rows.Goals as goal

pub returns-clause-alone : goal.returns-clause-alone
returns-clause-alone c = list_rows

pub returns-clause-recycled : goal.returns-clause-recycled
returns-clause-recycled c = recycled_rows

pub returns-clause-spared : goal.returns-clause-spared
returns-clause-spared c = spared_rows

pub returns-clause-helped : goal.returns-clause-helped
returns-clause-helped c = helped_rows
