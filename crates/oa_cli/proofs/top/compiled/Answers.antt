use Rattle.std.proofs.Common.{rules}
use Rattle.oa_cli.proofs.top.compiled.Goals as goal

pub returns-clause-same : goal.returns-clause-same
returns-clause-same c = search rules

pub returns-clause-barred : goal.returns-clause-barred
returns-clause-barred c = search rules
