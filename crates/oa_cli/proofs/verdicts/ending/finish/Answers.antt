use Rattle.std.proofs.Common.{rules}
use Rattle.oa_cli.proofs.verdicts.ending.finish.Goals as goal

pub returns-in-Ok-clause-status : goal.returns-in-Ok-clause-status
returns-in-Ok-clause-status g c = search rules

pub returns-in-Err-clause-status : goal.returns-in-Err-clause-status
returns-in-Err-clause-status g c = search rules
