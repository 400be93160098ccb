use Rattle.std.proofs.Common.{rules}
use Rattle.oa_cli.proofs.verdicts.telling.status_of.Goals as goal

pub returns-in-Memory : goal.returns-in-Memory
returns-in-Memory c = search rules

pub returns-in-Worked : goal.returns-in-Worked
returns-in-Worked c = search rules

pub returns-in-Certified : goal.returns-in-Certified
returns-in-Certified c = search rules

pub returns-in-LongInput : goal.returns-in-LongInput
returns-in-LongInput c = search rules
