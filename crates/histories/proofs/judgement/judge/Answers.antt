use Rattle.std.proofs.Common.{rules}
use Rattle.histories.proofs.judgement.judge.Goals as goal

pub returns-else-branch : goal.returns-else-branch
returns-else-branch c = search rules
