use Rattle.std.proofs.Common.{rules}
use Rattle.target_flaws.proofs.flawed.uses.Goals as goal

pub returns-then-target_commits : goal.returns-then-target_commits
returns-then-target_commits c = search rules
