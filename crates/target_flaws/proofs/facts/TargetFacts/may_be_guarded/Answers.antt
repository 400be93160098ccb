use Rattle.std.proofs.Common.{rules}
use Rattle.target_flaws.proofs.facts.TargetFacts.may_be_guarded.Goals as goal

pub returns-in-Ref : goal.returns-in-Ref
returns-in-Ref c = search rules
