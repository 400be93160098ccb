use Rattle.target_flaws.proofs.Checked.{target_facts}
use Rattle.target_flaws.proofs.facts.TargetFacts.of_code.Goals as goal

pub returns : goal.returns
returns c = target_facts c.args.code.now c.in_ok-checks.checks.items c.in_ok-guards.guards.items c.in_ok-checks.ensures c.in_ok-guards.ensures
