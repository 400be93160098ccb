use Rattle.run_ahead.proofs.LocalRuns.{passed_checks_confirm}
use Rattle.run_ahead.proofs.laws.passed_checks_confirm.Goals as goal

pub returns : goal.returns
returns g c = passed_checks_confirm _
