use Rattle.run_ahead.proofs.Tests.{tests_agree}
use Rattle.run_ahead.proofs.laws.tests_agree.Goals as goal

pub returns : goal.returns
returns c = tests_agree
