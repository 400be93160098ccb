use Rattle.run_judge.proofs.Shortness.{short_is_told}
use Rattle.run_judge.proofs.laws.short_is_told.Goals as goal

pub returns : goal.returns
returns c = short_is_told
