use Rattle.run_ahead.proofs.Begins.{wrap_ups_begin}
use Rattle.run_ahead.proofs.laws.wrap_ups_begin.Goals as goal

pub returns : goal.returns
returns g c = wrap_ups_begin _ _
