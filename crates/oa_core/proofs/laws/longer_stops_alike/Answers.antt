use Rattle.oa_core.proofs.Longer.{longer_stops_alike}
use Rattle.oa_core.proofs.laws.longer_stops_alike.Goals as goal

pub returns : goal.returns
returns c = longer_stops_alike
