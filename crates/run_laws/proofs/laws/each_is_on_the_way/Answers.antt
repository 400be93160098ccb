use Rattle.run_laws.proofs.Each.{each_is_on_the_way}
use Rattle.run_laws.proofs.laws.each_is_on_the_way.Goals as goal

pub returns : goal.returns
returns c = each_is_on_the_way
