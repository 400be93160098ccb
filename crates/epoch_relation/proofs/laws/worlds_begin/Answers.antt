use Rattle.epoch_relation.proofs.Beginning.{worlds_begin}
use Rattle.epoch_relation.proofs.laws.worlds_begin.Goals as goal

pub returns : goal.returns
returns c = worlds_begin
