use Rattle.std.proofs.Common.{rules}
use Rattle.word_runner.proofs.blank.find_place.Goals as goal

pub loop-found-preserved : goal.loop-found-preserved
loop-found-preserved c = search rules
