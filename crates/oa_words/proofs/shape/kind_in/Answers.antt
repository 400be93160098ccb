use Rattle.std.proofs.Common.{rules}
use Rattle.oa_words.proofs.shape.kind_in.Goals as goal

pub loop-kind-preserved : goal.loop-kind-preserved
loop-kind-preserved c = search rules
