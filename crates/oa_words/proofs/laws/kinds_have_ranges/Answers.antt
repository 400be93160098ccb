use Rattle.oa_words.proofs.KindRanges.{kinds_have_ranges}
use Rattle.oa_words.proofs.laws.kinds_have_ranges.Goals as goal

pub returns : goal.returns
returns c = kinds_have_ranges c.args.shape.now c.kept.ensures.sizes.kinds
