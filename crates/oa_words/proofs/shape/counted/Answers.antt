use Rattle.std.proofs.Common.{rules}
use Rattle.oa_words.proofs.shape.counted.Goals as goal

pub returns-then-number-most : goal.returns-then-number-most
returns-then-number-most c = search rules

pub overflow_cast-result : goal.overflow_cast-result
overflow_cast-result c = search rules
