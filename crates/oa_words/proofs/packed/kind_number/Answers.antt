use Rattle.std.proofs.Common.{rules}
use Rattle.oa_words.proofs.packed.kind_number.Goals as goal

pub returns-in-Used-clause-is : goal.returns-in-Used-clause-is
returns-in-Used-clause-is c = search rules

pub returns-in-Retired-clause-is : goal.returns-in-Retired-clause-is
returns-in-Retired-clause-is c = search rules
