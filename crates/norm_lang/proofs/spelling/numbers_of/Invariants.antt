use Rattle.std.proofs.Common.{◌≡◌, ◌++◌, drop, map}
use Rattle.std.specs.Prelude.{decimal}
use Rattle.norm_lang.specs.Spelling.{spaced}
use Rattle.norm_lang.proofs.spelling.numbers_of.Given as goal

abbrev pub invariant-loop-n : goal.invariant-loop-n
invariant-loop-n l = l.bytes.items ++ spaced (map decimal (drop l.n-index l.numbers)) ≡ spaced (map decimal l.numbers)
