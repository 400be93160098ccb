use Rattle.std.proofs.Common.{◌≡◌}
use Rattle.oa_words.specs.SlotKinds.{first_of}
use Rattle.core_ground.proofs.places.first_of.Given as goal

abbrev pub invariant-loop-before : goal.invariant-loop-before
invariant-loop-before l = l.first ≡ first_of l.setting.sizes l.before
