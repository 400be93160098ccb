use Rattle.std.proofs.Common.{◌≡◌, ◌≤◌, ◌*◌, ◌^◌}
use Rattle.oa_words.specs.SlotKinds.{sum_before}
use Rattle.core_ground.proofs.places.nodes_before.Given as goal

abbrev pub invariant-loop-before : goal.invariant-loop-before
invariant-loop-before l = record { told : l.nodes ≡ sum_before l.setting.nodes l.before; few : l.nodes ≤ l.before * 2 ^ 32 }
