use Rattle.std.proofs.Common.{◌≡◌, ◌++◌, ◌+◌, ◌-◌}
use Rattle.oa_words.specs.Starts.{start_rows}
use Rattle.core_ground.specs.Running.{pair_of}
use Rattle.core_ground.specs.Starts.{start_of}
use Rattle.core_ground.proofs.words.put_rows.Given as goal

-- what is left gives what the whole gives
abbrev pub invariant-loop-slot : goal.invariant-loop-slot
invariant-loop-slot l =
    l.words ++ start_rows l.setting.sizes (start_of (pair_of l.runs).target l.setting) l.slot (l.slots + 1 - l.slot)
    ≡ l.fn.words ++ start_rows l.setting.sizes (start_of (pair_of l.runs).target l.setting) 0 (l.slots + 1)
