use Rattle.std.proofs.Common.{◌≡◌, ◌++◌, ◌+◌, ◌-◌}
use Rattle.oa_words.specs.Starts.{start_statuses}
use Rattle.core_ground.specs.Starts.{bare_start}
use Rattle.core_ground.proofs.words.put_statuses.Given as goal

-- what is left gives what the whole gives
abbrev pub invariant-loop-slot : goal.invariant-loop-slot
invariant-loop-slot l =
    l.words ++ start_statuses l.setting.sizes (bare_start l.setting) l.slot (l.slots + 1 - l.slot)
    ≡ l.fn.words ++ start_statuses l.setting.sizes (bare_start l.setting) 0 (l.slots + 1)
