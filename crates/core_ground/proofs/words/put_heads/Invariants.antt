use Rattle.std.proofs.Common.{◌≡◌, ◌++◌, ◌-◌}
use Rattle.oa_words.specs.Starts.{start_heads}
use Rattle.core_ground.specs.Starts.{bare_start}
use Rattle.core_ground.proofs.words.put_heads.Given as goal

-- what is left gives what the whole gives
abbrev pub invariant-loop-kind : goal.invariant-loop-kind
invariant-loop-kind l =
    l.words ++ start_heads l.setting.sizes (bare_start l.setting) l.kind (l.kinds - l.kind)
    ≡ l.fn.words ++ start_heads l.setting.sizes (bare_start l.setting) 0 (l.kinds)
