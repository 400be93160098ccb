use Rattle.std.proofs.Common.{◌≡◌, ◌++◌, map, drop}
use Rattle.core_runs.specs.Machine.{value_word}
use Rattle.core_ground.specs.Starts.{home_in}
use Rattle.core_ground.proofs.words.put_starts.Given as goal

-- what is left gives what the whole gives
abbrev pub invariant-loop-start : goal.invariant-loop-start
invariant-loop-start l = l.words ++ map (value_word (home_in l.setting)) (drop l.start-index l.starts) ≡ l.fn.words ++ map (value_word (home_in l.setting)) l.starts
