use Rattle.std.proofs.Common.{◌≡◌, ◌++◌, map, drop}
use Rattle.core_runs.specs.Machine.{root_word}
use Rattle.core_ground.specs.Starts.{home_in}
use Rattle.core_ground.proofs.words.put_roots.Given as goal

-- what is left gives what the whole gives
abbrev pub invariant-loop-root : goal.invariant-loop-root
invariant-loop-root l = l.words ++ map (root_word (home_in l.setting)) (drop l.root-index l.roots) ≡ l.fn.words ++ map (root_word (home_in l.setting)) l.roots
