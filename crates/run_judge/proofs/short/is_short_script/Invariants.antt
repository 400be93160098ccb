use Rattle.std.proofs.Common.{◌≡◌, drop}
use Rattle.run_judge.specs.Short.{is_short_from}
use Rattle.run_judge.proofs.short.is_short_script.Given as goal

-- the calls before returned
abbrev pub invariant-loop-index : goal.invariant-loop-index
invariant-loop-index l = is_short_from l.index (drop l.index l.script) l.replies ≡ is_short_from 0 l.script l.replies
