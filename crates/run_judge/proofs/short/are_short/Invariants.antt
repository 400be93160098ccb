use Rattle.std.proofs.Common.{◌≡◌, drop}
use Rattle.run_judge.specs.Short.{are_short_from}
use Rattle.run_judge.proofs.short.are_short.Given as goal

-- all calls of the callers before returned
abbrev pub invariant-loop-caller : goal.invariant-loop-caller
invariant-loop-caller l = are_short_from l.caller (drop l.caller l.scripts) l.lists ≡ are_short_from 0 l.scripts l.lists
