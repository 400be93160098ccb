use Rattle.std.proofs.Common.{◌≡◌, length}
use Rattle.target_flaws.specs.Machines.{pair_after}
use Rattle.target_flaws.specs.Found.{SeesAll}
use Rattle.target_flaws.proofs.Checked.{Each}
use Rattle.target_flaws.proofs.facts.check_facts.Given as goal

-- the first machines have their answers
abbrev pub invariant-loop-number : goal.invariant-loop-number
invariant-loop-number l = record { sized : length l.all.items ≡ l.number; each : Each (λ n. SeesAll (pair_after n) l.code) l.all.items }
