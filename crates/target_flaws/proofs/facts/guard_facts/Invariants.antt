use Rattle.std.proofs.Common.{◌≡◌, length}
use Rattle.norm_lang.specs.declared.text.Reg.TheVariants.{Ref}
use Rattle.target_flaws.specs.Machines.{guard_number_after}
use Rattle.target_flaws.specs.Found.{SeesAll}
use Rattle.target_flaws.proofs.Checked.{Each}
use Rattle.target_flaws.proofs.facts.guard_facts.Given as goal

-- the first machines have their answers
abbrev pub invariant-loop-number : goal.invariant-loop-number
invariant-loop-number l = record { sized : length l.all.items ≡ l.number; each : Each (λ n. SeesAll (guard_number_after (Ref n)) l.code) l.all.items }
