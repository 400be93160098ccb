-- Steps by which a method begins, or begins again.
use Rattle.std.specs.Prelude.{ℕ, ◌==◌, not, Bool, true, false, Option, Some, None}
use Rattle.target_code.specs.declared.target.TargetInstr.{TargetInstr}
use Rattle.target_code.specs.declared.target.TargetInstr.TheVariants.{Plain, Check, Guard}
use Rattle.target_code.specs.declared.target.Target.{Target}
use Rattle.caller_parts.specs.declared.routine.Routine.{Routine}
use Rattle.caller_parts.specs.declared.routine.Routine.TheVariants.{Idle, LoadSeen, At, InList, Retires, Restarts, Clears, Claims, Zeroes, Announces}
use Rattle.caller_steps.specs.Entries.{Entry, instr_in}

-- a check that finds another warning than was seen
abbrev pub fails_at : Option TargetInstr → ℕ → ℕ → Bool
fails_at None seen warning = false
fails_at (Some (Plain i)) seen warning = false
fails_at (Some Check) seen warning = not (warning == seen)
fails_at (Some (Guard r)) seen warning = false

-- the load of the own warning at a method's begin, and a check that fails
abbrev pub renews_at : Target → Entry → Routine → ℕ → Bool
renews_at target e Idle warning = false
renews_at target e (LoadSeen why) warning = true
renews_at target e At warning = fails_at (instr_in target e) e.hand.seen warning
renews_at target e (InList k) warning = false
renews_at target e (Retires retirement go) warning = false
renews_at target e Restarts warning = false
renews_at target e (Clears next) warning = false
renews_at target e (Claims claim) warning = false
renews_at target e (Zeroes k field) warning = false
renews_at target e (Announces announcing) warning = false

-- the entry's next step, by its warning word
abbrev pub renews : Target → Entry → ℕ → Bool
renews target e warning = renews_at target e e.routine warning
