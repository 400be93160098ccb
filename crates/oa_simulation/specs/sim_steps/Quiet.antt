-- Steps that are quiet in the source: what such a step does before its local code gives no event, or only that a call begins, that
-- a method begins again, or that the call is given up.
use Rattle.std.specs.Prelude.{◌+◌, Bool, true, false, nat_lt}
use Rattle.target_code.specs.declared.target.Target.{Target}
use Rattle.caller_parts.specs.declared.routine.Routine.{Routine}
use Rattle.caller_parts.specs.declared.routine.Routine.TheVariants.{Idle, LoadSeen, At, InList, Retires, Restarts, Clears, Claims, Zeroes, Announces}
use Rattle.caller_parts.specs.Settings.{Setting}
use Rattle.caller_steps.specs.Entries.{Entry, instr_in, zero_count}
use Rattle.caller_steps.specs.Stands.{is_stop}

-- the load at a method's begin, a check, a guard, a clear, each access of a retirement, of a claim and its sweeps, and each store
-- of 0 of a `new` but the last, which makes the node; every other access of an instruction is one of the text
abbrev pub is_quiet_at : Target → Setting → Entry → Routine → Bool
is_quiet_at target setting e Idle = false
is_quiet_at target setting e (LoadSeen why) = true
is_quiet_at target setting e At = is_stop (instr_in target e)
is_quiet_at target setting e (InList k) = false
is_quiet_at target setting e (Retires retirement go) = true
is_quiet_at target setting e Restarts = true
is_quiet_at target setting e (Clears next) = true
is_quiet_at target setting e (Claims claim) = true
is_quiet_at target setting e (Zeroes k field) = nat_lt (field + 1) (zero_count target (instr_in target e))
is_quiet_at target setting e (Announces announcing) = true

-- the entry's next step
abbrev pub is_quiet : Target → Setting → Entry → Bool
is_quiet target setting e = is_quiet_at target setting e e.routine
