-- Which registers of references a caller's method run has set, step by step.
use Rattle.std.specs.Prelude.{ℕ, zero, suc, ◌+◌, ◌==◌, Bool, true, false, List, length, Option, Some, None, nat_lt, slice_get}
use Rattle.norm_lang.specs.declared.text.Reg.TheVariants.{Ref}
use Rattle.norm_lang.specs.declared.text.CasEntry.{CasEntry}
use Rattle.norm_lang.specs.declared.text.Instr.{Instr}
use Rattle.norm_lang.specs.declared.text.Instr.TheVariants as instr
use Rattle.norm_lang.specs.declared.registers.Registers.{Registers}
use Rattle.norm_lang.specs.Flow.{passed}
use Rattle.norm_lang.specs.Local.{Spot}
use Rattle.norm_lang.specs.RegisterUse.{set_after}
use Rattle.target_code.specs.declared.target.Target.{Target}
use Rattle.target_code.specs.declared.target.TargetInstr.{TargetInstr}
use Rattle.target_code.specs.declared.target.TargetInstr.TheVariants.{Plain, Check, Guard}
use Rattle.target_code.specs.LocalCode.{target_next_spot}
use Rattle.target_code.specs.PathStates.{over_plain}
use Rattle.phase_pools.specs.Pools.{Retirement, retire_accepts}
use Rattle.caller_parts.specs.declared.routine.AfterRetire.{AfterRetire}
use Rattle.caller_parts.specs.declared.routine.AfterRetire.TheVariants as onward
use Rattle.caller_parts.specs.declared.routine.Routine.{Routine}
use Rattle.caller_parts.specs.declared.routine.Routine.TheVariants.{Idle, LoadSeen, At, InList, Retires, Restarts, Clears, Claims, Zeroes, Announces}
use Rattle.caller_steps.specs.Entries.{Entry, code_in, cradle_of, instr_in, zero_count}
use Rattle.caller_parts.specs.Operands.{code_at, with_word, succeeds, to_retire, with_new}
use Rattle.caller_steps.specs.Clearing.{restart_next, unguarded}
use Rattle.caller_steps.specs.After.{first_spot, is_wrap_up, with_hand}

-- when a method run begins, or begins again
abbrev pub none_set : ℕ → Bool
none_set = λ r. false

-- after the instruction that may stand at a place
abbrev pub set_by : Option TargetInstr → (ℕ → Bool) → ℕ → Bool
set_by o were = λ r. passed (over_plain (set_after (Ref r))) o (were r)

-- after local code from a spot, at most so many instructions
abbrev pub set_if_local : Option Spot → (ℕ → Bool) → (Spot → ℕ → Bool) → ℕ → Bool
set_if_local None were next = were
set_if_local (Some spot) were next = next spot

abbrev pub set_on : List TargetInstr → ℕ → (ℕ → Bool) → Spot → ℕ → Bool
set_on code zero were here = were
set_on code (suc n) were here = set_if_local (target_next_spot code here) were (set_on code n (set_by (slice_get code here.at) were))

-- in the method that an entry runs, from a spot on
abbrev pub set_from : Target → Entry → (ℕ → Bool) → Spot → ℕ → Bool
set_from target e were spot = set_on (code_in target e) (length (code_in target e)) were spot

-- from the next instruction on, with given registers
abbrev pub set_onward : Target → Entry → (ℕ → Bool) → Registers → ℕ → Bool
set_onward target e were registers = set_from target e were (record { at = e.hand.at + 1; registers = registers })

-- from the start of a method
abbrev pub set_begun : Target → Bool → Entry → ℕ → Bool
set_begun target wrapup e =
    set_on (code_at target e.running.call.op wrapup) (length (code_at target e.running.call.op wrapup)) none_set (first_spot wrapup e.running.call.args e.hand.started)

-- after a failed check: the method begins again once no guard is left to clear
abbrev pub set_restarted : Target → Entry → (ℕ → Bool) → Option ℕ → ℕ → Bool
set_restarted target e were None = set_begun target e.hand.wrapup e
set_restarted target e were (Some r) = were

abbrev pub set_checked : Target → Entry → (ℕ → Bool) → Bool → ℕ → Bool
set_checked target e were true = set_onward target e were e.hand.registers
set_checked target e were false = set_restarted target e were (restart_next target e)

-- an exchange that has a slot to retire goes on after its retirement
abbrev pub set_unless_retiring : Target → Entry → (ℕ → Bool) → ℕ → ℕ → Bool
set_unless_retiring target e were zero = set_onward target e were e.hand.registers
set_unless_retiring target e were (suc j) = were

-- an auxiliary exchange sets none itself
abbrev pub set_exchanged : Target → CasEntry → ℕ → Entry → (ℕ → Bool) → Bool → ℕ → Bool
set_exchanged target exchange l e were true = set_unless_retiring target e were (to_retire exchange.retire e.hand.registers)
set_exchanged target exchange l e were false = set_from target e were (record { at = l; registers = e.hand.registers })

-- after the access of an instruction of the text found a word
abbrev pub set_plain : Target → Instr → ℕ → Entry → (ℕ → Bool) → ℕ → Bool
set_plain target (instr.LoadRoot d x) word e were = set_onward target e (set_by (Some (Plain (instr.LoadRoot d x))) were) (with_word e.hand.registers d word)
set_plain target (instr.LoadPick d x n a) word e were = set_onward target e (set_by (Some (Plain (instr.LoadPick d x n a))) were) (with_word e.hand.registers d word)
set_plain target (instr.LoadField d a f) word e were = set_onward target e (set_by (Some (Plain (instr.LoadField d a f))) were) (with_word e.hand.registers d word)
set_plain target (instr.Put a f b) word e were = set_onward target e were e.hand.registers
set_plain target (instr.Cas exchange l) word e were = set_exchanged target exchange l e were (succeeds exchange e.hand.registers word)
set_plain target _ word e were = were

abbrev pub set_at : Target → Option TargetInstr → ℕ → Entry → (ℕ → Bool) → ℕ → Bool
set_at target None word e were = were
set_at target (Some (Plain i)) word e were = set_plain target i word e were
set_at target (Some Check) word e were = set_checked target e were (word == e.hand.seen)
set_at target (Some (Guard r)) word e were = set_onward target e were e.hand.registers

-- after an access of a retirement
abbrev pub set_retired : Target → Entry → (ℕ → Bool) → Option Retirement → AfterRetire → ℕ → Bool
set_retired target e were (Some retirement) go = were
set_retired target e were None onward.Next = set_onward target e were e.hand.registers
set_retired target e were None (onward.List k) = were

-- after a store of 0 of a `new`, by whether more follow: the last one makes the node
abbrev pub set_zeroed : Target → Entry → (ℕ → Bool) → ℕ → Bool → ℕ → Bool
set_zeroed target e were k true = were
set_zeroed target e were k false = set_onward target e (set_by (instr_in target e) were) (with_new (instr_in target e) (cradle_of e k) e.hand.registers)

-- after a hazard word was cleared on the way to a restart
abbrev pub set_cleared : Target → Entry → (ℕ → Bool) → ℕ → Bool
set_cleared target e were = set_restarted target e were (restart_next target e)

-- after the access that an entry makes at a routine found a word
abbrev pub set_after_access : Target → Entry → Routine → ℕ → (ℕ → Bool) → ℕ → Bool
set_after_access target e Idle word were = were
set_after_access target e (LoadSeen why) word were = set_begun target (is_wrap_up why) e
set_after_access target e At word were = set_at target (instr_in target e) word e were
set_after_access target e (InList k) word were = were
set_after_access target e (Retires retirement go) word were = set_retired target e were (retire_accepts retirement word) go
set_after_access target e Restarts word were = set_cleared target (with_hand e (unguarded (restart_next target e) e.hand)) were
set_after_access target e (Clears next) word were = were
set_after_access target e (Claims claim) word were = were
set_after_access target e (Zeroes k field) word were = set_zeroed target e were k (nat_lt (field + 1) (zero_count target (instr_in target e)))
set_after_access target e (Announces announcing) word were = were
