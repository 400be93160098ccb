-- A step's parts as the code finds them: the sign of the access, and the local code that runs after it.
use Rattle.std.specs.Prelude.{ℕ, zero, suc, ◌+◌, Bool, true, false, ◌&&◌, List, [], ◌∷◌, length, Option, Some, None, nat_lt, ◌==◌, slice_get}
use Rattle.norm_lang.specs.declared.text.CasEntry.{CasEntry}
use Rattle.norm_lang.specs.declared.text.Instr.{Instr}
use Rattle.norm_lang.specs.declared.text.Instr.TheVariants as instr
use Rattle.norm_lang.specs.declared.registers.Registers.{Registers}
use Rattle.target_code.specs.declared.target.TargetInstr.{TargetInstr}
use Rattle.target_code.specs.declared.target.TargetInstr.TheVariants.{Plain, Check, Guard}
use Rattle.target_code.specs.declared.target.Target.{Target}
use Rattle.target_code.specs.LocalCode.{target_run}
use Rattle.phase_pools.specs.declared.access.ClaimEnd.{ClaimEnd}
use Rattle.phase_pools.specs.declared.access.ClaimEnd.TheVariants as claim_ends
use Rattle.phase_pools.specs.Pools.{claim_accepts, Retirement, retire_accepts}
use Rattle.caller_parts.specs.declared.routine.MethodStart.{MethodStart}
use Rattle.caller_parts.specs.declared.routine.MethodStart.TheVariants as starts
use Rattle.caller_parts.specs.declared.routine.AnnounceReason.{AnnounceReason}
use Rattle.caller_parts.specs.declared.routine.AnnounceReason.TheVariants as reasons
use Rattle.caller_parts.specs.declared.routine.Announcing.{Announcing}
use Rattle.caller_parts.specs.declared.routine.Announcing.TheVariants as announces
use Rattle.caller_parts.specs.declared.setting.Reclamation.{Reclamation}
use Rattle.caller_parts.specs.declared.setting.Reclamation.TheVariants.{Optimistic, Epochs}
use Rattle.caller_parts.specs.declared.routine.AfterRetire.{AfterRetire}
use Rattle.caller_parts.specs.declared.routine.AfterRetire.TheVariants as retires
use Rattle.caller_parts.specs.declared.routine.Routine.{Routine}
use Rattle.caller_parts.specs.declared.routine.Routine.TheVariants.{Idle, LoadSeen, At, InList, Retires, Restarts, Clears, Claims, Zeroes, Announces}
use Rattle.caller_parts.specs.Settings.{Setting}
use Rattle.caller_parts.specs.Operands.{with_word, list_of, succeeds, to_retire, with_new, code_at}
use Rattle.caller_steps.specs.Entries.{Entry, instr_in, zero_count, cradle_of}
use Rattle.caller_steps.specs.Belongs.{plain_has_access}
use Rattle.caller_steps.specs.Clearing.{restart_next, unguarded}
use Rattle.caller_steps.specs.After.{with_hand, first_spot, is_wrap_up}
use Rattle.core_entries.specs.declared.signs.Sign.{Sign}
use Rattle.core_entries.specs.declared.signs.Sign.TheVariants.{Begin, Access, Fresh, Restart, End, Full, Phases}
use Rattle.core_entries.specs.declared.signs.Run.{Run}

-- ---- the sign of the access

abbrev pub start_named : MethodStart → Sign
start_named starts.Begin = Begin
start_named starts.WrapUp = Restart
start_named starts.Again = Restart

abbrev pub plain_named : Bool → Option Sign
plain_named false = None
plain_named true = Some Access

abbrev pub check_named : Bool → Option Sign
check_named true = None
check_named false = Some Restart

-- under epochs nothing comes of a check
abbrev pub check_named_by : Reclamation → Bool → Option Sign
check_named_by Optimistic passes = check_named passes
check_named_by Epochs passes = None

abbrev pub instr_named : Reclamation → Option TargetInstr → ℕ → ℕ → Option Sign
instr_named by None seen word = None
instr_named by (Some (Plain i)) seen word = plain_named (plain_has_access i)
instr_named by (Some Check) seen word = check_named_by by (word == seen)
instr_named by (Some (Guard r)) seen word = None

abbrev pub list_named : Option CasEntry → Option Sign
list_named None = None
list_named (Some exchange) = Some Access

abbrev pub end_named : Option ClaimEnd → Option Sign
end_named None = None
end_named (Some (claim_ends.Claimed slot)) = None
end_named (Some claim_ends.Full) = Some Full
end_named (Some (claim_ends.PhasesOver p)) = Some (Phases p)

-- the last of the stores of 0 makes the node
abbrev pub stores_more : Target → Entry → ℕ → Bool
stores_more target e field = nat_lt (field + 1) (zero_count target (instr_in target e))

abbrev pub fresh_named : Bool → Option Sign
fresh_named true = None
fresh_named false = Some Fresh

-- the store of the phase begins a run
abbrev pub reason_named : AnnounceReason → Sign
reason_named reasons.Begin = Begin
reason_named reasons.Again = Restart
reason_named reasons.Swept = Restart

abbrev pub announcing_named : Announcing → Option Sign
announcing_named (announces.Loads why) = None
announcing_named (announces.Stores why phase) = Some (reason_named why)
announcing_named (announces.Leaves reply) = None

abbrev pub first_sign : Target → Setting → Entry → ℕ → Routine → Option Sign
first_sign target setting e word Idle = None
first_sign target setting e word (LoadSeen why) = Some (start_named why)
first_sign target setting e word At = instr_named setting.reclamation (instr_in target e) e.hand.seen word
first_sign target setting e word (InList k) = list_named (slice_get (list_of (instr_in target e)) k)
first_sign target setting e word (Retires retirement go) = None
first_sign target setting e word Restarts = None
first_sign target setting e word (Clears next) = None
first_sign target setting e word (Claims claim) = end_named (claim_accepts setting.sizes setting.last claim word).ended
first_sign target setting e word (Zeroes k field) = fresh_named (stores_more target e field)
first_sign target setting e word (Announces announcing) = announcing_named announcing

-- ---- the local code that runs after the access, if any does

abbrev pub next_run : Entry → Bool → Registers → Run
next_run e accessed registers = record { wrapup = e.hand.wrapup; accessed = accessed; at = e.hand.at + 1; registers = registers }

abbrev pub method_run : Bool → Entry → Run
method_run wrapup e = record { wrapup = wrapup; accessed = false; at = 0; registers = (first_spot wrapup e.running.call.args e.hand.started).registers }

abbrev pub restart_run : Entry → Option ℕ → Option Run
restart_run e None = Some (method_run e.hand.wrapup e)
restart_run e (Some r) = None

abbrev pub check_run : Target → Entry → Bool → Option Run
check_run target e true = Some (next_run e e.hand.accessed e.hand.registers)
check_run target e false = restart_run e (restart_next target e)

abbrev pub retire_run : Entry → ℕ → Option Run
retire_run e zero = Some (next_run e e.hand.wrapup e.hand.registers)
retire_run e (suc j) = None

abbrev pub cas_run : Entry → CasEntry → ℕ → Bool → Option Run
cas_run e exchange l true = retire_run e (to_retire exchange.retire e.hand.registers)
cas_run e exchange l false = Some (record { wrapup = e.hand.wrapup; accessed = e.hand.wrapup; at = l; registers = e.hand.registers })

abbrev pub plain_run : Entry → Instr → ℕ → Option Run
plain_run e (instr.LoadRoot d x) word = Some (next_run e e.hand.wrapup (with_word e.hand.registers d word))
plain_run e (instr.LoadPick d x count a) word = Some (next_run e e.hand.wrapup (with_word e.hand.registers d word))
plain_run e (instr.LoadField d a f) word = Some (next_run e e.hand.wrapup (with_word e.hand.registers d word))
plain_run e (instr.Put a f b) word = Some (next_run e e.hand.accessed e.hand.registers)
plain_run e (instr.Cas exchange l) word = cas_run e exchange l (succeeds exchange e.hand.registers word)
plain_run e _ word = None

abbrev pub check_run_by : Reclamation → Target → Entry → Bool → Option Run
check_run_by Optimistic target e passes = check_run target e passes
check_run_by Epochs target e passes = None

abbrev pub guard_run_by : Reclamation → Entry → Option Run
guard_run_by Optimistic e = Some (next_run e e.hand.accessed e.hand.registers)
guard_run_by Epochs e = None

abbrev pub instr_run : Reclamation → Target → Entry → Option TargetInstr → ℕ → Option Run
instr_run by target e None word = None
instr_run by target e (Some (Plain i)) word = plain_run e i word
instr_run by target e (Some Check) word = check_run_by by target e (word == e.hand.seen)
instr_run by target e (Some (Guard r)) word = guard_run_by by e

abbrev pub onward_run : Entry → AfterRetire → Option Run
onward_run e retires.Next = Some (next_run e e.hand.accessed e.hand.registers)
onward_run e (retires.List k) = None

abbrev pub retired_run : Entry → AfterRetire → Option Retirement → Option Run
retired_run e go None = onward_run e go
retired_run e go (Some retirement) = None

-- what is to be cleared after the hazard that is cleared now
abbrev pub restart_after : Target → Entry → Option ℕ
restart_after target e = restart_next target (with_hand e (unguarded (restart_next target e) e.hand))

abbrev pub zeroed_run : Target → Entry → ℕ → Bool → Option Run
zeroed_run target e k true = None
zeroed_run target e k false = Some (next_run e e.hand.accessed (with_new (instr_in target e) (cradle_of e k) e.hand.registers))

abbrev pub announcing_run : Entry → Announcing → Option Run
announcing_run e (announces.Loads why) = None
announcing_run e (announces.Stores why phase) = Some (method_run false e)
announcing_run e (announces.Leaves reply) = None

abbrev pub run_after : Reclamation → Target → Entry → ℕ → Routine → Option Run
run_after by target e word Idle = None
run_after by target e word (LoadSeen why) = Some (method_run (is_wrap_up why) e)
run_after by target e word At = instr_run by target e (instr_in target e) word
run_after by target e word (InList k) = None
run_after by target e word (Retires retirement go) = retired_run e go (retire_accepts retirement word)
run_after by target e word Restarts = restart_run e (restart_after target e)
run_after by target e word (Clears next) = None
run_after by target e word (Claims claim) = None
run_after by target e word (Zeroes k field) = zeroed_run target e k (stores_more target e field)
run_after by target e word (Announces announcing) = announcing_run e announcing

-- ---- where it stops

-- it stops at the end of an empty list, or of a wrap-up run that owes an access
abbrev pub plain_ends : Bool → Instr → Bool
plain_ends owes (instr.Commit []) = true
plain_ends owes (instr.Commit (exchange ∷ exchanges)) = false
plain_ends owes (instr.Return a) = owes
plain_ends owes instr.ReturnNone = owes
plain_ends owes instr.Again = owes
plain_ends owes _ = false

abbrev pub stop_ends : Bool → Option TargetInstr → Bool
stop_ends owes None = false
stop_ends owes (Some (Plain i)) = plain_ends owes i
stop_ends owes (Some Check) = false
stop_ends owes (Some (Guard r)) = false

abbrev pub code_ends : List TargetInstr → Run → Bool
code_ends code run = stop_ends (run.wrapup && run.accessed) (slice_get code (target_run code (length code) (record { at = run.at; registers = run.registers })).at)

abbrev pub run_ends : Target → ℕ → Option Run → Bool
run_ends target op None = false
run_ends target op (Some run) = code_ends (code_at target op run.wrapup) run

-- ---- both

abbrev pub end_signs : Bool → List Sign
end_signs false = []
end_signs true = End ∷ []

abbrev pub signs_of : Option Sign → Bool → List Sign
signs_of None ends = end_signs ends
signs_of (Some sign) ends = sign ∷ end_signs ends
