-- Where a caller stands, as the code keeps it: the claim apart from all else.
use Rattle.std.specs.Prelude.{Bool, true, false, Option, Some, None}
use Rattle.norm_lang.specs.declared.text.Instr.{Instr}
use Rattle.norm_lang.specs.declared.text.Instr.TheVariants as instr
use Rattle.target_code.specs.declared.target.TargetInstr.{TargetInstr}
use Rattle.target_code.specs.declared.target.TargetInstr.TheVariants.{Plain, Check, Guard}
use Rattle.phase_pools.specs.Pools.{Claim}
use Rattle.caller_parts.specs.declared.routine.Routine.{Routine}
use Rattle.caller_parts.specs.declared.routine.Routine.TheVariants as routines
use Rattle.caller_steps.specs.declared.stand.Stand.{Stand}
use Rattle.caller_steps.specs.declared.stand.Stand.TheVariants as stands

-- a caller that stands in a claim, and keeps none, stands at its instruction
abbrev pub claim_of : Option Claim → Routine
claim_of None = routines.At
claim_of (Some claim) = routines.Claims claim

abbrev pub routine_of : Stand → Option Claim → Routine
routine_of stands.Idle claim = routines.Idle
routine_of (stands.LoadSeen why) claim = routines.LoadSeen why
routine_of stands.At claim = routines.At
routine_of (stands.InList k) claim = routines.InList k
routine_of (stands.Retires retirement go) claim = routines.Retires retirement go
routine_of stands.Restarts claim = routines.Restarts
routine_of (stands.Clears next) claim = routines.Clears next
routine_of stands.Claims claim = claim_of claim
routine_of (stands.Zeroes k field) claim = routines.Zeroes k field
routine_of (stands.Announces announcing) claim = routines.Announces announcing

-- whether a check or a guard is there: no local code, and no end of a method
abbrev pub is_stop : Option TargetInstr → Bool
is_stop None = false
is_stop (Some (Plain i)) = false
is_stop (Some Check) = true
is_stop (Some (Guard r)) = true

-- an instruction that is no access and no local code: a caller that comes to it goes on to something else
abbrev pub leaves : Instr → Bool
leaves (instr.New d kind) = true
leaves (instr.Commit exchanges) = true
leaves (instr.Return a) = true
leaves instr.ReturnNone = true
leaves instr.Again = true
leaves _ = false
