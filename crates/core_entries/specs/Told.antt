-- What a step at a load or a check tells under optimistic access, by where the caller stands afterwards.
use Rattle.std.specs.Prelude.{Bool, true, false, Option, Some}
use Rattle.norm_lang.specs.declared.text.Instr.TheVariants as instr
use Rattle.target_code.specs.declared.target.TargetInstr.{TargetInstr}
use Rattle.target_code.specs.declared.target.TargetInstr.TheVariants.{Plain}
use Rattle.caller_parts.specs.declared.routine.MethodStart.TheVariants as starts
use Rattle.caller_parts.specs.declared.routine.AfterClear.TheVariants as clears
use Rattle.caller_parts.specs.declared.routine.Routine.{Routine}
use Rattle.caller_parts.specs.declared.routine.Routine.TheVariants.{Idle, LoadSeen, At, InList, Retires, Restarts, Clears, Claims, Zeroes, Announces}

abbrev pub is_load_at : Option TargetInstr → Bool
is_load_at (Some (Plain (instr.LoadRoot d x))) = true
is_load_at (Some (Plain (instr.LoadPick d x count a))) = true
is_load_at (Some (Plain (instr.LoadField d a f))) = true
is_load_at _ = false

-- whether local code has come to the end of an empty list, or to that of a run, which is told where it owes an access
abbrev pub told_by : Bool → Routine → Bool
told_by owes Idle = owes
told_by owes (LoadSeen starts.Begin) = false
told_by owes (LoadSeen starts.WrapUp) = true
told_by owes (LoadSeen starts.Again) = owes
told_by owes At = false
told_by owes (InList k) = false
told_by owes (Retires retirement go) = false
told_by owes Restarts = false
told_by owes (Clears clears.New) = false
told_by owes (Clears clears.WrapUp) = true
told_by owes (Clears (clears.Reply reply)) = owes
told_by owes (Clears clears.Again) = owes
told_by owes (Claims claim) = false
told_by owes (Zeroes k field) = false
told_by owes (Announces announcing) = false
