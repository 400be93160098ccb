-- The signs of a step by what it does: an access of the text, and the end of a list or of a wrap-up run, are told apart.
use Rattle.std.specs.Prelude.{ℕ, Bool, true, false, List, [], ◌∷◌, map, Option, Some, None}
use Rattle.target_code.specs.declared.target.TargetInstr.{TargetInstr}
use Rattle.target_code.specs.declared.target.TargetInstr.TheVariants.{Plain, Check, Guard}
use Rattle.target_code.specs.declared.target.Target.{Target}
use Rattle.caller_parts.specs.declared.routine.Routine.{Routine}
use Rattle.caller_parts.specs.declared.routine.Routine.TheVariants.{Idle, LoadSeen, At, InList, Retires, Restarts, Clears, Claims, Zeroes, Announces}
use Rattle.caller_parts.specs.Settings.{Setting}
use Rattle.caller_steps.specs.Entries.{Entry, instr_in}
use Rattle.caller_steps.specs.Signs as steps
use Rattle.caller_steps.specs.After.{signs}
use Rattle.caller_steps.specs.Wants.{wants}
use Rattle.core_runs.specs.RunSigns.{wanted_signs}
use Rattle.core_entries.specs.declared.signs.Sign.{Sign}
use Rattle.core_entries.specs.declared.signs.Sign.TheVariants.{Begin, Access, Fresh, Restart, End, Full, Phases}

-- the access that the entry makes next is one of the text
abbrev pub is_plain_at : Option TargetInstr → Bool
is_plain_at None = false
is_plain_at (Some (Plain i)) = true
is_plain_at (Some Check) = false
is_plain_at (Some (Guard r)) = false

abbrev pub is_of_text : Target → Entry → Routine → Bool
is_of_text target e Idle = false
is_of_text target e (LoadSeen why) = false
is_of_text target e At = is_plain_at (instr_in target e)
is_of_text target e (InList k) = true
is_of_text target e (Retires retirement go) = false
is_of_text target e Restarts = false
is_of_text target e (Clears next) = false
is_of_text target e (Claims claim) = false
is_of_text target e (Zeroes k field) = false
is_of_text target e (Announces announcing) = false

-- an access of the source is that of the step, or else an end to which local code has come
abbrev pub access_named : Bool → Sign
access_named true = Access
access_named false = End

abbrev pub phase_named : Option ℕ → Sign
phase_named None = Full
phase_named (Some p) = Phases p

abbrev pub named : Bool → steps.Sign → Sign
named own (steps.Begins call) = Begin
named own steps.Accesses = access_named own
named own (steps.Draws slot) = Fresh
named own steps.Renews = Restart
named own (steps.GivesUp phase) = phase_named phase

-- only the first sign can be that of the step's own access
abbrev pub all_named : Bool → List steps.Sign → List Sign
all_named own [] = []
all_named own (sign ∷ more) = named own sign ∷ map (named false) more

-- the signs of the step that finds a word
abbrev pub step_signs : Target → Setting → Entry → ℕ → List Sign
step_signs target setting e word = all_named (is_of_text target e e.routine) (signs target setting e word)

-- the signs of the step that is made next on these words; none of a caller that is idle
abbrev pub signs_told : Target → Setting → List ℕ → Entry → List Sign
signs_told target setting words e = all_named (is_of_text target e e.routine) (wanted_signs target setting (record { words = words; entries = [] }) e (wants target e))
