-- Validated guards of a core run: for each hazard word what has been made of it, as a fold of the run.
--
-- A caller's steps tell besides which registers its method run has set, in local code too: a wrap-up that publishes any other
-- register publishes what it may have held since the commit.
use Rattle.std.specs.Prelude.{ℕ, zero, suc, ◌≡◌, ◌==◌, Bool, true, false, List, [], ◌∷◌, Option, Some, None, slice_get}
use Rattle.target_code.specs.declared.target.Target.{Target}
use Rattle.target_code.specs.declared.target.TargetInstr.{TargetInstr}
use Rattle.target_code.specs.declared.target.TargetInstr.TheVariants.{Plain, Check, Guard}
use Rattle.phase_pools.specs.Accesses.{WordAccess}
use Rattle.source_machine.specs.MethodRuns.{put}
use Rattle.caller_parts.specs.declared.routine.Routine.{Routine}
use Rattle.caller_parts.specs.declared.routine.Routine.TheVariants.{Idle, LoadSeen, At, InList, Retires, Restarts, Clears, Claims, Zeroes, Announces}
use Rattle.caller_parts.specs.Settings.{Setting}
use Rattle.caller_steps.specs.Entries.{Entry, instr_in}
use Rattle.caller_parts.specs.Operands.{register_number, slot_in}
use Rattle.caller_steps.specs.Clearing.{restart_next, clear_next}
use Rattle.caller_steps.specs.Wants.{wants}
use Rattle.core_runs.specs.Machine.{CoreState, CoreEvent, Takes, Steps, core_event, core_start, found_by}
use Rattle.oa_simulation.specs.sim_relation.Steps.{is_counted}
use Rattle.oa_simulation.specs.sim_relation.WasSet.{none_set, set_after_access}

-- a hazard word: it is 0 or isn't counted, or a method run has begun since it was published and no check had passed by then; a `grd`
-- has published it, and no check of the same method run has passed since; or one has, and the word is unchanged since
pub data Mark : Type 0 where
  Absent : Mark
  Published : Mark
  Validated : Mark

-- of one caller: the registers of references that its present method run has set, and its hazard words by registers
pub record Marks : Type 0 where
  pub was_set : ℕ → Bool
  pub hazards : ℕ → Mark

-- a check passes
abbrev pub passed : Mark → Mark
passed Absent = Absent
passed Published = Validated
passed Validated = Validated

-- a method begins, or begins again: its checks validate no guard of another run. In the runs of a barred target this asks no more than
-- that the method be the same: before a method begins again all guards are cleared but those that its wrap-up keeps, and a wrap-up
-- publishes none of these
abbrev pub begun : Mark → Mark
begun Absent = Absent
begun Published = Absent
begun Validated = Validated

-- a `grd` publishes a register's slot, if it counts; null has none
abbrev pub published : Bool → ℕ → Mark
published false slot = Absent
published true zero = Absent
published true (suc j) = Published

-- a `grd` that finds in a validated word the slot that it stores leaves the word unchanged, and its guard validated. One that isn't
-- counted publishes nothing; if it stores that very slot, the word is unchanged all the same
abbrev pub restored : Bool → Mark → Mark → Mark
restored false before stored = stored
restored true Absent stored = stored
restored true Published stored = stored
restored true Validated stored = Validated

abbrev pub checked : Bool → (ℕ → Mark) → ℕ → Mark
checked true hazards = λ r. passed (hazards r)
checked false hazards = λ r. begun (hazards r)

-- one hazard word is cleared
abbrev pub cleared : Option ℕ → (ℕ → Mark) → ℕ → Mark
cleared None hazards = hazards
cleared (Some r) hazards = put hazards r Absent

-- after the access at an instruction found a word. A `grd` in a wrap-up of a register that this run of it hasn't set isn't counted
abbrev pub instr_marks : Entry → Option TargetInstr → ℕ → (ℕ → Bool) → (ℕ → Mark) → ℕ → Mark
instr_marks e None word were hazards = hazards
instr_marks e (Some (Plain i)) word were hazards = hazards
instr_marks e (Some Check) word were hazards = checked (word == e.hand.seen) hazards
instr_marks e (Some (Guard r)) word were hazards =
    put hazards (register_number r)
    (restored (word == slot_in e.hand.registers r) (hazards (register_number r)) (published (is_counted e were (register_number r)) (slot_in e.hand.registers r)))

-- after each of a caller's accesses
abbrev pub hazard_marks : Target → Entry → Routine → ℕ → (ℕ → Bool) → (ℕ → Mark) → ℕ → Mark
hazard_marks target e Idle word were hazards = hazards
hazard_marks target e (LoadSeen why) word were hazards = λ r. begun (hazards r)
hazard_marks target e At word were hazards = instr_marks e (instr_in target e) word were hazards
hazard_marks target e (InList k) word were hazards = hazards
hazard_marks target e (Retires retirement go) word were hazards = hazards
hazard_marks target e Restarts word were hazards = cleared (restart_next target e) hazards
hazard_marks target e (Clears next) word were hazards = cleared (clear_next target next e) hazards
hazard_marks target e (Claims claim) word were hazards = hazards
hazard_marks target e (Zeroes k field) word were hazards = hazards
hazard_marks target e (Announces announcing) word were hazards = hazards

-- and the local code after it
abbrev pub step_marks : Target → Setting → Entry → ℕ → Marks → Marks
step_marks target setting e word marks = record {
  was_set = set_after_access target e e.routine word marks.was_set;
  hazards = hazard_marks target e e.routine word marks.was_set marks.hazards;
}

abbrev pub wanted_marks : Target → Setting → CoreState → ℕ → Entry → Option WordAccess → (ℕ → Marks) → ℕ → Marks
wanted_marks target setting state c e None marks = marks
wanted_marks target setting state c e (Some a) marks = put marks c (step_marks target setting e (found_by setting state a) (marks c))

abbrev pub entry_marks : Target → Setting → CoreState → ℕ → Option Entry → (ℕ → Marks) → ℕ → Marks
entry_marks target setting state c None marks = marks
entry_marks target setting state c (Some e) marks = wanted_marks target setting state c e (wants target e) marks

-- of all callers, after an event
abbrev pub event_marks : Target → Setting → CoreState → CoreEvent → (ℕ → Marks) → ℕ → Marks
event_marks target setting state (Takes c call) marks = marks
event_marks target setting state (Steps c) marks = entry_marks target setting state c (slice_get state.entries c) marks

abbrev pub marks_on : Option CoreState → (CoreState → (ℕ → Marks) → ℕ → Marks) → (ℕ → Marks) → ℕ → Marks
marks_on None next marks = marks
marks_on (Some state) next marks = next state marks

-- of events one after another
abbrev pub run_marks : Target → Setting → List CoreEvent → CoreState → (ℕ → Marks) → ℕ → Marks
run_marks target setting [] state marks = marks
run_marks target setting (event ∷ events) state marks = marks_on (core_event target setting state event) (run_marks target setting events) (event_marks target setting state event marks)

-- at a run's start no hazard word was published
abbrev pub no_marks : ℕ → Marks
no_marks c = record { was_set = none_set; hazards = λ r. Absent }

-- a validated guard: a hazard word that isn't 0, which a `grd` of the caller has published, which a later check of the same method
-- passed, and which is unchanged since. A `grd` in a wrap-up of a register that this wrap-up run hasn't set isn't counted
abbrev pub IsValidated : Target → Setting → List CoreEvent → ℕ → ℕ → Type 0
IsValidated target setting events c r = (run_marks target setting events (core_start target setting) no_marks c).hazards r ≡ Validated
