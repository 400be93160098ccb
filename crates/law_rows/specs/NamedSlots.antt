-- States in which something names a slot that no caller has claimed: the slot isn't untouched in any of them.
use Rattle.std.specs.Prelude.{◌≡◌, ℕ, ◌++◌, false, List, [], ◌∷◌}
use Rattle.norm_lang.specs.declared.registers.Registers.{Registers}
use Rattle.norm_lang.specs.Registers.{first_registers, with_reference}
use Rattle.guard_words.specs.Guards.{no_guards}
use Rattle.phase_pools.specs.declared.stages.SweepStage.TheVariants as sweeps
use Rattle.phase_pools.specs.declared.stages.ClaimStage.TheVariants as stages
use Rattle.phase_pools.specs.declared.stages.RetireStage.TheVariants as retiring
use Rattle.phase_pools.specs.declared.stages.Scheme.TheVariants.{Warned}
use Rattle.phase_pools.specs.Pools.{sweep_begun}
use Rattle.caller_parts.specs.declared.routine.AfterRetire.TheVariants as retires
use Rattle.caller_parts.specs.declared.routine.Routine.{Routine}
use Rattle.caller_parts.specs.declared.routine.Routine.TheVariants.{Retires, Claims}
use Rattle.caller_steps.specs.declared.entry.Hand.{Hand}
use Rattle.caller_steps.specs.Entries.{Entry, idle_entry, empty_hand}
use Rattle.core_runs.specs.Machine.{CoreState, core_start}
use Rattle.core_rows.specs.Short.{r1, cradles_of}
use Rattle.claim_laws.specs.Untouched.{IsUntouched}
use Rattle.corner_rows.specs.CornerTargets.{four_target}
use Rattle.corner_rows.specs.FourRows.{four_setting}
use Rattle.law_rows.specs.RowStates.{with_words}

-- the words at the start of one caller and four slots, by a hazard, the status of slot 4 (ready, 4), and a root of references
abbrev pub row_words : (hazard status root : ℕ) → List ℕ
row_words hazard status root =
    (1 ∷ 0 ∷ 1 ∷ 0 ∷ 0 ∷ 0 ∷ 0 ∷ 0 ∷ 0 ∷ 0 ∷ hazard ∷ [])
    ++ ((5 ∷ 4 ∷ 4 ∷ 4 ∷ status ∷ 0 ∷ 0 ∷ 0 ∷ 0 ∷ 0 ∷ [])
    ++ (0 ∷ root ∷ 0 ∷ 0 ∷ 0 ∷ 8193 ∷ 0 ∷ 2 ∷ 3 ∷ 4 ∷ 0 ∷ []))

abbrev pub held_by : Entry → CoreState
held_by e = record { words = row_words 0 4 0; entries = e ∷ [] }

abbrev pub hand_alone : Hand → CoreState
hand_alone hand = held_by (record (idle_entry 0) { hand = hand })

abbrev pub routine_alone : Routine → CoreState
routine_alone routine = held_by (record (idle_entry 0) { routine = routine })

-- slot 4 in a register
abbrev pub fourth : Registers
fourth = with_reference (first_registers []) r1 (record { node = 4; marked = false })

abbrev pub Untouched : CoreState → Type 0
Untouched state = IsUntouched four_target (four_setting 1 4) state 4

pub record TouchedRows : Type 0 where
  -- with nothing changed these are the words and the entries at the start, where only slot 3's link names slot 4
  pub start : with_words (row_words 0 4 0) ≡ core_start four_target (four_setting 1 4)
  -- used since the first phase, and ready since the second
  pub used : Untouched (with_words (row_words 0 5 0)) → ⊥
  pub ready_later : Untouched (with_words (row_words 0 8 0)) → ⊥
  -- in a hazard, and in a root, without and with a mark
  pub hazard : Untouched (with_words (row_words 4 4 0)) → ⊥
  pub root : Untouched (with_words (row_words 0 4 8)) → ⊥
  pub marked_root : Untouched (with_words (row_words 0 4 9)) → ⊥
  -- in a register, in one of the wrap-up's start, in a guard and in a cradle
  pub register : Untouched (hand_alone (record empty_hand { registers = fourth })) → ⊥
  pub started : Untouched (hand_alone (record empty_hand { started = fourth })) → ⊥
  pub guard : Untouched (hand_alone (record empty_hand { guards = record no_guards { slots = 0 ∷ 0 ∷ 4 ∷ 0 ∷ 0 ∷ 0 ∷ 0 ∷ 0 ∷ [] } })) → ⊥
  pub cradle : Untouched (held_by (record (idle_entry 0) { cradles = cradles_of 0 0 0 4 })) → ⊥
  -- that is retired, that a claim has taken, and that a sweep has gathered
  pub retired : Untouched (routine_alone (Retires (record { slot = 4; stage = retiring.ReadPhase }) retires.Next)) → ⊥
  pub taken : Untouched (routine_alone (Claims (record { kind = 0; stage = stages.StoreUsed 1 4; sweeps = 0; sweep = sweep_begun 8192 Warned }))) → ⊥
  pub gathered : Untouched (routine_alone (Claims (record { kind = 0; stage = stages.Sweeps; sweeps = 0; sweep = record { scheme = Warned; tops = 8192; stage = sweeps.ReadStatus 4; bound = 2; low = 2; gathered = 1 ∷ 4 ∷ [] } }))) → ⊥
