-- The instructions of a target's method as small machines see them: where control goes on, and what becomes of the checks of
-- two registers, or of one register's guard. A machine's states are numbers from 0 to 3.
use Rattle.std.specs.Prelude.{ℕ, zero, suc, ◌+◌, Bool, true, false, List, [], ◌∷◌}
use Rattle.norm_lang.specs.declared.forks.Fork.{Fork}
use Rattle.norm_lang.specs.declared.text.Reg.{Reg}
use Rattle.norm_lang.specs.declared.text.Reg.TheVariants.{Num, Ref}
use Rattle.norm_paths.specs.Moves.{fork_to}
use Rattle.path_facts.specs.declared.moves.Move.{Move}
use Rattle.target_code.specs.declared.target.TargetInstr.{TargetInstr}
use Rattle.target_code.specs.Paths.{target_successors}
use Rattle.target_code.specs.Flaws.{clean_after, GuardState, Free, Published, Validated, Dropped, guard_after}
use Rattle.target_flaws.specs.declared.machines.Machine.{Machine}
use Rattle.target_flaws.specs.declared.machines.Machine.TheVariants.{Checks, Guards}

-- where control goes on from an instruction at a place of a method with so many
abbrev pub target_fork_of : ℕ → TargetInstr → ℕ → Fork
target_fork_of count i at = fork_to count (target_successors i at)

-- an instruction at a place, for a machine whose states it changes like this
abbrev pub target_move_of : (TargetInstr → ℕ → ℕ) → ℕ → TargetInstr → ℕ → Move
target_move_of after count i at = record { fork = target_fork_of count i at; after = after i 0 ∷ after i 1 ∷ after i 2 ∷ after i 3 ∷ [] }

-- the moves of instructions, where the first one's place is `at`
abbrev pub moves_from : (TargetInstr → ℕ → ℕ) → ℕ → ℕ → List TargetInstr → List Move
moves_from after count at [] = []
moves_from after count at (i ∷ code) = target_move_of after count i at ∷ moves_from after count (at + 1) code

-- the number of a state in which a number and a reference are clean or not
abbrev pub clean_number : Bool → Bool → ℕ
clean_number true true = 0
clean_number false true = 1
clean_number true false = 2
clean_number false false = 3

-- whether in a state the number is clean
abbrev pub is_number_clean : ℕ → Bool
is_number_clean zero = true
is_number_clean (suc zero) = false
is_number_clean (suc (suc zero)) = true
is_number_clean (suc (suc (suc state))) = false

-- whether in a state the reference is clean
abbrev pub is_reference_clean : ℕ → Bool
is_reference_clean zero = true
is_reference_clean (suc zero) = true
is_reference_clean (suc (suc state)) = false

-- what becomes of the number and of the reference with a number
abbrev pub pair_after : ℕ → TargetInstr → ℕ → ℕ
pair_after n i state = clean_number (clean_after (Num n) i (is_number_clean state)) (clean_after (Ref n) i (is_reference_clean state))

-- the number of a guard's state
abbrev pub guard_number : GuardState → ℕ
guard_number Free = 0
guard_number Published = 1
guard_number Validated = 2
guard_number Dropped = 3

-- and the state with a number
abbrev pub guard_state : ℕ → GuardState
guard_state zero = Free
guard_state (suc zero) = Published
guard_state (suc (suc zero)) = Validated
guard_state (suc (suc (suc n))) = Dropped

-- what becomes of a register's guard
abbrev pub guard_number_after : Reg → TargetInstr → ℕ → ℕ
guard_number_after r i state = guard_number (guard_after r i (guard_state state))

-- what becomes of a machine's state
abbrev pub machine_after : Machine → TargetInstr → ℕ → ℕ
machine_after (Checks n) = pair_after n
machine_after (Guards n) = guard_number_after (Ref n)
