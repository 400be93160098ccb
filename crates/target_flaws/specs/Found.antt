-- What was found out about a target's method, once: for each register whether it may be unchecked at an instruction, and for
-- each reference in which states its guard may come there.
use Rattle.std.specs.Prelude.{◌↔◌, ◌<◌, ℕ, Bool, false, List, [], ◌||◌, slice_index_or, IsTrue}
use Rattle.norm_lang.specs.declared.text.Reg.{Reg}
use Rattle.norm_lang.specs.declared.text.Reg.TheVariants.{Num, Ref}
use Rattle.norm_lang.specs.Limits.{is_register}
use Rattle.path_facts.specs.Facts.{comes_in_by}
use Rattle.target_code.specs.declared.target.TargetInstr.{TargetInstr}
use Rattle.target_code.specs.Paths.{OnSomeTargetPath}
use Rattle.target_code.specs.Flaws.{GuardState, MayBeUnchecked, MayBeGuarded}
use Rattle.target_flaws.specs.Machines.{pair_after, guard_number, guard_number_after}

-- the answers for the states of small machines: for each number from 0 to 7 of the machine that sees whether the number and
-- the reference with it are clean, and of the one that sees the reference's guard
pub record TargetFound : Type 0 where
  pub checks : List (List Bool)
  pub guards : List (List Bool)

-- a register may be unchecked at an instruction, as the answers say
abbrev pub may_be_unchecked_by : TargetFound → Reg → ℕ → Bool
may_be_unchecked_by found (Num n) at = comes_in_by (slice_index_or found.checks n []) at 1 || comes_in_by (slice_index_or found.checks n []) at 3
may_be_unchecked_by found (Ref n) at = comes_in_by (slice_index_or found.checks n []) at 2 || comes_in_by (slice_index_or found.checks n []) at 3

-- a register's guard may come to a state at an instruction, as the answers say; a number has none
abbrev pub may_be_guarded_by : TargetFound → Reg → ℕ → ℕ → Bool
may_be_guarded_by found (Num n) at state = false
may_be_guarded_by found (Ref n) at state = comes_in_by (slice_index_or found.guards n []) at state

-- the answers are true of a method
pub record AreTargetFacts (code : List TargetInstr) (found : TargetFound) : Type 0 where
  pub unchecked : (r : Reg) → IsTrue (is_register r) → (at : ℕ) → IsTrue (may_be_unchecked_by found r at) ↔ MayBeUnchecked code r at
  pub guarded : (n : ℕ) → IsTrue (is_register (Ref n)) → (at : ℕ) (state : GuardState) → IsTrue (may_be_guarded_by found (Ref n) at (guard_number state)) ↔ MayBeGuarded code (Ref n) at state

-- answers that are true exactly if a machine that begins in state 0 may be in a state at an instruction
abbrev pub SeesAll : (TargetInstr → ℕ → ℕ) → List TargetInstr → List Bool → Type 0
SeesAll after code answers = (at state : ℕ) → state < 4 → IsTrue (comes_in_by answers at state) ↔ OnSomeTargetPath after 0 code at state

-- those of the machines that see which registers are clean
abbrev pub AreAllChecks : List TargetInstr → List (List Bool) → Type 0
AreAllChecks code all = (n : ℕ) → n < 8 → SeesAll (pair_after n) code (slice_index_or all n [])

-- those of the machines that see the guards of references
abbrev pub AreAllGuards : List TargetInstr → List (List Bool) → Type 0
AreAllGuards code all = (n : ℕ) → n < 8 → SeesAll (guard_number_after (Ref n)) code (slice_index_or all n [])
