-- What a caller of a barred target finds in the registers that an instruction uses, on its own path.
use Rattle.std.specs.Prelude.{◌≡◌, ℕ, Bool, true, List, [], ◌∷◌, Some, slice_get, IsTrue}
use Rattle.std.specs.List.{list_any}
use Rattle.norm_lang.specs.declared.text.Reg.{Reg}
use Rattle.norm_lang.specs.declared.text.CasEntry.{CasEntry}
use Rattle.norm_lang.specs.declared.text.Instr.{Instr}
use Rattle.norm_lang.specs.declared.text.Instr.TheVariants as instr
use Rattle.norm_lang.specs.declared.text.Text.{Text}
use Rattle.norm_lang.specs.Flow.{state_along}
use Rattle.norm_lang.specs.Kept.{holds_reference, IsKept}
use Rattle.norm_lang.specs.RegisterUse.{same_register, operands_of, entry_sources}
use Rattle.target_code.specs.declared.target.TargetInstr.{TargetInstr}
use Rattle.target_code.specs.declared.target.TargetInstr.TheVariants.{Plain, Guard}
use Rattle.target_code.specs.declared.target.Target.{Target}
use Rattle.target_code.specs.Barred.{IsBarred}
use Rattle.target_code.specs.Flaws.{clean_after, GuardState, Free, Validated, guard_after, target_commits, Uses, NeedsGuard}
use Rattle.target_laws.specs.Methods.{Method, code_in, Arrives}

-- whether a register is clean after a path of a method, as the flaws have it: a method begins with clean registers
abbrev pub is_clean_along : List TargetInstr → List ℕ → Reg → Bool
is_clean_along code path r = state_along (clean_after r) true code path

-- what became of a register's guard there
abbrev pub guard_along : List TargetInstr → List ℕ → Reg → GuardState
guard_along code path r = state_along (guard_after r) Free code path

-- the exchanges of an instruction: that of an auxiliary exchange, or those of a commit
abbrev pub entries_of : Instr → List CasEntry
entries_of (instr.Cas entry l) = entry ∷ []
entries_of (instr.Commit entries) = entries
entries_of _ = []

-- each register that an instruction reads is clean, and so is each number that a commit hands over
abbrev pub CleanWhereUsed : Type 0
CleanWhereUsed =
    (target : Target) (text : Text) → IsBarred target text → (method : Method target text) (path : List ℕ) (at : ℕ) (i : TargetInstr) (r : Reg)
    → Arrives method path at i → Uses method.op r i → is_clean_along (code_in method) path r ≡ true

-- each that it needs guarded is under a validated guard
abbrev pub ValidatedWhereNeeded : Type 0
ValidatedWhereNeeded =
    (target : Target) (text : Text) → IsBarred target text → (method : Method target text) (path : List ℕ) (at : ℕ) (i : TargetInstr) (r : Reg)
    → Arrives method path at i → NeedsGuard method.op r i → guard_along (code_in method) path r ≡ Validated

-- and what is under a validated guard is clean, in any code: the check that validated it stands after whatever set it
abbrev pub ValidatedAreClean : Type 0
ValidatedAreClean = (code : List TargetInstr) (path : List ℕ) (r : Reg) → guard_along code path r ≡ Validated → is_clean_along code path r ≡ true

-- each kept reference is clean at a commit
abbrev pub KeptAreClean : Type 0
KeptAreClean =
    (target : Target) (text : Text) → IsBarred target text → (method : Method target text) (path : List ℕ) (at : ℕ) (i : TargetInstr) (r : Reg)
    → Arrives method path at i → IsTrue (target_commits i) → IsKept method.op r → is_clean_along (code_in method) path r ≡ true

-- what one exchange of an instruction reads is clean, its register to retire too
abbrev pub EntriesAreClean : Type 0
EntriesAreClean =
    (target : Target) (text : Text) → IsBarred target text → (method : Method target text) (path : List ℕ) (at : ℕ) (i : Instr) (k : ℕ) (entry : CasEntry) (r : Reg)
    → Arrives method path at (Plain i) → slice_get (entries_of i) k ≡ Some entry → IsTrue (list_any (same_register r) (entry_sources entry))
    → is_clean_along (code_in method) path r ≡ true

-- and each reference among its operands is under a validated guard
abbrev pub EntriesAreValidated : Type 0
EntriesAreValidated =
    (target : Target) (text : Text) → IsBarred target text → (method : Method target text) (path : List ℕ) (at : ℕ) (i : Instr) (k : ℕ) (entry : CasEntry) (r : Reg)
    → Arrives method path at (Plain i) → slice_get (entries_of i) k ≡ Some entry → IsTrue (holds_reference r) → IsTrue (list_any (same_register r) (operands_of entry))
    → guard_along (code_in method) path r ≡ Validated

-- a wrap-up guards none of its kept registers: the guard that the commit left stays
abbrev pub KeptAreNotGuarded : Type 0
KeptAreNotGuarded =
    (target : Target) (text : Text) → IsBarred target text → (method : Method target text) (at : ℕ) (guarded r : Reg) → IsTrue method.wrapup
    → slice_get (code_in method) at ≡ Some (Guard guarded) → IsTrue (same_register r guarded) → ¬ IsKept method.op r
