-- The kinds that registers may have along the paths of a target's methods, in which checks and guards change nothing, and registers
-- that have no others.
use Rattle.std.specs.Prelude.{◌≡◌, ℕ, ◌⊎◌, Bool, true, false, List, Some, slice_get, IsTrue}
use Rattle.norm_lang.specs.declared.text.FieldDecl.{FieldDecl}
use Rattle.norm_lang.specs.declared.text.RootDecl.{RootDecl}
use Rattle.norm_lang.specs.declared.text.CasEntry.{CasEntry}
use Rattle.norm_lang.specs.declared.text.Instr.{Instr}
use Rattle.norm_lang.specs.declared.text.Instr.TheVariants as instr
use Rattle.norm_lang.specs.declared.registers.Registers.{Registers}
use Rattle.norm_lang.specs.Registers.{node_in}
use Rattle.norm_lang.specs.Flow.{state_along}
use Rattle.norm_lang.specs.Kinds.{none_held, given_kinds, kinds_after}
use Rattle.target_code.specs.declared.target.TargetInstr.{TargetInstr}
use Rattle.target_code.specs.declared.target.TargetInstr.TheVariants.{Plain}
use Rattle.target_code.specs.declared.target.TargetOp.{TargetOp}
use Rattle.target_code.specs.Paths.{TargetPath, target_code_of}
use Rattle.target_code.specs.PathStates.{over_plain}

abbrev pub target_kinds_along : List FieldDecl → List RootDecl → (ℕ → ℕ → Bool) → List TargetInstr → List ℕ → ℕ → ℕ → Bool
target_kinds_along fields roots start code path = state_along (over_plain (kinds_after fields roots)) start code path

pub record TargetCommit (code : List TargetInstr) : Type 0 where
  pub at : ℕ
  pub entries : List CasEntry
  pub stands : slice_get code at ≡ Some (Plain (instr.Commit entries))
  pub path : List ℕ
  pub leads : TargetPath code path at

abbrev pub MayStartInTarget : List FieldDecl → List RootDecl → TargetOp → Bool → (ℕ → ℕ → Bool) → Type 0
MayStartInTarget fields roots op false start = start ≡ none_held
MayStartInTarget fields roots op true start = (start ≡ none_held) ⊎ ((c : TargetCommit op.generator) × (start ≡ target_kinds_along fields roots none_held op.generator c.path))

pub record MayHaveInTarget (fields : List FieldDecl) (roots : List RootDecl) (op : TargetOp) (wrapup : Bool) (r at t : ℕ) : Type 0 where
  pub start : ℕ → ℕ → Bool
  pub starts : MayStartInTarget fields roots op wrapup start
  pub path : List ℕ
  pub leads : TargetPath (target_code_of op wrapup) path at
  pub has : IsTrue (target_kinds_along fields roots start (target_code_of op wrapup) path r t)

-- the instruction copies a register of references: what it gives is what that one has
abbrev pub CopiesFrom : List FieldDecl → List RootDecl → ℕ → Instr → Type 0
CopiesFrom fields roots a i = (held : ℕ → ℕ → Bool) (t : ℕ) → given_kinds fields roots i held t ≡ held a t

-- each register of references names null, or a node of a kind that it may have at a place
abbrev pub AreTyped : (ℕ → ℕ) → List FieldDecl → List RootDecl → TargetOp → Bool → ℕ → Registers → Type 0
AreTyped kind_of fields roots op wrapup at registers = (r : ℕ) → (node_in registers r ≡ 0) ⊎ MayHaveInTarget fields roots op wrapup r at (kind_of (node_in registers r))
