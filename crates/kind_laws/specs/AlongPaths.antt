-- What a register may have is closed under the steps of a target's paths.
use Rattle.std.specs.Prelude.{◌≡◌, ℕ, Bool, false, true, List, Some, slice_get, IsTrue}
use Rattle.norm_lang.specs.declared.text.Reg.TheVariants.{Ref}
use Rattle.norm_lang.specs.declared.text.FieldDecl.{FieldDecl}
use Rattle.norm_lang.specs.declared.text.RootDecl.{RootDecl}
use Rattle.norm_lang.specs.declared.text.CasEntry.{CasEntry}
use Rattle.norm_lang.specs.declared.text.Instr.{Instr}
use Rattle.norm_lang.specs.declared.text.Instr.TheVariants as instr
use Rattle.norm_lang.specs.RegisterUse.{sets}
use Rattle.norm_lang.specs.Kinds.{none_held, given_kinds}
use Rattle.target_code.specs.declared.target.TargetInstr.{TargetInstr}
use Rattle.target_code.specs.declared.target.TargetInstr.TheVariants.{Plain}
use Rattle.target_code.specs.declared.target.TargetOp.{TargetOp}
use Rattle.target_code.specs.Paths.{TargetPath, IsTargetSuccessor, target_code_of, target_sets}
use Rattle.kind_laws.specs.TargetKinds.{MayHaveInTarget, CopiesFrom}

-- a register that an instruction doesn't set may have after it what it may have before
abbrev pub KeptKindsStay : Type 0
KeptKindsStay =
    (fields : List FieldDecl) (roots : List RootDecl) (op : TargetOp) (wrapup : Bool) (r at to t : ℕ) (i : TargetInstr)
    → slice_get (target_code_of op wrapup) at ≡ Some i → IsTargetSuccessor (target_code_of op wrapup) at to → target_sets (Ref r) i ≡ false
    → MayHaveInTarget fields roots op wrapup r at t → MayHaveInTarget fields roots op wrapup r to t

-- one that it sets may have what it gives, whatever other registers have, if a path leads to the instruction
abbrev pub GivenKindsCome : Type 0
GivenKindsCome =
    (fields : List FieldDecl) (roots : List RootDecl) (op : TargetOp) (wrapup : Bool) (r at to t : ℕ) (i : Instr) (path : List ℕ)
    → TargetPath (target_code_of op wrapup) path at → slice_get (target_code_of op wrapup) at ≡ Some (Plain i) → IsTargetSuccessor (target_code_of op wrapup) at to
    → sets (Ref r) i ≡ true → IsTrue (given_kinds fields roots i none_held t) → MayHaveInTarget fields roots op wrapup r to t

-- and a copy what its source may have
abbrev pub CopiedKindsCome : Type 0
CopiedKindsCome =
    (fields : List FieldDecl) (roots : List RootDecl) (op : TargetOp) (wrapup : Bool) (r a at to t : ℕ) (i : Instr)
    → slice_get (target_code_of op wrapup) at ≡ Some (Plain i) → IsTargetSuccessor (target_code_of op wrapup) at to
    → sets (Ref r) i ≡ true → CopiesFrom fields roots a i → MayHaveInTarget fields roots op wrapup a at t → MayHaveInTarget fields roots op wrapup r to t

-- what a register may have at a commit it may have where the wrap-up starts
abbrev pub CommitsCarryOver : Type 0
CommitsCarryOver =
    (fields : List FieldDecl) (roots : List RootDecl) (op : TargetOp) (r at t : ℕ) (entries : List CasEntry)
    → slice_get op.generator at ≡ Some (Plain (instr.Commit entries)) → MayHaveInTarget fields roots op false r at t → MayHaveInTarget fields roots op true r 0 t
