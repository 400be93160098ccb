-- Registers that have only kinds that they may have go on so, step by step.
use Rattle.std.specs.Prelude.{◌≡◌, ℕ, ◌⊎◌, Bool, false, true, List, Some, slice_get, IsTrue}
use Rattle.norm_lang.specs.declared.text.Reg.{Reg}
use Rattle.norm_lang.specs.declared.text.FieldDecl.{FieldDecl}
use Rattle.norm_lang.specs.declared.text.RootDecl.{RootDecl}
use Rattle.norm_lang.specs.declared.text.CasEntry.{CasEntry}
use Rattle.norm_lang.specs.declared.text.Instr.{Instr}
use Rattle.norm_lang.specs.declared.text.Instr.TheVariants as instr
use Rattle.norm_lang.specs.declared.registers.Reference.{Reference}
use Rattle.norm_lang.specs.declared.registers.Registers.{Registers}
use Rattle.norm_lang.specs.Registers.{first_registers, with_reference}
use Rattle.norm_lang.specs.Local.{Spot, local_step}
use Rattle.norm_lang.specs.InstructionRules.{has_wrong_kind}
use Rattle.norm_lang.specs.Kinds.{none_held, given_kinds}
use Rattle.norm_lang.specs.RegisterUse.{destination}
use Rattle.target_code.specs.declared.target.TargetInstr.TheVariants.{Plain}
use Rattle.target_code.specs.declared.target.TargetOp.{TargetOp}
use Rattle.target_code.specs.Paths.{TargetPath, IsTargetSuccessor, target_code_of}
use Rattle.kind_laws.specs.TargetKinds.{AreTyped}

-- a local instruction of the normal form (N1), from a place to which a path leads to one that may follow it. If a register is of another
-- kind than its place needs, it keeps what it holds, though it counts as set: so the law needs the rule
abbrev pub LocalCodeKeepsKinds : Type 0
LocalCodeKeepsKinds =
    (kind_of : ℕ → ℕ) (fields : List FieldDecl) (roots : List RootDecl) (op : TargetOp) (wrapup : Bool) (at : ℕ) (registers : Registers) (i : Instr) (place : ℕ) (spot : Spot) (path : List ℕ)
    → TargetPath (target_code_of op wrapup) path at → slice_get (target_code_of op wrapup) at ≡ Some (Plain i) → has_wrong_kind fields roots i ≡ false → local_step i place registers ≡ Some spot → (to : ℕ) → IsTargetSuccessor (target_code_of op wrapup) at to
    → AreTyped kind_of fields roots op wrapup at registers → AreTyped kind_of fields roots op wrapup to spot.registers

-- a load, whose register gets null or a node of a kind that the instruction gives
abbrev pub LoadsKeepKinds : Type 0
LoadsKeepKinds =
    (kind_of : ℕ → ℕ) (fields : List FieldDecl) (roots : List RootDecl) (op : TargetOp) (wrapup : Bool) (at : ℕ) (registers : Registers) (i : Instr) (d : Reg) (found : Reference) (path : List ℕ)
    → TargetPath (target_code_of op wrapup) path at → slice_get (target_code_of op wrapup) at ≡ Some (Plain i) → destination i ≡ Some d
    → (found.node ≡ 0) ⊎ IsTrue (given_kinds fields roots i none_held (kind_of found.node)) → (to : ℕ) → IsTargetSuccessor (target_code_of op wrapup) at to
    → AreTyped kind_of fields roots op wrapup at registers → AreTyped kind_of fields roots op wrapup to (with_reference registers d found)

-- a `new`, whose register gets a node of its kind
abbrev pub NewNodesKeepKinds : Type 0
NewNodesKeepKinds =
    (kind_of : ℕ → ℕ) (fields : List FieldDecl) (roots : List RootDecl) (op : TargetOp) (wrapup : Bool) (at : ℕ) (registers : Registers) (d : Reg) (kind slot : ℕ) (path : List ℕ)
    → TargetPath (target_code_of op wrapup) path at → slice_get (target_code_of op wrapup) at ≡ Some (Plain (instr.New d kind)) → kind_of slot ≡ kind → (to : ℕ) → IsTargetSuccessor (target_code_of op wrapup) at to
    → AreTyped kind_of fields roots op wrapup at registers → AreTyped kind_of fields roots op wrapup to (with_reference registers d (record { node = slot; marked = false }))

-- at a commit, for the start of the wrap-up
abbrev pub CommitsCarryKinds : Type 0
CommitsCarryKinds =
    (kind_of : ℕ → ℕ) (fields : List FieldDecl) (roots : List RootDecl) (op : TargetOp) (at : ℕ) (registers : Registers) (entries : List CasEntry)
    → slice_get op.generator at ≡ Some (Plain (instr.Commit entries)) → AreTyped kind_of fields roots op false at registers → AreTyped kind_of fields roots op true 0 registers

-- a generator begins with null in each register of references
abbrev pub RestartsKeepKinds : Type 0
RestartsKeepKinds =
    (kind_of : ℕ → ℕ) (fields : List FieldDecl) (roots : List RootDecl) (op : TargetOp) (wrapup : Bool) (at : ℕ) (args : List ℕ) → AreTyped kind_of fields roots op wrapup at (first_registers args)
