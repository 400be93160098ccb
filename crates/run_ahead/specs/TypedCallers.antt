-- Callers whose registers name nodes of kinds that they may have where they stand.
use Rattle.std.specs.Prelude.{◌≡◌, ℕ, Bool, true, false, List, Option, Some, None, slice_get}
use Rattle.norm_lang.specs.declared.text.FieldDecl.{FieldDecl}
use Rattle.norm_lang.specs.declared.text.RootDecl.{RootDecl}
use Rattle.norm_lang.specs.declared.text.Instr.TheVariants as instr
use Rattle.norm_lang.specs.declared.text.Op.{Op}
use Rattle.norm_lang.specs.declared.text.Text.{Text}
use Rattle.norm_lang.specs.declared.registers.Registers.{Registers}
use Rattle.source_machine.specs.declared.state.NamedNode.{NamedNode}
use Rattle.source_machine.specs.declared.state.Stand.{Stand}
use Rattle.source_machine.specs.declared.state.Stand.TheVariants.{InGenerator, InList, InWrapUp}
use Rattle.source_machine.specs.declared.state.Running.{Running}
use Rattle.source_machine.specs.declared.state.SourceCaller.{SourceCaller}
use Rattle.source_machine.specs.Memory.{kind_of_node}
use Rattle.target_code.specs.declared.target.TargetOp.{TargetOp}
use Rattle.target_code.specs.Paths.{TargetPath, target_code_of}
use Rattle.kind_laws.specs.TargetKinds.{AreTyped}
use Rattle.target_code.specs.Bare.{bare_op}

-- a kind for each name: a node's is its own
abbrev pub HasKinds : List NamedNode → (ℕ → ℕ) → Type 0
HasKinds nodes kind_of = (name kind : ℕ) → kind_of_node name nodes ≡ Some kind → kind_of name ≡ kind

-- at a place of a method each register of references names null or a node of a kind that it may have there. A name that no node has
-- counts as one of any kind, so no register has such a name where one kind alone may be there
abbrev pub AreTypedAmong : List NamedNode → List FieldDecl → List RootDecl → TargetOp → Bool → ℕ → Registers → Type 0
AreTypedAmong nodes fields roots op wrapup at registers = (kind_of : ℕ → ℕ) → HasKinds nodes kind_of → AreTyped kind_of fields roots op wrapup at registers

-- some path of a text's method leads to a place, and registers are typed there
pub record StandsTyped (text : Text) (op : Op) (wrapup : Bool) (at : ℕ) (nodes : List NamedNode) (registers : Registers) : Type 0 where
  pub path : List ℕ
  pub leads : TargetPath (target_code_of (bare_op op) wrapup) path at
  pub typed : AreTypedAmong nodes text.fields text.roots (bare_op op) wrapup at registers

-- by where an operation stands: in its generator; in the executor at a commit with these exchanges, with the commit's registers;
-- in its wrap-up, with those of the wrap-up's start too
abbrev pub IsTypedStand : Text → Op → List NamedNode → Registers → Stand → Type 0
IsTypedStand text op nodes registers (InGenerator at) = StandsTyped text op false at nodes registers
IsTypedStand text op nodes registers (InList at entries made) = (slice_get op.generator at ≡ Some (instr.Commit entries)) × StandsTyped text op false at nodes registers
IsTypedStand text op nodes registers (InWrapUp at started accessed) = StandsTyped text op true 0 nodes started × StandsTyped text op true at nodes registers

-- an operation of the text that runs
abbrev pub IsTypedRunning : Text → List NamedNode → Option Running → Type 0
IsTypedRunning text nodes None = Unit {0}
IsTypedRunning text nodes (Some running) = (op : Op) → slice_get text.ops running.op ≡ Some op → IsTypedStand text op nodes running.registers running.stand

-- a caller, by the nodes of memory; an idle one has no registers
abbrev pub IsTypedCaller : Text → List NamedNode → SourceCaller → Type 0
IsTypedCaller text nodes caller = IsTypedRunning text nodes caller.running
