-- Registers of references that name null, or slots of kinds that they may have, go on to do so from an instruction to a successor.
use Rattle.std.proofs.Common.{◌≡◌, ℕ, ◌⊎◌, inl, inr, ⊎_elim, Bool, true, false, List, Option, Some, None}
use Rattle.std.specs.Prelude.{slice_get, IsTrue}
use Rattle.norm_lang.specs.declared.text.Reg.{Reg}
use Rattle.norm_lang.specs.declared.text.Reg.TheVariants.{Num, Ref}
use Rattle.norm_lang.specs.declared.text.CasEntry.{CasEntry}
use Rattle.norm_lang.specs.declared.text.Instr.{Instr}
use Rattle.norm_lang.specs.declared.text.Instr.TheVariants as instr
use Rattle.norm_lang.specs.declared.registers.Reference.{Reference}
use Rattle.norm_lang.specs.declared.registers.Registers.{Registers}
use Rattle.norm_lang.specs.Registers.{first_registers, with_count, with_number, with_reference, node_in}
use Rattle.norm_lang.specs.RegisterUse.{destination}
use Rattle.norm_lang.specs.InstructionRules.{has_wrong_kind}
use Rattle.norm_lang.specs.Kinds.{none_held, given_kinds}
use Rattle.norm_lang.specs.Local.{Spot, local_step}
use Rattle.target_code.specs.declared.target.TargetInstr.{TargetInstr}
use Rattle.target_code.specs.declared.target.TargetInstr.TheVariants.{Plain}
use Rattle.target_code.specs.declared.target.TargetOp.{TargetOp}
use Rattle.target_code.specs.declared.target.Target.{Target}
use Rattle.target_code.specs.Paths.{TargetPath, IsTargetSuccessor, target_sets}
use Rattle.oa_words.specs.SlotKinds.{kind_of}
use Rattle.kind_laws.specs.TargetKinds.{MayHaveInTarget}
use Rattle.kind_laws.proofs.Closed.{kept_kind}
use Rattle.kind_laws.proofs.Typed.{local_code_keeps, loads_keep, new_nodes_keep, commits_carry, restarts_keep}
use Rattle.caller_parts.specs.Operands.{method_code}
use Rattle.caller_parts.specs.Settings.{Setting}
use Rattle.caller_steps.specs.Belongs.{HaveKinds}

module _ (target : Target) (setting : Setting) (wrapup : Bool) where
  -- an instruction that sets no register
  pub passes_typed : (o : Option TargetOp) (at to : ℕ) (i : TargetInstr) (registers : Registers) → slice_get (method_code o wrapup) at ≡ Some i → IsTargetSuccessor (method_code o wrapup) at to
      → ((r : ℕ) → target_sets (Ref r) i ≡ false) → HaveKinds target setting o wrapup at registers → HaveKinds target setting o wrapup to registers
  passes_typed None at to i registers is goes sets_none typed = tt
  passes_typed (Some op) at to i registers is goes sets_none typed = λ (r : ℕ). ⊎_elim
      (λ (null : node_in registers r ≡ 0). inl null)
      (λ (may : MayHaveInTarget target.fields target.roots op wrapup r at (kind_of setting.sizes (node_in registers r))).
      inr (kept_kind target.fields target.roots op wrapup r at to (kind_of setting.sizes (node_in registers r)) i is goes (sets_none r) may))
      (typed r)

  -- a local instruction
  pub local_typed : (o : Option TargetOp) (at to : ℕ) (i : Instr) (registers : Registers) (place : ℕ) (spot : Spot) (path : List ℕ) → TargetPath (method_code o wrapup) path at
      → slice_get (method_code o wrapup) at ≡ Some (Plain i) → has_wrong_kind target.fields target.roots i ≡ false → local_step i place registers ≡ Some spot → IsTargetSuccessor (method_code o wrapup) at to
      → HaveKinds target setting o wrapup at registers → HaveKinds target setting o wrapup to spot.registers
  local_typed None at to i registers place spot path leads is right steps goes typed = tt
  local_typed (Some op) at to i registers place spot path leads is right steps goes typed =
      local_code_keeps (kind_of setting.sizes) target.fields target.roots op wrapup at registers i place spot path leads is right steps to goes typed

  -- a load
  pub loaded_typed : (o : Option TargetOp) (at to : ℕ) (i : Instr) (registers : Registers) (d : Reg) (found : Reference) (path : List ℕ) → TargetPath (method_code o wrapup) path at
      → slice_get (method_code o wrapup) at ≡ Some (Plain i) → destination i ≡ Some d → (found.node ≡ 0) ⊎ IsTrue (given_kinds target.fields target.roots i none_held (kind_of setting.sizes found.node))
      → IsTargetSuccessor (method_code o wrapup) at to → HaveKinds target setting o wrapup at registers → HaveKinds target setting o wrapup to (with_reference registers d found)
  loaded_typed None at to i registers d found path leads is sets_it right goes typed = tt
  loaded_typed (Some op) at to i registers d found path leads is sets_it right goes typed =
      loads_keep (kind_of setting.sizes) target.fields target.roots op wrapup at registers i d found path leads is sets_it right to goes typed

  -- a `new`
  pub made_typed : (o : Option TargetOp) (at to : ℕ) (registers : Registers) (d : Reg) (kind slot : ℕ) (path : List ℕ) → TargetPath (method_code o wrapup) path at
      → slice_get (method_code o wrapup) at ≡ Some (Plain (instr.New d kind)) → kind_of setting.sizes slot ≡ kind → IsTargetSuccessor (method_code o wrapup) at to → HaveKinds target setting o wrapup at registers
      → HaveKinds target setting o wrapup to (with_reference registers d (record { node = slot; marked = false }))
  made_typed None at to registers d kind slot path leads is of_kind goes typed = tt
  made_typed (Some op) at to registers d kind slot path leads is of_kind goes typed =
      new_nodes_keep (kind_of setting.sizes) target.fields target.roots op wrapup at registers d kind slot path leads is of_kind to goes typed

  -- a number that is put into a register
  pub numbered_typed : (o : Option TargetOp) (at : ℕ) (registers : Registers) (d word : ℕ) → HaveKinds target setting o wrapup at registers → HaveKinds target setting o wrapup at (with_number registers (Num d) word)
  numbered_typed None at registers d word typed = tt
  numbered_typed (Some op) at registers d word typed = typed

  -- the registers with which a generator starts
  pub first_typed : (o : Option TargetOp) (at : ℕ) (args : List ℕ) → HaveKinds target setting o wrapup at (first_registers args)
  first_typed None at args = tt
  first_typed (Some op) at args = restarts_keep (kind_of setting.sizes) target.fields target.roots op wrapup at args

-- those of a commit are the wrap-up's, whatever is counted
pub carried_typed : (target : Target) (setting : Setting) (o : Option TargetOp) (at : ℕ) (registers : Registers) (entries : List CasEntry) (made : ℕ)
    → slice_get (method_code o false) at ≡ Some (Plain (instr.Commit entries)) → HaveKinds target setting o false at registers → HaveKinds target setting o true 0 (with_count registers made)
carried_typed target setting None at registers entries made is typed = tt
carried_typed target setting (Some op) at registers entries made is typed = commits_carry (kind_of setting.sizes) target.fields target.roots op at registers entries is typed
