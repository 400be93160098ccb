-- The kinds that registers may have in a target, and those that its text asks them to have.
use Rattle.std.specs.Prelude.{◌≡◌, ℕ, ◌⊎◌, Bool, Some, slice_get, IsTrue}
use Rattle.norm_lang.specs.declared.text.Instr.{Instr}
use Rattle.norm_lang.specs.declared.text.Op.{Op}
use Rattle.norm_lang.specs.declared.text.Text.{Text}
use Rattle.norm_lang.specs.declared.registers.Registers.{Registers}
use Rattle.norm_lang.specs.Kinds.{MayHaveKind, asks, MixesKinds}
use Rattle.norm_lang.specs.NormalForm.{IsNormal}
use Rattle.norm_lang.specs.Registers.{node_in}
use Rattle.target_code.specs.declared.target.TargetInstr.TheVariants.{Plain}
use Rattle.target_code.specs.declared.target.Target.{Target}
use Rattle.target_code.specs.Erasing.{source_place, ErasesTo}
use Rattle.target_laws.specs.Methods.{Method, code_in}
use Rattle.kind_laws.specs.TargetKinds.{MayHaveInTarget, AreTyped}

-- a kind that a register may have at a place of a target it may have at the place's source
abbrev pub KindsAreInText : Type 0
KindsAreInText =
    (target : Target) (text : Text) → IsNormal text → ErasesTo target text → (method : Method target text) (r at t : ℕ)
    → MayHaveInTarget target.fields target.roots method.compiled method.wrapup r at t
    → MayHaveKind text.fields text.roots method.op method.wrapup r (source_place (code_in method) at) t

-- if an instruction keeps N15, a register that it asks to be of a kind may have no other
abbrev pub AskedKindsAreOne : Type 0
AskedKindsAreOne =
    (text : Text) (op : Op) (wrapup : Bool) (at : ℕ) (i : Instr) (r k t : ℕ)
    → (¬ MixesKinds text op wrapup at i) → IsTrue (asks text.fields text.roots i r k) → MayHaveKind text.fields text.roots op wrapup r at t → t ≡ k

-- so it is of an instruction of a target whose text is in normal form
abbrev pub AskedKindsAreOneInTarget : Type 0
AskedKindsAreOneInTarget =
    (target : Target) (text : Text) → IsNormal text → ErasesTo target text → (method : Method target text) (at : ℕ) (i : Instr) (r k t : ℕ)
    → slice_get (code_in method) at ≡ Some (Plain i) → IsTrue (asks target.fields target.roots i r k)
    → MayHaveInTarget target.fields target.roots method.compiled method.wrapup r at t → t ≡ k

-- and registers that have only kinds that they may have name null, or a node of the kind that is asked of them
abbrev pub AskedKindsAreNamed : Type 0
AskedKindsAreNamed =
    (kind_of : ℕ → ℕ) (target : Target) (text : Text) → IsNormal text → ErasesTo target text → (method : Method target text) (at : ℕ) (i : Instr) (registers : Registers) (r k : ℕ)
    → slice_get (code_in method) at ≡ Some (Plain i) → IsTrue (asks target.fields target.roots i r k)
    → AreTyped kind_of target.fields target.roots method.compiled method.wrapup at registers → (node_in registers r ≡ 0) ⊎ (kind_of (node_in registers r) ≡ k)
