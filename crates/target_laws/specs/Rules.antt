-- The rules of the normal form at an instruction of a target, on the caller's own path: what the text mustn't do, the target
-- doesn't do, wherever it has put its checks and guards.
use Rattle.std.specs.Prelude.{◌≡◌, ℕ, Bool, true, false, List, length, Some, slice_get, IsTrue}
use Rattle.std.specs.List.{Contains}
use Rattle.norm_lang.specs.declared.text.Reg.{Reg}
use Rattle.norm_lang.specs.declared.text.Reg.TheVariants.{Num}
use Rattle.norm_lang.specs.declared.text.FieldDecl.{FieldDecl}
use Rattle.norm_lang.specs.declared.text.RootDecl.{RootDecl}
use Rattle.norm_lang.specs.declared.text.CasEntry.{CasEntry}
use Rattle.norm_lang.specs.declared.text.Instr.{Instr}
use Rattle.norm_lang.specs.declared.text.Instr.TheVariants as instr
use Rattle.norm_lang.specs.declared.text.Text.{Text}
use Rattle.norm_lang.specs.InstructionRules.{has_wrong_kind, computes_on_reference, is_end_of_other, has_wrong_retire, has_wrong_range}
use Rattle.norm_lang.specs.Kept.{is_argument, IsKept}
use Rattle.norm_lang.specs.NormalForm.{IsNormal}
use Rattle.norm_lang.specs.PathRules.{reads_openly, follows, exchanges}
use Rattle.norm_lang.specs.RegisterUse.{same_register, reads, sets}
use Rattle.target_code.specs.declared.target.TargetInstr.TheVariants.{Plain}
use Rattle.target_code.specs.declared.target.Target.{Target}
use Rattle.target_code.specs.Erasing.{ErasesTo}
use Rattle.target_laws.specs.Methods.{Method, code_in, generator_of, wrapup_of, Arrives}
use Rattle.target_code.specs.PathStates.{is_set_along, is_fresh_along}

-- the rules that look at one instruction: its registers are of the right kinds (N1, N2), it is no end of the other method (N8),
-- it retires what it expects or its object (N12), and its jump and its roots are inside (N13), of the target's method
pub record IsInForm (fields : List FieldDecl) (roots : List RootDecl) (wrapup : Bool) (count : ℕ) (i : Instr) : Type 0 where
  pub kinds : has_wrong_kind fields roots i ≡ false
  pub numbers : computes_on_reference i ≡ false
  pub own_end : is_end_of_other wrapup i ≡ false
  pub retired : has_wrong_retire i ≡ false
  pub range : has_wrong_range roots i count ≡ false

-- each instruction of a target keeps them
abbrev pub InstructionsAreInForm : Type 0
InstructionsAreInForm =
    (target : Target) (text : Text) → IsNormal text → ErasesTo target text → (method : Method target text) (at : ℕ) (i : Instr)
    → slice_get (code_in method) at ≡ Some (Plain i) → IsInForm text.fields text.roots method.wrapup (length (code_in method)) i

-- N3: a `new` stands in a generator, and is passed once on a path
abbrev pub NewIsPassedOnce : Type 0
NewIsPassedOnce =
    (target : Target) (text : Text) → IsNormal text → ErasesTo target text → (method : Method target text) (path : List ℕ) (at : ℕ) (d : Reg) (kind : ℕ)
    → Arrives method path at (Plain (instr.New d kind)) → (method.wrapup ≡ false) × (¬ Contains path at)

-- N4: a put stands in a generator, its object is fresh, and what it puts isn't
abbrev pub PutsGoToFresh : Type 0
PutsGoToFresh =
    (target : Target) (text : Text) → IsNormal text → ErasesTo target text → (method : Method target text) (path : List ℕ) (at : ℕ) (a b : Reg) (f : ℕ)
    → Arrives method path at (Plain (instr.Put a f b))
    → (method.wrapup ≡ false) × (is_fresh_along (code_in method) path a ≡ true) × (is_fresh_along (code_in method) path b ≡ false)

-- N5: what an auxiliary exchange puts in isn't fresh
abbrev pub ExchangesShowNoFresh : Type 0
ExchangesShowNoFresh =
    (target : Target) (text : Text) → IsNormal text → ErasesTo target text → (method : Method target text) (path : List ℕ) (at : ℕ) (entry : CasEntry) (l : ℕ)
    → Arrives method path at (Plain (instr.Cas entry l)) → is_fresh_along (code_in method) path entry.replacement ≡ false

-- N6: what is read openly isn't fresh
abbrev pub OpenReadsAreNotFresh : Type 0
OpenReadsAreNotFresh =
    (target : Target) (text : Text) → IsNormal text → ErasesTo target text → (method : Method target text) (path : List ℕ) (at : ℕ) (i : Instr) (r : Reg)
    → Arrives method path at (Plain i) → IsTrue (reads_openly r i) → is_fresh_along (code_in method) path r ≡ false

-- and at a commit no kept register is
abbrev pub KeptAreNotFresh : Type 0
KeptAreNotFresh =
    (target : Target) (text : Text) → IsNormal text → ErasesTo target text → (method : Method target text) (path : List ℕ) (at : ℕ) (entries : List CasEntry) (r : Reg)
    → Arrives method path at (Plain (instr.Commit entries)) → IsKept method.op r → is_fresh_along (code_in method) path r ≡ false

-- N9, N10, N11: in a wrap-up no instruction sets a kept register, follows it or exchanges it
abbrev pub KeptAreLeft : Type 0
KeptAreLeft =
    (target : Target) (text : Text) → IsNormal text → ErasesTo target text → (method : Method target text) (at : ℕ) (i : Instr) (r : Reg) → IsTrue method.wrapup
    → slice_get (code_in method) at ≡ Some (Plain i) → IsKept method.op r → (sets r i ≡ false) × (follows r i ≡ false) × (exchanges r i ≡ false)

-- so on each of its paths a kept register is as it was
abbrev pub KeptStayUnset : Type 0
KeptStayUnset =
    (target : Target) (text : Text) → IsNormal text → ErasesTo target text → (method : Method target text) (path : List ℕ) (r : Reg) → IsTrue method.wrapup
    → IsKept method.op r → is_set_along (code_in method) path r false ≡ false

-- N14: what a generator reads is an argument, or was set on the path
abbrev pub GeneratorsReadSet : Type 0
GeneratorsReadSet =
    (target : Target) (text : Text) → IsNormal text → ErasesTo target text → (method : Method target text) (path : List ℕ) (at : ℕ) (i : Instr) (r : Reg)
    → Arrives (generator_of method) path at (Plain i) → IsTrue (reads r i)
    → is_set_along (code_in (generator_of method)) path r (is_argument method.op r) ≡ true

-- and what a wrap-up reads and its path doesn't set is n7, or was an argument or set on each path to each commit
abbrev pub WrapUpsReadSet : Type 0
WrapUpsReadSet =
    (target : Target) (text : Text) → IsNormal text → ErasesTo target text → (method : Method target text) (path : List ℕ) (at : ℕ) (i : Instr) (r : Reg)
    → Arrives (wrapup_of method) path at (Plain i) → IsTrue (reads r i) → is_set_along (code_in (wrapup_of method)) path r false ≡ false → same_register r (Num 7) ≡ false
    → (before : List ℕ) (commit : ℕ) (entries : List CasEntry) → Arrives (generator_of method) before commit (Plain (instr.Commit entries))
    → is_set_along (code_in (generator_of method)) before r (is_argument method.op r) ≡ true
