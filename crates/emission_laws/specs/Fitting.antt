-- What the laws ask of instructions holds in each target that callers may run.
use Rattle.std.specs.Prelude.{◌≡◌, ℕ, ◌≤◌, ◌<◌, Bool, length, Some}
use Rattle.norm_lang.specs.declared.text.Reg.{Reg}
use Rattle.norm_lang.specs.declared.text.Reg.TheVariants.{Num, Ref}
use Rattle.norm_lang.specs.declared.text.Instr.{Instr}
use Rattle.norm_lang.specs.declared.text.Instr.TheVariants as instr
use Rattle.norm_lang.specs.declared.text.Text.{Text}
use Rattle.target_code.specs.declared.target.TargetInstr.TheVariants.{Plain, Guard}
use Rattle.target_code.specs.declared.target.Target.{Target}
use Rattle.target_laws.specs.target_runs.Runnable.{MayBeWalked}
use Rattle.caller_parts.specs.declared.routine.Routine.TheVariants.{At}
use Rattle.caller_parts.specs.Settings.{Setting}
use Rattle.caller_parts.specs.Operands.{code_at, instr_at}
use Rattle.caller_steps.specs.Entries.{Entry, instr_in}
use Rattle.caller_steps.specs.Belongs.{Belongs}
use Rattle.emission_laws.specs.Making.{RunsFor, HasNumber, TellsFitting}
use Rattle.emission_laws.specs.Accesses.{HasField}
use Rattle.emission_laws.specs.Locals.{AllFit}
use Rattle.c_language.specs.Steps.{Pool}

-- the registers of a load or a put are of the kinds that it needs, and its field is one of so many
abbrev pub FitsAccess : ℕ → Instr → Type 0
FitsAccess fields (instr.LoadRoot d x) = HasNumber d
FitsAccess fields (instr.LoadPick d x count (Num a)) = HasNumber d × (a < 8) × (1 ≤ count)
FitsAccess fields (instr.LoadPick d x count (Ref a)) = ⊥
FitsAccess fields (instr.LoadField d (Ref a) f) = HasNumber d × (a < 8) × (f < fields)
FitsAccess fields (instr.LoadField d (Num a) f) = ⊥
FitsAccess fields (instr.Put (Ref a) f b) = HasNumber b × (a < 8) × (f < fields)
FitsAccess fields (instr.Put (Num a) f b) = ⊥
FitsAccess fields _ = Unit {0}

abbrev pub FitsGuard : Reg → Type 0
FitsGuard (Num r) = ⊥
FitsGuard (Ref r) = r < 8

pub record InstructionsFit : Type 0 where
  pub locals : (target : Target) (text : Text) (op : ℕ) (wrapup : Bool) → MayBeWalked target text
      → AllFit (code_at target op wrapup)
  pub accesses : (target : Target) (text : Text) (op : ℕ) (wrapup : Bool) (at : ℕ) (i : Instr) → MayBeWalked target text
      → instr_at target op wrapup at ≡ Some (Plain i) → FitsAccess (length target.fields) i
  pub guards : (target : Target) (text : Text) (op : ℕ) (wrapup : Bool) (at : ℕ) (r : Reg) → MayBeWalked target text
      → instr_at target op wrapup at ≡ Some (Guard r) → FitsGuard r
  -- an object is null, or a node that has the field
  pub loaded : (target : Target) (text : Text) (setting : Setting) (e : Entry) (d : Reg) (a f : ℕ)
      → MayBeWalked target text → Belongs target setting e
      → e.routine ≡ At → instr_in target e ≡ Some (Plain (instr.LoadField d (Ref a) f)) → HasField target setting e a f
  pub put : (target : Target) (text : Text) (setting : Setting) (e : Entry) (a f : ℕ) (b : Reg)
      → MayBeWalked target text → Belongs target setting e
      → e.routine ≡ At → instr_in target e ≡ Some (Plain (instr.Put (Ref a) f b)) → HasField target setting e a f
  -- a word that may be told fits the register into which it is loaded
  pub roots : (pool : Pool) (target : Target) (text : Text) (setting : Setting) (e : Entry) (d : Reg) (x : ℕ)
      → MayBeWalked target text
      → RunsFor pool target setting e → e.routine ≡ At → instr_in target e ≡ Some (Plain (instr.LoadRoot d x))
      → TellsFitting target setting e d
  pub picks : (pool : Pool) (target : Target) (text : Text) (setting : Setting) (e : Entry) (d : Reg) (x count a : ℕ)
      → MayBeWalked target text
      → RunsFor pool target setting e → e.routine ≡ At
      → instr_in target e ≡ Some (Plain (instr.LoadPick d x count (Num a))) → TellsFitting target setting e d
  pub fields : (pool : Pool) (target : Target) (text : Text) (setting : Setting) (e : Entry) (d : Reg) (a f : ℕ)
      → MayBeWalked target text
      → RunsFor pool target setting e → e.routine ≡ At → instr_in target e ≡ Some (Plain (instr.LoadField d (Ref a) f))
      → TellsFitting target setting e d
