-- What callers need of a target's code. It follows from the normal form of the text, from erasing and from the limits,
-- wherever the target has put its checks and guards.
use Rattle.std.specs.Prelude.{◌≡◌, ℕ, ◌≤◌, ◌<◌, Bool, false, List, length, Some, None, IsTrue, slice_get}
use Rattle.norm_lang.specs.declared.text.Reg.{Reg}
use Rattle.norm_lang.specs.declared.text.Instr.{Instr}
use Rattle.norm_lang.specs.declared.text.Instr.TheVariants as instr
use Rattle.norm_lang.specs.declared.text.Text.{Text}
use Rattle.norm_lang.specs.Grammar.{is_new}
use Rattle.norm_lang.specs.Local.{Spot}
use Rattle.target_code.specs.declared.target.TargetInstr.{TargetInstr}
use Rattle.target_code.specs.declared.target.TargetInstr.TheVariants.{Plain, Check, Guard}
use Rattle.target_code.specs.declared.target.TargetOp.{TargetOp}
use Rattle.target_code.specs.declared.target.Target.{Target}
use Rattle.target_code.specs.Paths.{TargetPath, target_code_of, target_goes_from}
use Rattle.target_code.specs.TargetLimits.{is_target_instr, target_news_in, most_target_instrs}
use Rattle.norm_lang.specs.Bounds.{most_news}
use Rattle.target_code.specs.LocalCode.{target_next_spot, target_run}
use Rattle.target_code.specs.PathStates.{IsSurelyFreshInTarget}
use Rattle.target_laws.specs.Rules.{IsInForm}
use Rattle.target_laws.specs.target_runs.Runnable.{MayBeWalked}

-- of a plain instruction, in a method with so many: it is in form, and a `new` stands in a generator
pub record PlainSane (target : Target) (wrapup : Bool) (count : ℕ) (i : Instr) : Type 0 where
  pub form : IsInForm target.fields target.roots wrapup count i
  pub news : IsTrue (is_new i) → wrapup ≡ false

abbrev pub InstrSane : Target → Bool → ℕ → TargetInstr → Type 0
InstrSane target wrapup count (Plain i) = PlainSane target wrapup count i
InstrSane target wrapup count Check = Unit {0}
InstrSane target wrapup count (Guard r) = Unit {0}

-- of an instruction to which a path leads: it is within the limits, and if control goes on, it stays inside the method
pub record SaneAt (target : Target) (wrapup : Bool) (code : List TargetInstr) (at : ℕ) (i : TargetInstr) : Type 0 where
  pub limits : IsTrue (is_target_instr (length target.kinds) (length target.fields) (length target.roots) i)
  pub own : InstrSane target wrapup (length code) i
  pub goes : (to : ℕ) → IsTrue (target_goes_from (Some i) at to) → to < length code

-- of a method
pub record SaneCode (target : Target) (wrapup : Bool) (code : List TargetInstr) : Type 0 where
  pub short : length code ≤ most_target_instrs
  pub news : target_news_in code ≤ most_news
  pub each : (at : ℕ) (i : TargetInstr) (path : List ℕ) → slice_get code at ≡ Some i → TargetPath code path at → SaneAt target wrapup code at i
  -- local code settles within as many steps as the method has instructions
  pub ends : (spot : Spot) → target_next_spot code (target_run code (length code) spot) ≡ None
  -- the object of a put is fresh on each path to it
  pub puts : (at : ℕ) (a b : Reg) (f : ℕ) → slice_get code at ≡ Some (Plain (instr.Put a f b)) → IsSurelyFreshInTarget code a at

-- there is an operation, and both methods of each have an instruction and are sane
pub record Sane (target : Target) : Type 0 where
  pub ops : 0 < length target.ops
  pub some : (number : ℕ) (wrapup : Bool) (op : TargetOp) → slice_get target.ops number ≡ Some op → 0 < length (target_code_of op wrapup)
  pub method : (number : ℕ) (wrapup : Bool) (op : TargetOp) → slice_get target.ops number ≡ Some op → SaneCode target wrapup (target_code_of op wrapup)

-- it holds of each target that callers may run
abbrev pub RunnableIsSane : Type 0
RunnableIsSane = (target : Target) (text : Text) → MayBeWalked target text → Sane target
