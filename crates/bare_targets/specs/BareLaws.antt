-- What a caller finds in a bare target.
use Rattle.std.specs.Prelude.{◌≡◌, ℕ, Bool, List, Some, map, option_map, slice_get}
use Rattle.norm_lang.specs.declared.text.Instr.{Instr}
use Rattle.norm_lang.specs.declared.text.Op.{Op}
use Rattle.norm_lang.specs.declared.text.Text.{Text}
use Rattle.norm_lang.specs.Kept.{code_of}
use Rattle.norm_lang.specs.Limits.{IsWithinLimits}
use Rattle.norm_lang.specs.Local.{Spot, local_run}
use Rattle.norm_lang.specs.NormalForm.{IsNormal}
use Rattle.target_code.specs.declared.target.TargetInstr.{TargetInstr}
use Rattle.target_code.specs.declared.target.TargetInstr.TheVariants.{Plain}
use Rattle.target_code.specs.LocalCode.{target_run}
use Rattle.target_code.specs.Paths.{target_code_of}
use Rattle.target_laws.specs.target_runs.Runnable.{MayBeWalked}
use Rattle.target_code.specs.Bare.{bare_op, bare}

-- callers may run each text in normal form within the limits as it is
abbrev pub BareTextsAreRunnable : Type 0
BareTextsAreRunnable = (text : Text) → IsWithinLimits text → IsNormal text → MayBeWalked (bare text) text

-- the operations are those of the text, by the same numbers
abbrev pub BareOpsAreTheTexts : Type 0
BareOpsAreTheTexts = (text : Text) (number : ℕ) → slice_get (bare text).ops number ≡ option_map bare_op (slice_get text.ops number)

-- a method's code is that of the text, each instruction by itself
abbrev pub BareCodeIsPlain : Type 0
BareCodeIsPlain = (op : Op) (wrapup : Bool) → target_code_of (bare_op op) wrapup ≡ map Plain (code_of op wrapup)

-- what stands at a place of such code is an instruction of the language: no check and no guard
pub record StandsPlain (code : List Instr) (at : ℕ) (i : TargetInstr) : Type 0 where
  pub instr : Instr
  pub is : i ≡ Plain instr
  pub stands : slice_get code at ≡ Some instr

abbrev pub PlainStands : Type 0
PlainStands = (code : List Instr) (at : ℕ) (i : TargetInstr) → slice_get (map Plain code) at ≡ Some i → StandsPlain code at i

-- its local code runs as the text's
abbrev pub PlainRuns : Type 0
PlainRuns = (code : List Instr) (n : ℕ) (spot : Spot) → target_run (map Plain code) n spot ≡ local_run code n spot
