-- Comparing what is left of a target with a text.
use Rattle.std.specs.Prelude.{◌≡◌, ◌<◌, ℕ, Bool, true, false, Some, slice_get}
use Rattle.norm_lang.specs.declared.text.Op.{Op}
use Rattle.norm_lang.specs.declared.text.Text.{Text}
use Rattle.target_code.specs.declared.target.TargetOp.{TargetOp}
use Rattle.target_code.specs.declared.target.Target.{Target}
use Rattle.target_code.specs.Erasing.{erased, part_at}
use Rattle.target_code.specs.Barred.{Flaw, erasing_flaw, DiffersAt}

-- an operation of a target and of a text, by their number
pub record IsSubject (target : Target) (text : Text) (number : ℕ) (op : TargetOp) (source : Op) : Type 0 where
  pub compiled : slice_get target.ops number ≡ Some op
  pub stands : slice_get text.ops number ≡ Some source

-- the flaw is that a target erases differently, told by a method that does
abbrev pub Differs : Target → Text → Flaw → Type 0
Differs target text flaw = (flaw ≡ erasing_flaw flaw.op flaw.wrapup) × DiffersAt (erased target) text flaw.op flaw.wrapup

-- what is left of a method, with what belongs to it, is the text's
abbrev pub IsSamePart : Target → Text → ℕ → Bool → Type 0
IsSamePart target text op wrapup = part_at (erased target) op wrapup ≡ part_at text op wrapup

-- of an operation's both methods
abbrev pub IsSameOp : Target → Text → ℕ → Type 0
IsSameOp target text op = IsSamePart target text op false × IsSamePart target text op true

-- of the first operations
abbrev pub AreSameBelow : Target → Text → ℕ → Type 0
AreSameBelow target text count = (op : ℕ) → op < count → IsSameOp target text op
