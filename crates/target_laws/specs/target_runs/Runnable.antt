-- What callers may run.
use Rattle.norm_lang.specs.declared.text.Text.{Text}
use Rattle.norm_lang.specs.Limits.{IsWithinLimits}
use Rattle.norm_lang.specs.NormalForm.{IsNormal}
use Rattle.target_code.specs.declared.target.Target.{Target}
use Rattle.target_code.specs.Erasing.{ErasesTo}
use Rattle.target_code.specs.TargetLimits.{IsTargetWithinLimits}

-- a target that erases to a text in normal form, both within the limits. Where its checks and guards stand doesn't matter
pub record MayBeWalked (target : Target) (text : Text) : Type 0 where
  pub small : IsWithinLimits text
  pub normal : IsNormal text
  pub within : IsTargetWithinLimits target
  pub erases : ErasesTo target text
