-- A target with its source.
use Rattle.norm_lang.specs.declared.text.Text.{Text}
use Rattle.norm_lang.specs.Limits.{IsWithinLimits}
use Rattle.norm_lang.specs.NormalForm.{IsNormal}
use Rattle.target_code.specs.declared.target.Target.{Target}
use Rattle.target_code.specs.Barred.{IsBarred}
use Rattle.target_code.specs.TargetLimits.{IsTargetWithinLimits}

-- a target, and the text of which it is compiled
pub record Paired : Type 0 where
  pub target : Target
  pub source : Text

-- the source is normal, the target is barred for it, and both are within the limits
pub record IsSound (pair : Paired) : Type 0 where
  pub small : IsWithinLimits pair.source
  pub normal : IsNormal pair.source
  pub within : IsTargetWithinLimits pair.target
  pub barred : IsBarred pair.target pair.source
