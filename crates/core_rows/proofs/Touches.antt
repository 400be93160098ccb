-- Runs of exchanges alone.
use Rattle.std.specs.Prelude.{refl}
use Rattle.caller_steps.specs.Wants.{wants}
use Rattle.caller_steps.specs.After.{after, signs}
use Rattle.core_rows.specs.TouchRows.{TouchRows}

pub touch_rows : TouchRows
unfolding wants after signs
touch_rows = record {
  touch = refl;
  nudge = refl;
  free = refl;
  guarded = refl;
  validated = refl;
  exchanged = refl;
  guarded_again = refl;
  validated_again = refl;
}
