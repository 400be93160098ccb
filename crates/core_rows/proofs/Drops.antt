-- Runs of lists of two exchanges.
use Rattle.std.specs.Prelude.{refl}
use Rattle.caller_steps.specs.Wants.{wants}
use Rattle.caller_steps.specs.After.{after, signs}
use Rattle.core_rows.specs.DropRows.{DropRows}

pub drop_rows : DropRows
unfolding wants after signs
drop_rows = record {
  both = refl;
  nulls = refl;
  both_left = refl;
  one = refl;
  one_left = refl;
  none = refl;
  none_left = refl;
}
