-- Runs in which cradles keep slots.
use Rattle.std.specs.Prelude.{refl}
use Rattle.caller_steps.specs.Wants.{wants}
use Rattle.caller_steps.specs.After.{after, signs}
use Rattle.core_rows.specs.CradleRows.{BranchRows, StaleRows, LateRows}

pub branch_rows : BranchRows
unfolding wants after signs
branch_rows = record {
  second = refl;
  claimed = refl;
  counted = refl;
  failed = refl;
  first = refl;
  unpublished = refl;
  published = refl;
  again = refl;
  four = refl;
  full = refl;
  over = refl;
}

pub stale_rows : StaleRows
unfolding wants after signs
stale_rows = record {
  renew = refl;
  copy = refl;
  renew_again = refl;
  hold = refl;
  after_hold = refl;
  hold_again = refl;
  after_second_hold = refl;
}

pub late_rows : LateRows
unfolding wants after signs
late_rows = record {
  lines = refl;
  again = refl;
  left = refl;
}
