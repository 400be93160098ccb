-- Runs without nodes.
use Rattle.std.specs.Prelude.{refl}
use Rattle.caller_steps.specs.Wants.{wants}
use Rattle.caller_steps.specs.After.{after, signs}
use Rattle.core_rows.specs.CounterRows.{CounterRows, AgainRows, NumberRows}

pub counter_rows : CounterRows
unfolding wants after signs
counter_rows = record {
  add = refl;
  add_left = refl;
  nop = refl;
  nop_left = refl;
  ended = refl;
  taken = refl;
}

pub again_rows : AgainRows
unfolding wants after signs
again_rows = record {
  lines = refl;
  first_left = refl;
  other_left = refl;
}

pub number_rows : NumberRows
unfolding wants after signs
number_rows = record {
  third = refl;
  second = refl;
  picked = refl;
  nulls = refl;
  nulls_left = refl;
}
