-- Runs whose chain of ready slots is looked at: a head that comes back, and a circle.
use Rattle.std.specs.Prelude.{refl}
use Rattle.std.specs.Fmt.{digits}
use Rattle.caller_steps.specs.Wants.{wants}
use Rattle.caller_steps.specs.After.{after, signs}
use Rattle.core_rows.specs.ChainRows.{ReturnedRows, CircleRows}

pub returned_rows : ReturnedRows
unfolding digits wants after signs
returned_rows = record {
  compiled = refl;
  loaded = refl;
  pushed = refl;
  taken = refl;
  exchanged = refl;
  left = refl;
  other_left = refl;
}

pub circle_rows : CircleRows
unfolding digits wants after signs
circle_rows = record {
  compiled = refl;
  pushed = refl;
  retired = refl;
  circle_made = refl;
  first = refl;
  second = refl;
  third = refl;
  first_left = refl;
  second_left = refl;
  third_left = refl;
}
