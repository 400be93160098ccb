-- Values of one operation.
use Rattle.std.specs.Prelude.{refl}
use Rattle.c_rows.specs.LineRows.{ValueRows}

pub value_rows : ValueRows
value_rows = record {
  below_zero = refl;
  over_the_top = refl;
  minus_itself = refl;
  minus = refl;
  doubled = refl;
  times = refl;
  over = refl;
  rest = refl;
  over_zero = refl;
  rest_of_zero = refl;
  unset = refl;
  argument = refl;
  past_arguments = refl;
  slots = refl;
  callers = refl;
  last = refl;
  first = refl;
  second = refl;
  head_top = refl;
  head_phase = refl;
  own = refl;
  below = refl;
  not_below = refl;
  equal = refl;
  differ = refl;
}
