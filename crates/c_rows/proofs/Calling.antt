-- Functions that call each other.
use Rattle.std.specs.Prelude.{refl}
use Rattle.c_rows.specs.ThreadRows.{ThreadRows}

pub thread_rows : ThreadRows
thread_rows = record {
  called = refl;
  called_within = refl;
  kept = refl;
  not_kept = refl;
  returned_to_nobody = refl;
  answered_from_within = refl;
  no_function = refl;
  bit_cleared = refl;
  no_bit = refl;
}
