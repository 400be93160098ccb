-- Claims beside other callers.
use Rattle.std.specs.Prelude.{refl}
use Rattle.c_rows.specs.BesideRows.{BesideRows}

pub beside_rows : BesideRows
beside_rows = record {
  lost_take = refl;
  slot_that_came_back = refl;
  lost_last_slot = refl;
  high_warning = refl;
  low_warning = refl;
  lost_raise = refl;
  noted_hazard = refl;
  noted_slot = refl;
  lost_push = refl;
  greater_phase = refl;
  lost_slot = refl;
}
