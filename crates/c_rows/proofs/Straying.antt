-- Lines that stray.
use Rattle.std.specs.Prelude.{refl}
use Rattle.c_rows.specs.LineRows.{StrayRows}

pub stray_rows : StrayRows
stray_rows = record {
  divided = refl;
  divided_by_zero = refl;
  field = refl;
  field_of_null = refl;
  stored = refl;
  stored_at_null = refl;
  exchanged = refl;
  exchanged_at_null = refl;
  field_of_another_kind = refl;
  field_past_the_last = refl;
  field_of_no_slot = refl;
  field_of_no_kind = refl;
  noted = refl;
  cleared = refl;
  no_cradle = refl;
  no_cradle_to_keep = refl;
  last_cradle = refl;
  jump_past_the_end = refl;
}
