-- Claims alone.
use Rattle.std.specs.Prelude.{refl}
use Rattle.c_rows.specs.ClaimRows.{ClaimRows}

pub claim_rows : ClaimRows
claim_rows = record {
  of_two = refl;
  of_one = refl;
  of_wide_row = refl;
  of_wide_recycled = refl;
  full = refl;
  in_last_phase = refl;
  after_last_sweep = refl;
  of_recycled = refl;
  of_unguarded = refl;
  of_two_callers = refl;
  of_own_phase = refl;
  of_warned = refl;
  for_another_kind = refl;
  of_second_kind = refl;
  of_third_kind = refl;
}
