-- The rows of LoneRows, computed.
use Rattle.std.specs.Prelude.{refl}
use Rattle.caller_steps.specs.Wants.{wants}
use Rattle.caller_steps.specs.After.{after, signs}
use Rattle.epoch_rows.specs.LoneRows.{LoneRows, BackRows}

pub lone_rows : LoneRows
unfolding wants after signs
lone_rows = record {
  insert = refl;
  remove = refl;
  left = refl;
  full = refl;
  full_left = refl;
  full_word = refl;
  full_phase = refl;
}

pub back_rows : BackRows
unfolding wants after signs
back_rows = record {
  comes_back = refl;
  found = refl;
  left = refl;
  sweeps = refl;
  gives_over = refl;
  over_left = refl;
  over_word = refl;
}
