-- Runs of the compiled list by one caller.
use Rattle.std.specs.Prelude.{refl}
use Rattle.caller_steps.specs.Wants.{wants}
use Rattle.caller_steps.specs.After.{after, signs}
use Rattle.core_rows.specs.ListRows.{ListRows}

pub list_rows : ListRows
unfolding wants after signs
list_rows = record {
  insert = refl;
  remove = refl;
  insert_again = refl;
  remove_again = refl;
  insert_sweeps = refl;
  left = refl;
}
