-- Runs of small targets, by computing.
use Rattle.std.specs.Prelude.{refl}
use Rattle.caller_steps.specs.Wants.{wants}
use Rattle.caller_steps.specs.After.{after, signs}
use Rattle.corner_rows.specs.ObjectRows.{ObjectRows}
use Rattle.corner_rows.specs.LaterRows.{LaterRows}
use Rattle.corner_rows.specs.FourRows.{FourRows}
use Rattle.corner_rows.specs.WideRows.{WideRows}

pub object_rows : ObjectRows
unfolding wants after signs
object_rows = record {
  list = refl;
  list_left = refl;
  marked = refl;
  marked_left = refl;
}

pub later_rows : LaterRows
unfolding wants after signs
later_rows = record {
  retired = refl;
  other_left = refl;
  sweeps = refl;
  left = refl;
}

pub four_rows : FourRows
unfolding wants after signs
four_rows = record {
  alone = refl;
  one = refl;
  two = refl;
  three = refl;
  all = refl;
  one_published = refl;
  two_published = refl;
  three_published = refl;
  all_published = refl;
  left = refl;
  restart = refl;
  restart_left = refl;
  part = refl;
  part_left = refl;
  slot_number = refl;
  reference_number = refl;
  label_published = refl;
  both_emptied = refl;
}

pub wide_rows : WideRows
unfolding wants after signs
wide_rows = record {
  three = refl;
  four = refl;
  arguments = refl;
}
