-- The rows of HeldRows, computed.
use Rattle.std.specs.Prelude.{refl}
use Rattle.caller_steps.specs.Wants.{wants}
use Rattle.caller_steps.specs.After.{after, signs}
use Rattle.epoch_rows.specs.HeldRows.{HeldRows, LetGoRows}

pub held_rows : HeldRows
unfolding wants after signs
held_rows = record {
  begins = refl;
  inserts = refl;
  removes = refl;
  inserts_again = refl;
  removes_again = refl;
  refuses = refl;
  left = refl;
  phase = refl;
  announced = refl;
  withdrawn = refl;
}

pub let_go_rows : LetGoRows
unfolding wants after signs
let_go_rows = record {
  ends = refl;
  inserts = refl;
  phase = refl;
  left = refl;
  other_left = refl;
}
