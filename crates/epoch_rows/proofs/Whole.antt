-- The rows of WholeRows, computed.
use Rattle.std.specs.Prelude.{refl}
use Rattle.caller_steps.specs.Wants.{wants}
use Rattle.caller_steps.specs.After.{after, signs}
use Rattle.epoch_rows.specs.WholeRows.{WholeRows, AgainRows}

pub whole_rows : WholeRows
unfolding wants after signs
whole_rows = record {
  plain = refl;
  recycling = refl;
  full = refl;
  comes_back = refl;
  phases_over = refl;
}

pub again_rows : AgainRows
unfolding wants after signs
again_rows = record {
  begun = refl;
  other = refl;
  again = refl;
  stands = refl;
  left = refl;
  other_left = refl;
}
