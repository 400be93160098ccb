-- The rows of WrapUpRows, computed.
use Rattle.std.specs.Prelude.{refl}
use Rattle.caller_steps.specs.Wants.{wants}
use Rattle.caller_steps.specs.After.{after, signs}
use Rattle.epoch_rows.specs.WrapUpRows.{WrapUpRows, TallyRows}

pub wrap_up_rows : WrapUpRows
unfolding wants after signs
wrap_up_rows = record {
  begins = refl;
  swaps = refl;
  refuses = refl;
  announced = refl;
  retired = refl;
  reads = refl;
  swaps_again = refl;
  left = refl;
  other_left = refl;
}

pub tally_rows : TallyRows
unfolding wants after signs
tally_rows = record {
  other = refl;
  again = refl;
  stands = refl;
  ends = refl;
  left = refl;
  other_left = refl;
}
