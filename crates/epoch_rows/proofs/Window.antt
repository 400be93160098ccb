-- The rows of WindowRows, computed.
use Rattle.std.specs.Prelude.{refl}
use Rattle.caller_steps.specs.Wants.{wants}
use Rattle.caller_steps.specs.After.{after, signs}
use Rattle.epoch_rows.specs.WindowRows.{WindowRows, AfterWindow}

pub window_rows : WindowRows
unfolding wants after signs
window_rows = record {
  loads = refl;
  recycles = refl;
  stores = refl;
  words = refl;
  phase = refl;
  used = refl;
}

pub after_window_rows : AfterWindow
unfolding wants after signs
after_window_rows = record {
  goes_in = refl;
  finds = refl;
  goes_out = refl;
  holds_back = refl;
  ends = refl;
  left = refl;
  other_left = refl;
}
