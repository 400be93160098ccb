-- Runs that count their argument up.
use Rattle.std.specs.Prelude.{refl}
use Rattle.caller_steps.specs.Wants.{wants}
use Rattle.caller_steps.specs.After.{after, signs}
use Rattle.core_rows.specs.PressRows.{PressRows}

pub press_rows : PressRows
unfolding wants after signs
press_rows = record {
  lines = refl;
  restart = refl;
  left = refl;
  again = refl;
  other_left = refl;
}
