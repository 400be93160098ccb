-- Replays, by computing.
use Rattle.std.specs.Prelude.{refl}
use Rattle.caller_steps.specs.Wants.{wants}
use Rattle.caller_steps.specs.After.{after}
use Rattle.corner_rows.specs.CountedTurns.{WantedRows, CheckRows, OverCallsRows}

pub wanted_rows : WantedRows
unfolding wants after
wanted_rows = record {
  load = refl;
  check = refl;
  exchange = refl;
  third_load = refl;
  begun_between = refl;
}

pub check_rows : CheckRows
unfolding wants after
check_rows = record {
  second_check = refl;
  no_fourth = refl;
  second_calls = refl;
  third_calls = refl;
}

pub over_calls_rows : OverCallsRows
unfolding wants after
over_calls_rows = record {
  to_end = refl;
  to_begin = refl;
  to_load = refl;
  to_check = refl;
  to_last = refl;
  past_last = refl;
}
