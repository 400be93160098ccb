-- Whole runs by turns.
use Rattle.std.specs.Prelude.{refl}
use Rattle.caller_steps.specs.Wants.{wants}
use Rattle.caller_steps.specs.After.{after}
use Rattle.core_rows.specs.ReplayRows.{ListReplays, SharedReplays, QueueReplays, TurnRows, KindRows}

pub list_replays : ListReplays
unfolding wants after
list_replays = record {
  plain = refl;
  recycling = refl;
  full = refl;
  comes_back = refl;
  phases_over = refl;
  warns_itself = refl;
}

pub shared_replays : SharedReplays
unfolding wants after
shared_replays = record {
  recycled = refl;
  guarded = refl;
  expected = refl;
}

pub queue_replays : QueueReplays
unfolding wants after
queue_replays = record {
  alone = refl;
  late_swing = refl;
}

pub turn_rows : TurnRows
unfolding wants after
turn_rows = record {
  first = refl;
  spent = refl;
  just = refl;
  disturbed = refl;
  stepped = refl;
  checked = refl;
  wanted_already = refl;
  before_load = refl;
  second_load = refl;
  nobody = refl;
  nobody_spent = refl;
  nobody_else = refl;
  no_second = refl;
  one_check = refl;
  two_turns = refl;
  in_order = refl;
  wanted_spent = refl;
  limited = refl;
  long = refl;
  long_turn = refl;
  nobody_first = refl;
}

pub kind_rows : KindRows
unfolding wants after
kind_rows = record {
  null_loads = refl;
  null_loads_end = refl;
  null_exchanges = refl;
  full_ended = refl;
  over_ended = refl;
  text_exchanges = refl;
}
