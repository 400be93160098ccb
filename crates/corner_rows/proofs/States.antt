-- Counts, statuses, addresses and events, by computing.
use Rattle.std.specs.Prelude.{refl}
use Rattle.caller_steps.specs.Wants.{wants}
use Rattle.caller_steps.specs.After.{after}
use Rattle.corner_rows.specs.CountRows.{CountRows, StatusRows}
use Rattle.corner_rows.specs.LayoutRows.{AddressRows, GuardWordRows}
use Rattle.corner_rows.specs.EventRows.{EventRows}

pub count_rows : CountRows
unfolding after
count_rows = record {
  last = refl;
  stays = refl;
  steps = refl;
  last_step = refl;
  steps_stay = refl;
  restarts = refl;
  restarts_stay = refl;
  claims = refl;
  claims_stay = refl;
  not_claimed = refl;
}

pub status_rows : StatusRows
status_rows = record {
  before = refl;
  gathered = refl;
  same = refl;
  later = refl;
  much_later = refl;
  ready = refl;
  used = refl;
  no_kind = refl;
  no_kind_no_phase = refl;
}

pub address_rows : AddressRows
address_rows = record {
  first_place = refl;
  last_place = refl;
  first_warning = refl;
  last_warning = refl;
  first_hazard = refl;
  first_last = refl;
  second_first = refl;
  second_third = refl;
  second_last = refl;
  third_first = refl;
  last_hazard = refl;
  null_status = refl;
  last_status = refl;
  null_field = refl;
  first_slot = refl;
  last_field = refl;
  first_root = refl;
  last_root = refl;
  head = refl;
  null_link = refl;
  last_link = refl;
  all = refl;
}

pub guard_word_rows : GuardWordRows
unfolding wants after
guard_word_rows = record { words = refl }

pub event_rows : EventRows
unfolding wants after
event_rows = record {
  taken = refl;
  both = refl;
  one_after_another = refl;
  busy = refl;
  busy_later = refl;
  no_operation = refl;
  second_word = refl;
  last_word = refl;
  first_word = refl;
  no_caller = refl;
  idle = refl;
  other_idle = refl;
  ended = refl;
  nobody = refl;
}
