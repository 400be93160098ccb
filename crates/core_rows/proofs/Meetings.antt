-- Runs in which two callers meet.
use Rattle.std.specs.Prelude.{refl}
use Rattle.caller_steps.specs.Wants.{wants}
use Rattle.caller_steps.specs.After.{after, signs}
use Rattle.core_rows.specs.MeetingRows.{OwnPhaseRows, SeenRows, RaceRows}

pub own_phase_rows : OwnPhaseRows
unfolding wants after signs
own_phase_rows = record {
  restart = refl;
  sweeps = refl;
  left = refl;
}

pub seen_rows : SeenRows
unfolding wants after signs
seen_rows = record {
  wrap_up = refl;
  wrap_up_left = refl;
  again = refl;
}

pub race_rows : RaceRows
unfolding wants after signs
race_rows = record {
  sweeps = refl;
  looks = refl;
  lost = refl;
  counted = refl;
  other_counted = refl;
  taken = refl;
  late_free = refl;
  unpushed = refl;
  forgotten = refl;
}
