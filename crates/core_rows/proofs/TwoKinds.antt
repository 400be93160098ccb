-- Runs with two kinds of nodes.
use Rattle.std.specs.Prelude.{refl}
use Rattle.caller_steps.specs.Wants.{wants}
use Rattle.caller_steps.specs.After.{after, signs}
use Rattle.core_rows.specs.TwoKindRows.{TwoKindStarts, TwoKindCradles, TwoKindSweeps}

pub two_kind_starts : TwoKindStarts
two_kind_starts = record {
  words = refl;
  count = refl;
  last_status = refl;
  third_of_pair = refl;
  second_root = refl;
  first_head = refl;
  second_head = refl;
  null_link = refl;
  last_link = refl;
}

pub two_kind_cradles : TwoKindCradles
unfolding wants after signs
two_kind_cradles = record { item = refl; lines = refl; left = refl }

pub two_kind_sweeps : TwoKindSweeps
unfolding wants after signs
two_kind_sweeps = record { freed = refl; unfreed = refl; full = refl }
