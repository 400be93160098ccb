-- Runs of the text that keeps a register.
use Rattle.std.specs.Prelude.{refl}
use Rattle.caller_steps.specs.Wants.{wants}
use Rattle.caller_steps.specs.After.{after, signs}
use Rattle.core_rows.specs.SwapRows.{KeptRows, KeptAgainRows, PeekRows, GivenUpRows}

pub kept_rows : KeptRows
unfolding wants after signs
kept_rows = record {
  lines = refl;
  kept = refl;
  other = refl;
  restart = refl;
  counted = refl;
  accessed = refl;
  accessed_before = refl;
  between = refl;
  left = refl;
  other_left = refl;
}

pub kept_again_rows : KeptAgainRows
unfolding wants after signs
kept_again_rows = record {
  lines = refl;
  left = refl;
  other_left = refl;
}

pub peek_rows : PeekRows
unfolding wants after signs
peek_rows = record {
  lines = refl;
  again = refl;
  left = refl;
  at_start = refl;
  at_load = refl;
  at_failure = refl;
  at_second_load = refl;
  in_generator = refl;
}

pub given_up_rows : GivenUpRows
unfolding wants after signs
given_up_rows = record {
  over = refl;
  over_left = refl;
  second_over = refl;
  full = refl;
  next = refl;
  full_left = refl;
}
