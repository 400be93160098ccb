-- Runs of the compiled list by two callers, step by step.
use Rattle.std.specs.Prelude.{refl}
use Rattle.caller_steps.specs.Wants.{wants}
use Rattle.caller_steps.specs.After.{after, signs}
use Rattle.core_rows.specs.SharedRows.{RecycledRows, SparedRows, HelpedRows}

pub recycled_rows : RecycledRows
unfolding wants after signs
recycled_rows = record {
  begun = refl;
  given_out = refl;
  ended = refl;
  left = refl;
  other_left = refl;
}

pub spared_rows : SparedRows
unfolding wants after signs
spared_rows = record {
  begun = refl;
  kept = refl;
  ended = refl;
  left = refl;
  other_left = refl;
}

pub helped_rows : HelpedRows
unfolding wants after signs
helped_rows = record {
  helps = refl;
  ended = refl;
  left = refl;
  other_left = refl;
}
