-- The rows of CountedRows, computed.
use Rattle.std.specs.Prelude.{refl}
use Rattle.caller_steps.specs.Wants.{wants}
use Rattle.caller_steps.specs.After.{after, signs}
use Rattle.epoch_rows.specs.CountedRows.{CountedRows}

pub counted_rows : CountedRows
unfolding wants after signs
counted_rows = record { full = refl; claimed = refl; other = refl }
