-- Runs of the queue as `compile` makes it.
use Rattle.std.specs.Prelude.{refl}
use Rattle.std.specs.Fmt.{digits}
use Rattle.caller_steps.specs.Wants.{wants}
use Rattle.caller_steps.specs.After.{after, signs}
use Rattle.core_rows.specs.CombinedRows.{CombinedRows}

pub combined_rows : CombinedRows
unfolding digits wants after signs
combined_rows = record {
  compiled = refl;
  enqueue_alone = refl;
  dequeue_alone = refl;
  steps = refl;
  dequeue_empty = refl;
  left = refl;
  left_empty = refl;
  recycled = refl;
  late_swing = refl;
}
