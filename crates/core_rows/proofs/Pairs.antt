-- Runs over two fields, two arguments and marks, and from phase 5.
use Rattle.std.specs.Prelude.{refl}
use Rattle.caller_steps.specs.Wants.{wants}
use Rattle.caller_steps.specs.After.{after, signs}
use Rattle.core_rows.specs.PairRows.{PairRows, FifthRows}

pub pair_rows : PairRows
unfolding wants after signs
pair_rows = record {
  second = refl;
  left = refl;
  marks = refl;
  marks_left = refl;
}

pub fifth_rows : FifthRows
unfolding wants after signs
fifth_rows = record {
  insert = refl;
  remove = refl;
}
