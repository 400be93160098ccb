-- The rows of retired lists, computed.
use Rattle.std.proofs.Common.{refl}
use Rattle.proper_rows.specs.RetiredRows.{RetiredRows}

pub retired_rows : RetiredRows
retired_rows = record {
  first = refl;
  second = refl;
  never = refl;
  both = refl;
  later = refl;
  earlier = refl;
  none = refl;
  other = refl;
  again = refl;
  once = refl;
  null = refl;
  kept = refl;
  numbered = refl;
}
