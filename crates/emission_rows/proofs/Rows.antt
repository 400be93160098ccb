-- The rows hold by computing.
use Rattle.std.specs.Prelude.{refl}
use Rattle.emission_rows.specs.BlockRows.{BlockRows, PlaceRows}
use Rattle.emission_rows.specs.CallRows.{PushRows, PopRows, PeekRows, SwingRows}

pub block_rows : BlockRows
block_rows = record {
  guard = refl;
  clear = refl;
  exchange = refl;
  retire = refl;
  empty_commit = refl;
  cradle = refl;
}

pub place_rows : PlaceRows
place_rows = record {
  warned = refl;
  wrap_up = refl;
  restart = refl;
  first = refl;
  wrap_warned = refl;
  size = refl;
  kept = refl;
  peek_warned = refl;
  peek_restart = refl;
  begun = refl;
  check = refl;
  failed = refl;
  again = refl;
  count = refl;
  jump = refl;
  begins_again = refl;
  wraps_again = refl;
  past = refl;
}

pub push_rows : PushRows
push_rows = record {
  kept = refl;
  lost = refl;
  claimed = refl;
  over = refl;
}

pub pop_rows : PopRows
pop_rows = record {
  popped = refl;
  warned = refl;
  none = refl;
}

pub peek_rows : PeekRows
peek_rows = record {
  peeked = refl;
  warned = refl;
}

pub swing_rows : SwingRows
swing_rows = record {
  swung = refl;
  lost = refl;
  of_null = refl;
}
