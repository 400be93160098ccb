-- Targets written by hand against the schemes of compiling.
use Rattle.std.specs.Prelude.{refl}
use Rattle.std.specs.Fmt.{digits}
use Rattle.core_rows.specs.CompiledRows.{CompiledRows}

pub compiled_rows : CompiledRows
unfolding digits
compiled_rows = record {
  counter = refl;
  tally = refl;
  numbers = refl;
  swap = refl;
  drops = refl;
  branches = refl;
  stale = refl;
  press = refl;
  touch = refl;
  pair = refl;
  list = refl;
  queue = refl;
  counter_compiled = refl;
  list_compiled = refl;
}
