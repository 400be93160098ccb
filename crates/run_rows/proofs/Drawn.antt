-- The rows of DrawnRows, computed.
use Rattle.std.specs.Prelude.{refl}
use Rattle.run_rows.specs.DrawnRows.{DrawnRows}

pub drawn_rows : DrawnRows
drawn_rows = record { events = refl; machine = refl; unused = refl; first = refl; second = refl; restart = refl }
