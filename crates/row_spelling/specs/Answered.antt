-- What a reader of a row answers, against what is defined.
use Rattle.std.specs.Prelude.{◌≡◌, Option, Some, None, Result, Ok, Err}
use Rattle.row_spelling.specs.declared.error.RowError.{RowError}
use Rattle.row_spelling.specs.declared.error.RowError.TheVariants as errors

-- a reader stops so if the row is wrong, or if memory ran out
abbrev pub Stops : {Y : Type 0} → RowError → Option Y → Type 0
Stops (errors.Memory error) read = Unit {0}
Stops errors.Wrong read = read ≡ None

-- an answer is what is read, as the view shows it. If the row is told to be wrong, nothing is read, and if memory ran out, nothing is said
abbrev pub Gives : {X Y : Type 0} → (X → Y) → Result X RowError → Option Y → Type 0
Gives view (Ok x) read = read ≡ Some (view x)
Gives view (Err error) read = Stops error read
