-- What a reader answers, against what its definition says.
use Rattle.std.specs.Prelude.{◌≡◌, ℕ, Result, Ok, Err}
use Rattle.norm_lang.specs.Faults.{LineFault}
use Rattle.line_words.specs.declared.fault.Fault.{Fault}
use Rattle.line_words.specs.declared.fault.Stop.{Stop}
use Rattle.line_words.specs.declared.fault.Stop.TheVariants as stops
use Rattle.line_words.specs.declared.fault.ParseError.{ParseError}
use Rattle.line_words.specs.declared.fault.ParseError.TheVariants as errors
use Rattle.line_words.specs.Faults.{number_of_fault}

-- the answer, seen by view, is this one, and the fault is this one by its number
abbrev pub Reads : {X Y : Type 0} → (X → Y) → Result X Fault → Result Y ℕ → Type 0
Reads view (Ok x) read = read ≡ Ok (view x)
Reads view (Err fault) read = read ≡ Err (number_of_fault fault)

-- a line's reader stops so if it meets this fault, or if memory ran out
abbrev pub Stops : {Y : Type 0} → Stop → Result Y ℕ → Type 0
Stops stops.Memory read = Unit {0}
Stops (stops.Fault fault) read = read ≡ Err (number_of_fault fault)

-- the same, unless memory ran out
abbrev pub Gives : {X Y : Type 0} → (X → Y) → Result X Stop → Result Y ℕ → Type 0
Gives view (Ok x) read = read ≡ Ok (view x)
Gives view (Err stop) read = Stops stop read

-- a text's reader stops so if it meets this fault of a line, or if memory ran out
abbrev pub Fails : {Y : Type 0} → ParseError → Result Y LineFault → Type 0
Fails errors.Memory read = Unit {0}
Fails (errors.Fault fault) read = read ≡ Err (record { line = fault.line; number = fault.number })

-- the answer of several lines, seen by view, is this one, or the first line that has a fault, with its first fault,
-- unless memory ran out
abbrev pub Answers : {X Y : Type 0} → (X → Y) → Result X ParseError → Result Y LineFault → Type 0
Answers view (Ok x) read = read ≡ Ok (view x)
Answers view (Err error) read = Fails error read
