-- How far a source is read.
use Rattle.std.specs.Prelude.{ℕ, zero, suc, ◌<◌, ◌≤◌, List, Option, Result, Ok, Err, length}
use Rattle.std.specs.Io.KnownBytes.{Consumes}
use Rattle.oa_text.specs.declared.source.Failed.{Failed}
use Rattle.command_input.specs.declared.input.Standing.{Standing}
use Rattle.command_input.specs.declared.input.Standing.TheVariants.{Open, Ended, Broken}

-- the bytes that were read are fewer than so many
abbrev pub ReadsFewer : ℕ → Option (List ℕ) → Option (List ℕ) → Type 0
ReadsFewer limit old new = (bytes : List ℕ) × Consumes old new bytes × (length bytes < limit)

-- the bytes that were read are no more than so many
abbrev pub ReadsWithin : ℕ → Option (List ℕ) → Option (List ℕ) → Type 0
ReadsWithin limit old new = (bytes : List ℕ) × Consumes old new bytes × (length bytes ≤ limit)

-- how reading stands after a read
abbrev pub standing_after : Result ℕ Failed → Standing
standing_after (Ok zero) = Ended
standing_after (Ok (suc n)) = Open
standing_after (Err e) = Broken
