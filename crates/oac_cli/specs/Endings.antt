-- How the program ends.
use Rattle.std.specs.Prelude.{ℕ, List, Option, ◌⊎◌}
use Rattle.std.specs.Io.KnownBytes.{Appends}
use Rattle.oa_text.specs.Causes.{Rose}
use Rattle.oa_text.specs.Written.{AppendsPrefix}
use Rattle.statuses.specs.declared.status.Status.{Status}
use Rattle.statuses.specs.declared.status.Status.TheVariants as statuses
use Rattle.renamed_messages.specs.Renamed.{IsMessageOf}
use Rattle.oac_cli.specs.declared.texts.TheConstants.{PROGRAM, USAGE}

-- the whole message was written, or writing failed after a prefix of it
abbrev pub IsWritten : Option (List ℕ) → Option (List ℕ) → ℕ → ℕ → List ℕ → Type 0
IsWritten old new before now message = Appends old new message ⊎ (Rose before now × AppendsPrefix old new message)

-- the message of `oa` on the status, in a program's name
abbrev pub IsExplainedBy : List ℕ → Option (List ℕ) → Option (List ℕ) → ℕ → ℕ → Option (List ℕ) → Status → Type 0
IsExplainedBy program old new before now read status = (message : List ℕ) × IsMessageOf program read status message × IsWritten old new before now message

-- the message on the status: how the program is used, or what `oa compile` would say, in this program's name
abbrev pub IsExplained : Option (List ℕ) → Option (List ℕ) → ℕ → ℕ → Option (List ℕ) → Status → Type 0
IsExplained old new before now read statuses.Usage = IsWritten old new before now USAGE.now
IsExplained old new before now read status = IsExplainedBy PROGRAM.now old new before now read status
