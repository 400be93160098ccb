-- How the program ends.
use Rattle.std.specs.Prelude.{◌≡◌, ℕ, List, Bool, true, false, Option, IsFalse, ◌⊎◌}
use Rattle.std.specs.Io.KnownBytes.{Appends}
use Rattle.oa_text.specs.Causes.{Rose}
use Rattle.oa_text.specs.Written.{AppendsPrefix}
use Rattle.messages.specs.declared.turns.StoppedTurn.{StoppedTurn}
use Rattle.messages.specs.Messages.{message_for}
use Rattle.refusal_messages.specs.declared.named.Blame.{Blame}
use Rattle.refusal_messages.specs.Named.{IsNamedFor}
use Rattle.statuses.specs.declared.status.Status.{Status}
use Rattle.statuses.specs.declared.status.Status.TheVariants.{Done, Partial, Usage, ReadFault, LongInput, BadDocument, Refused, BadShape, WriteFault, Memory, Rejected}
use Rattle.oa_cli.specs.verdicts.Stops.{IsStopFor}

-- a fault of writing
abbrev pub is_write_fault : Status → Bool
is_write_fault WriteFault = true
is_write_fault Done = false
is_write_fault Partial = false
is_write_fault Usage = false
is_write_fault ReadFault = false
is_write_fault LongInput = false
is_write_fault (BadDocument line fault) = false
is_write_fault (Refused refusal) = false
is_write_fault (BadShape number at) = false
is_write_fault Memory = false
is_write_fault (Rejected number at) = false

-- the status is the one given and nothing failed, or what was buffered could not be handed on; after a fault of writing that
-- isn't tried
abbrev pub IsFinished : ℕ → ℕ → Status → Status → Type 0
IsFinished before now status result =
    ((result ≡ status) × (now ≡ before)) ⊎ (IsFalse (is_write_fault status) × (result ≡ WriteFault) × Rose before now)

-- the message on the status, if this is remembered of what was read. If a rule is broken, it names the first register
-- that is at fault, and if a replay stopped, the turn at which it did, or says that there was no memory to find it
abbrev pub IsMessage : Option (List ℕ) → Status → List ℕ → Type 0
IsMessage read status message =
    (named : Blame) × (turn : StoppedTurn) × IsNamedFor read status named × IsStopFor read status turn × (message ≡ message_for read status named turn)

-- the whole message on the status was written, or writing failed after a prefix of it
abbrev pub IsExplained : Option (List ℕ) → Option (List ℕ) → ℕ → ℕ → Option (List ℕ) → Status → Type 0
IsExplained old new before now read status =
    (message : List ℕ) × IsMessage read status message × (Appends old new message ⊎ (Rose before now × AppendsPrefix old new message))
