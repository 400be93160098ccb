-- The message on a status, as another program than `oa` says it.
use Rattle.std.specs.Prelude.{◌≡◌, ◌⊎◌, ℕ, List, ◌++◌, codes, take, drop, Option, if◌then◌else◌}
use Rattle.std.specs.Str.{bytes_eq}
use Rattle.messages.specs.declared.turns.StoppedTurn.TheVariants.{Nowhere}
use Rattle.messages.specs.Messages.{message_for}
use Rattle.refusal_messages.specs.declared.named.Blame.{Blame}
use Rattle.refusal_messages.specs.Named.{IsNamedFor}
use Rattle.statuses.specs.declared.status.Status.{Status}

-- a message that begins with `oa:` begins with a program's name and a colon instead; another stays
abbrev pub renamed : List ℕ → List ℕ → List ℕ
renamed program message = if bytes_eq (take 3 message) (codes "oa:") then program ++ (codes ":" ++ drop 3 message) else message

-- the message of `oa` on a status, if this is remembered of what was read: in a program's name, or, if memory ran out, as it is
abbrev pub IsMessageOf : List ℕ → Option (List ℕ) → Status → List ℕ → Type 0
IsMessageOf program read status message =
    (named : Blame) × IsNamedFor read status named
    × ((message ≡ renamed program (message_for read status named Nowhere)) ⊎ (message ≡ message_for read status named Nowhere))
