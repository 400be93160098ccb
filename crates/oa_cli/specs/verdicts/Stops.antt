-- The turn at which a replay stopped, as the message on it tells.
use Rattle.std.specs.Prelude.{◌≡◌, ℕ, Bool, false, List, Option, Some, None, Result, Ok, Err, MatchBool, ◌==◌}
use Rattle.norm_lang.specs.Faults.{LineFault}
use Rattle.documents.specs.declared.document.Document.{Document}
use Rattle.documents.specs.DocumentRead.{document_read}
use Rattle.script_plans.specs.Plans.{IsRunnable}
use Rattle.document_runs.specs.Stops.{DocumentStopsAfter}
use Rattle.messages.specs.declared.turns.StoppedTurn.{StoppedTurn}
use Rattle.messages.specs.declared.turns.StoppedTurn.TheVariants.{After, NoMemory, Nowhere}
use Rattle.statuses.specs.declared.status.Status.{Status}
use Rattle.statuses.specs.declared.status.Status.TheVariants.{BadShape}

-- the replay of a document makes so many turns whole, and stops at the next. One that can't be replayed has none; if memory ran out,
-- nothing is told
abbrev pub IsStopOf : Document → StoppedTurn → Type 0
IsStopOf document (After whole) = IsRunnable document × DocumentStopsAfter document whole
IsStopOf document NoMemory = Unit {0}
IsStopOf document Nowhere = ¬ IsRunnable document

-- the same, if this was read as a document. If a line has a fault, there is no document, and no turn is told
abbrev pub IsStopAt : Result Document LineFault → StoppedTurn → Type 0
IsStopAt (Ok document) turn = IsStopOf document turn
IsStopAt (Err fault) (After whole) = ⊥
IsStopAt (Err fault) NoMemory = Unit {0}
IsStopAt (Err fault) Nowhere = Unit {0}

-- the same of the document that bytes are
abbrev pub IsStopIn : List ℕ → StoppedTurn → Type 0
IsStopIn bytes turn = IsStopAt (document_read bytes) turn

-- the same, if this is remembered of what was read; of what is forgotten no turn can be told
abbrev pub IsStopRead : Option (List ℕ) → StoppedTurn → Type 0
IsStopRead None turn = turn ≡ NoMemory
IsStopRead (Some bytes) turn = IsStopIn bytes turn

-- the status tells that a turn needs a step of a caller that has none to take
abbrev pub is_stopped : Status → Bool
is_stopped (BadShape number at) = number == 10
is_stopped _ = false

-- the turn that the message on a status tells: none, unless the status tells that a turn needs such a step
abbrev pub IsStopFor : Option (List ℕ) → Status → StoppedTurn → Type 0
IsStopFor read status turn = MatchBool (is_stopped status) (IsStopRead read turn) (turn ≡ Nowhere)
