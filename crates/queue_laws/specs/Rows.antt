-- Histories worked out by hand.
use Rattle.std.specs.Prelude.{ℕ, ◌≡◌, List, [], ◌∷◌, Option, Some, None}
use Rattle.norm_lang.specs.Shipped.{queue_text}
use Rattle.source_machine.specs.declared.event.SourceEvent.{SourceEvent}
use Rattle.source_machine.specs.declared.event.SourceEvent.TheVariants.{Access}
use Rattle.source_machine.specs.Keeper.{begins}
use Rattle.norm_lang.specs.declared.reply.SourceReply.{SourceReply}
use Rattle.norm_lang.specs.declared.reply.SourceReply.TheVariants as replies
use Rattle.source_histories.specs.declared.deed.Deed.{Deed}
use Rattle.source_histories.specs.Books.{Started, Ended, Log, book_of}
use Rattle.queue_laws.specs.Queues.{queue_rules, queue_deeds, QueueLegal}

-- a deed
abbrev pub deed : ℕ → ℕ → ℕ → Option ℕ → ℕ → Deed
deed caller op arg reply moment = record { caller = caller; op = op; arg = arg; reply = reply; moment = moment }

-- a call, and one that ended; and the calls of a caller, as a run leaves them
abbrev pub call : ℕ → ℕ → ℕ → ℕ → Started
call op arg begun since = record { op = op; arg = arg; begun = begun; since = since }

abbrev pub ended : Started → SourceReply → ℕ → Ended
ended call reply at = record { call = call; reply = reply; at = at }

abbrev pub over : List Ended → Log
over calls = record { done = calls; now = None }

abbrev pub running : Started → Log
running call = record { done = []; now = Some call }

abbrev pub queue_log : ℕ → ℕ → List SourceEvent → Log
queue_log caller callers events = (book_of queue_text queue_rules callers events).log caller

-- one caller finds the queue empty, puts 9 in, and takes it out
abbrev pub going_alone : List SourceEvent
going_alone =
    begins 0 1 0 ∷ Access 0 0 ∷ Access 0 0 ∷ Access 0 0 ∷ Access 0 0
    ∷ begins 0 0 9 ∷ Access 0 0 ∷ Access 0 0 ∷ Access 0 2 ∷ Access 0 0 ∷ Access 0 0 ∷ Access 0 0 ∷ Access 0 0 ∷ Access 0 0 ∷ Access 0 0
    ∷ begins 0 1 0 ∷ Access 0 0 ∷ Access 0 0 ∷ Access 0 0 ∷ Access 0 0 ∷ Access 0 0
    ∷ []

-- caller 1 links its 4, and caller 0 swings the tail for it and takes the 4 before caller 1 ends
abbrev pub helping : List SourceEvent
helping =
    begins 1 0 4 ∷ Access 1 0 ∷ Access 1 0 ∷ Access 1 2 ∷ Access 1 0 ∷ Access 1 0
    ∷ begins 0 1 0 ∷ Access 0 0 ∷ Access 0 0 ∷ Access 0 0 ∷ Access 0 0 ∷ Access 0 0 ∷ Access 0 0 ∷ Access 0 0 ∷ Access 0 0 ∷ Access 0 0
    ∷ Access 1 0 ∷ Access 1 0 ∷ Access 1 0
    ∷ []

-- caller 1 links its 9 before caller 0 its 8, so that the exchange of caller 0 fails
abbrev pub failing : List SourceEvent
failing =
    begins 0 0 8 ∷ Access 0 0 ∷ Access 0 0 ∷ Access 0 2 ∷ Access 0 0
    ∷ begins 1 0 9 ∷ Access 1 0 ∷ Access 1 0 ∷ Access 1 3 ∷ Access 1 0 ∷ Access 1 0
    ∷ Access 0 0
    ∷ []

pub record RowsWorked : Type 0 where
  pub alone : queue_deeds 1 going_alone ≡ deed 0 1 0 None 3 ∷ deed 0 0 9 (Some 9) 10 ∷ deed 0 1 0 (Some 9) 20 ∷ []
  pub helped : queue_deeds 2 helping ≡ deed 1 0 4 (Some 4) 5 ∷ deed 0 1 0 (Some 4) 15 ∷ []
  -- a last generator run begins at the exchange that failed, and else at the call's Begin; a call ends with its wrap-up
  pub alone_log : queue_log 0 1 going_alone ≡ over (ended (call 1 0 0 0) replies.Nothing 4 ∷ ended (call 0 9 5 5) (replies.Number 9) 14 ∷ ended (call 1 0 15 15) (replies.Number 9) 20 ∷ [])
  pub helped_log : queue_log 1 2 helping ≡ over (ended (call 0 4 0 0) (replies.Number 4) 18 ∷ [])
  pub helper_log : queue_log 0 2 helping ≡ over (ended (call 1 0 6 6) (replies.Number 4) 15 ∷ [])
  pub failing_log : queue_log 0 2 failing ≡ running (call 0 8 0 11)
  -- a value isn't taken before it is put in, nor twice, nor out of turn, and nothing isn't found while there is a value
  pub early : QueueLegal (deed 0 1 0 (Some 9) 3 ∷ deed 0 0 9 (Some 9) 10 ∷ []) → ⊥
  pub twice : QueueLegal (deed 0 0 8 (Some 8) 3 ∷ deed 0 1 0 (Some 8) 5 ∷ deed 1 1 0 (Some 8) 7 ∷ []) → ⊥
  pub turn : QueueLegal (deed 0 0 8 (Some 8) 3 ∷ deed 0 0 9 (Some 9) 10 ∷ deed 1 1 0 (Some 9) 12 ∷ []) → ⊥
  pub missed : QueueLegal (deed 0 0 8 (Some 8) 3 ∷ deed 1 1 0 None 12 ∷ []) → ⊥
  -- and an enqueue replies its argument
  pub other : QueueLegal (deed 0 0 9 (Some 8) 10 ∷ []) → ⊥
  pub silent : QueueLegal (deed 0 0 9 None 10 ∷ []) → ⊥
