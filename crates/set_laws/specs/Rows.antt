-- Histories worked out by hand.
use Rattle.std.specs.Prelude.{ℕ, ◌≡◌, List, [], ◌∷◌, Some, None}
use Rattle.norm_lang.specs.Shipped.{set_text}
use Rattle.source_machine.specs.declared.event.SourceEvent.{SourceEvent}
use Rattle.source_machine.specs.declared.event.SourceEvent.TheVariants.{Access, Restart}
use Rattle.source_machine.specs.Keeper.{begins}
use Rattle.norm_lang.specs.declared.reply.SourceReply.TheVariants as replies
use Rattle.source_histories.specs.declared.deed.Deed.{Deed}
use Rattle.source_histories.specs.Books.{Started, Ended, Log, book_of}
use Rattle.set_laws.specs.Sets.{set_rules, set_deeds, SetLegal}

-- a deed with a number for its reply
abbrev pub deed : ℕ → ℕ → ℕ → ℕ → ℕ → Deed
deed caller op arg reply moment = record { caller = caller; op = op; arg = arg; reply = Some reply; moment = moment }

-- a call, and one that ended with a number; and the calls of a caller of a list, as a run leaves them
abbrev pub call : ℕ → ℕ → ℕ → ℕ → Started
call op arg begun since = record { op = op; arg = arg; begun = begun; since = since }

abbrev pub ended : Started → ℕ → ℕ → Ended
ended call reply at = record { call = call; reply = replies.Number reply; at = at }

abbrev pub over : List Ended → Log
over calls = record { done = calls; now = None }

abbrev pub running : Started → Log
running call = record { done = []; now = Some call }

abbrev pub set_log : ℕ → ℕ → List SourceEvent → Log
set_log caller callers events = (book_of (set_text 1) set_rules callers events).log caller

-- caller 0 inserts 5, and then other events
abbrev pub inserts : List SourceEvent → List SourceEvent
inserts events = begins 0 0 5 ∷ Access 0 0 ∷ Access 0 0 ∷ Access 0 2 ∷ Access 0 0 ∷ Access 0 0 ∷ Access 0 0 ∷ events

-- and finds it
abbrev pub finding : List SourceEvent
finding = inserts (begins 0 2 5 ∷ Access 0 0 ∷ Access 0 0 ∷ Access 0 0 ∷ Access 0 0 ∷ Access 0 0 ∷ [])

-- caller 1 has come to the node when caller 0 removes it
abbrev pub missing : List SourceEvent
missing = inserts (
    begins 1 2 5 ∷ Access 1 0 ∷ Access 1 0
    ∷ begins 0 1 5 ∷ Access 0 0 ∷ Access 0 0 ∷ Access 0 0 ∷ Access 0 0 ∷ Access 0 0 ∷ Access 0 0
    ∷ Access 1 0 ∷ Access 1 0 ∷ Access 1 0 ∷ Access 1 0 ∷ Access 1 0
    ∷ []
    )

-- a search of the empty set that begins again before its end
abbrev pub searching_again : List SourceEvent
searching_again = begins 0 2 5 ∷ Access 0 0 ∷ Access 0 0 ∷ Restart 0 ∷ Access 0 0 ∷ Access 0 0 ∷ Access 0 0 ∷ []

-- caller 0 has come to the exchange of its insert of 5 when caller 1 inserts 7, so that the exchange fails, and then other events
abbrev pub failing : List SourceEvent → List SourceEvent
failing events =
    begins 0 0 5 ∷ Access 0 0 ∷ Access 0 0 ∷ Access 0 2 ∷ Access 0 0 ∷ Access 0 0
    ∷ begins 1 0 7 ∷ Access 1 0 ∷ Access 1 0 ∷ Access 1 3 ∷ Access 1 0 ∷ Access 1 0 ∷ Access 1 0
    ∷ Access 0 0
    ∷ events

-- and it inserts 5 before the 7, with a node of its own
abbrev pub inserting_again : List SourceEvent
inserting_again = failing (Access 0 0 ∷ Access 0 0 ∷ Access 0 0 ∷ Access 0 0 ∷ Access 0 4 ∷ Access 0 0 ∷ Access 0 0 ∷ Access 0 0 ∷ [])

-- caller 1 searches, and hasn't ended
abbrev pub searching : List SourceEvent
searching = inserts (begins 1 2 5 ∷ Access 1 0 ∷ Access 1 0 ∷ [])

pub record RowsWorked : Type 0 where
  pub found : set_deeds 1 1 finding ≡ deed 0 0 5 1 6 ∷ deed 0 2 5 1 10 ∷ []
  pub missed : set_deeds 1 2 missing ≡ deed 0 0 5 1 6 ∷ deed 0 1 5 1 15 ∷ deed 1 2 5 0 20 ∷ []
  pub again : set_deeds 1 1 searching_again ≡ deed 0 2 5 0 5 ∷ []
  pub after_again : set_deeds 1 2 inserting_again ≡ deed 1 0 7 1 12 ∷ deed 0 0 5 1 21 ∷ []
  -- a last generator run begins at the restart, and at the exchange that failed; else at the call's Begin
  pub again_log : set_log 0 1 searching_again ≡ over (ended (call 2 5 0 3) 0 6 ∷ [])
  pub failing_log : set_log 0 2 (failing []) ≡ running (call 0 5 0 13)
  pub after_again_log : set_log 0 2 inserting_again ≡ over (ended (call 0 5 0 13) 1 21 ∷ [])
  pub other_log : set_log 1 2 inserting_again ≡ over (ended (call 0 7 6 6) 1 12 ∷ [])
  pub searching_log : set_log 1 2 searching ≡ running (call 2 5 7 7)
  pub found_log : set_log 0 1 finding ≡ over (ended (call 0 5 0 0) 1 6 ∷ ended (call 2 5 7 7) 1 12 ∷ [])
  -- the second is a set's, but not with its search missing the key at its Begin, since the key was there
  pub legal : SetLegal (deed 0 0 5 1 6 ∷ deed 0 1 5 1 15 ∷ deed 1 2 5 0 20 ∷ [])
  pub early : SetLegal (deed 0 0 5 1 6 ∷ deed 1 2 5 0 7 ∷ deed 0 1 5 1 15 ∷ []) → ⊥
  -- a key isn't added twice, nor is a missing one taken out or found
  pub twice : SetLegal (deed 0 0 5 1 6 ∷ deed 0 0 5 1 9 ∷ []) → ⊥
  pub gone : SetLegal (deed 0 1 5 1 6 ∷ []) → ⊥
  pub absent : SetLegal (deed 0 0 5 1 6 ∷ deed 0 2 4 1 9 ∷ []) → ⊥
  -- nor is an absent key said to be there already, nor one that is there said to be absent
  pub said_there : SetLegal (deed 0 0 5 0 6 ∷ []) → ⊥
  pub said_absent : SetLegal (deed 0 0 5 1 6 ∷ deed 0 1 5 0 9 ∷ []) → ⊥
