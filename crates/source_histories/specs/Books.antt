-- What is written down of a source run: the deeds of its calls, each at its moment, and the calls of each caller. The types
-- `Deed`, `Notes`, `Seen` and `Noted` are those of src/deed.rt.
use Rattle.std.specs.Prelude.{ℕ, suc, Bool, true, false, List, [], ◌∷◌, ◌++◌, Option, Some, None, nat_lt, ◌==◌, ◌||◌, slice_get, slice_index, slice_set}
use Rattle.norm_lang.specs.declared.text.Reg.TheVariants.{Num}
use Rattle.norm_lang.specs.declared.text.Text.{Text}
use Rattle.norm_lang.specs.Registers.{number_in}
use Rattle.source_machine.specs.declared.reads.Standing.{Standing}
use Rattle.source_machine.specs.declared.event.SourceEvent.{SourceEvent}
use Rattle.source_machine.specs.declared.event.SourceEvent.TheVariants as events
use Rattle.norm_lang.specs.declared.reply.SourceReply.{SourceReply}
use Rattle.norm_lang.specs.declared.reply.SourceReply.TheVariants as replies
use Rattle.source_machine.specs.declared.state.Stand.{Stand}
use Rattle.source_machine.specs.declared.state.Stand.TheVariants.{InGenerator, InList, InWrapUp}
use Rattle.source_machine.specs.declared.state.Running.{Running}
use Rattle.source_machine.specs.declared.state.SourceCaller.{SourceCaller}
use Rattle.source_machine.specs.declared.state.SourceMachine.{SourceMachine}
use Rattle.source_machine.specs.State.{source_start}
use Rattle.source_machine.specs.Standings.{standing_in, standing_of}
use Rattle.source_machine.specs.Step.{caller_turn}
use Rattle.source_machine.specs.Run.{mover, source_step}
use Rattle.source_machine.specs.MethodRuns.{put}
use Rattle.source_histories.specs.declared.deed.Deed.{Deed}
use Rattle.source_histories.specs.declared.deed.Notes.{Notes}
use Rattle.source_histories.specs.declared.deed.Seen.{Seen}
use Rattle.source_histories.specs.declared.deed.Noted.{Noted}

-- what is remembered of a caller before its first call, which nothing reads
abbrev pub no_notes : Notes
no_notes = record { gap = 0; load = 0 }

-- how a text's operations are read
pub record Rules : Type 0 where
  -- whether a commit stands at an instruction of an operation
  pub commits : ℕ → ℕ → Bool
  -- what is remembered after an access of a generator, by the event and what was remembered
  pub noted : ℕ → Notes → Seen → Notes
  -- the reply of an operation whose first exchange of the list succeeded, by its argument
  pub promised : ℕ → ℕ
  -- the moment of an operation that ends with an event, by what is remembered, the operation and the reply
  pub moment : ℕ → Notes → ℕ → Option ℕ → ℕ

-- what is seen of an access by a caller that runs an operation: where it stood and its argument; where it stands afterwards;
-- whether n1 is less than n0 then; and the number that it replied last
abbrev pub last_reply : SourceReply → List SourceReply → SourceReply
last_reply reply [] = reply
last_reply reply (r ∷ rs) = last_reply r rs

abbrev pub number_of : SourceReply → Option ℕ
number_of (replies.Number v) = Some v
number_of _ = None

abbrev pub passed_in : Option Running → Bool
passed_in None = false
passed_in (Some running) = nat_lt (number_in running.registers (Num 1)) (number_in running.registers (Num 0))

abbrev pub seen_of : Running → SourceCaller → Seen
seen_of running after = record {
  before = standing_in running.op running.stand;
  arg = number_in running.registers (Num 0);
  after = standing_of after.running;
  passed = passed_in after.running;
  reply = number_of (last_reply replies.Nothing after.replies);
}

-- a deed of the operation that was seen
abbrev pub deed_of : ℕ → Seen → Option ℕ → ℕ → Deed
deed_of c seen reply moment = record { caller = c; op = seen.before.op; arg = seen.arg; reply = reply; moment = moment }

-- if the operation runs on, either the first exchange of the list succeeded, which is its moment, or it begins again
abbrev pub deed_promised : Rules → ℕ → ℕ → Seen → Bool → Option Deed
deed_promised rules t c seen true = Some (deed_of c seen (Some (rules.promised seen.arg)) t)
deed_promised rules t c seen false = None

-- the first access at a commit: if the operation ends by it, its moment is told by its reply
abbrev pub deed_committed : Rules → ℕ → ℕ → Notes → Seen → Option Standing → Option Deed
deed_committed rules t c notes seen None = Some (deed_of c seen seen.reply (rules.moment t notes seen.before.op seen.reply))
deed_committed rules t c notes seen (Some next) = deed_promised rules t c seen (nat_lt 0 next.made)

-- an access tells nothing once an exchange of the list has succeeded, and in a wrap-up; one at a commit tells a deed; and one of
-- a generator tells what is to be remembered
abbrev pub noted_by : Rules → ℕ → ℕ → Notes → Seen → Bool → Bool → Noted
noted_by rules t c notes seen true commits = record { notes = notes; deed = None }
noted_by rules t c notes seen false true = record { notes = notes; deed = deed_committed rules t c notes seen seen.after }
noted_by rules t c notes seen false false = record { notes = rules.noted t notes seen; deed = None }

abbrev pub noted_at : Rules → ℕ → ℕ → Notes → Seen → Noted
noted_at rules t c notes seen = noted_by rules t c notes seen (seen.before.wrapup || nat_lt 0 seen.before.made) (rules.commits seen.before.op seen.before.at)

-- before a search has found anything out, its Begin is what is remembered
abbrev pub notes_at : ℕ → Notes
notes_at t = record { gap = t; load = t }

-- what an event tells: only an access tells of a deed
abbrev pub noted_of : Rules → SourceEvent → ℕ → Notes → Option Running → SourceCaller → Noted
noted_of rules (events.Begin c number args) t notes running after = record { notes = notes_at t; deed = None }
noted_of rules (events.Access c name) t notes (Some running) after = noted_at rules t c notes (seen_of running after)
noted_of rules _ t notes running after = record { notes = notes; deed = None }

-- the event's own slot, and the deed in the slot of its moment
abbrev pub written : Option Deed → List (Option Deed) → List (Option Deed)
written None slots = slots ++ None ∷ []
written (Some d) slots = slice_set (slots ++ None ∷ []) d.moment (Some d)

-- a generator runs up to the first exchange of its list that succeeds
abbrev pub is_generating : Stand → Bool
is_generating (InGenerator at) = true
is_generating (InList at entries made) = made == 0
is_generating (InWrapUp at started accessed) = false

abbrev pub generates : Option Running → Bool
generates None = false
generates (Some running) = is_generating running.stand

-- a generator run begins by an event of the caller after which the generator runs, as by a Begin, by a restart and by an
-- access that leads to `again`; only an access of the generator goes on with the run in hand
abbrev pub begins_from : Stand → Option Running → Bool
begins_from (InGenerator at) after = false
begins_from _ after = generates after

abbrev pub begins_run : SourceEvent → Option Running → Option Running → Bool
begins_run (events.Access c name) (Some running) after = begins_from running.stand after
begins_run _ running after = generates after

-- a call, with the place of its Begin, and of the event by which its last generator run began; one that ended, with its reply
-- and the place of the event that ended it
pub record Started : Type 0 where
  pub op : ℕ
  pub arg : ℕ
  pub begun : ℕ
  pub since : ℕ

pub record Ended : Type 0 where
  pub call : Started
  pub reply : SourceReply
  pub at : ℕ

-- its reply
abbrev pub replied_with : Ended → SourceReply
replied_with e = e.reply

-- a caller's calls, in order, and the one that runs
pub record Log : Type 0 where
  pub done : List Ended
  pub now : Option Started

abbrev pub no_calls : Log
no_calls = record { done = []; now = None }

-- the call that runs ends with a reply; it ends if its caller is idle after an event
abbrev pub log_ended : ℕ → SourceReply → Option Started → Log → Log
log_ended t reply None log = log
log_ended t reply (Some call) log = record { done = log.done ++ record { call = call; reply = reply; at = t } ∷ []; now = None }

abbrev pub logged_by : ℕ → SourceCaller → Option Running → Log → Log
logged_by t after None log = log_ended t (last_reply replies.Nothing after.replies) log.now log
logged_by t after (Some running) log = log

-- the call's generator begins again
abbrev pub run_again : ℕ → Started → Started
run_again t call = record call { since = t }

abbrev pub again_now : ℕ → Option Started → Option Started
again_now t None = None
again_now t (Some call) = Some (run_again t call)

abbrev pub log_again : Bool → ℕ → Log → Log
log_again true t log = record { done = log.done; now = again_now t log.now }
log_again false t log = log

-- the log after an event, by what the caller ran before it
abbrev pub logged : SourceEvent → ℕ → Option Running → SourceCaller → Log → Log
logged (events.Begin c number args) t before after log = record { done = log.done; now = Some (record { op = number; arg = slice_index args 0; begun = t; since = t }) }
logged event t before after log = log_again (begins_run event before after.running) t (logged_by t after after.running log)

-- the caller whose access of a generator or of a list an event is; none if it is another event, or of a wrap-up
abbrev pub accesses_at : Stand → ℕ → Option ℕ
accesses_at (InGenerator at) c = Some c
accesses_at (InList at entries made) c = Some c
accesses_at (InWrapUp at started accessed) c = None

abbrev pub accesses : SourceEvent → Option Running → Option ℕ
accesses (events.Access c name) (Some running) = accesses_at running.stand c
accesses _ running = None

-- the machine, how many events were made and whose access of a generator or of a list each was, and what was written down
pub record Book : Type 0 where
  pub machine : SourceMachine
  pub time : ℕ
  pub by : ℕ → Option ℕ
  pub slots : List (Option Deed)
  pub notes : ℕ → Notes
  pub log : ℕ → Log

-- at the start nothing was made, and nothing is written down
abbrev pub book_start : Text → ℕ → Book
book_start text callers = record { machine = source_start text callers; time = 0; by = λ t. None; slots = []; notes = λ c. no_notes; log = λ c. no_calls }

-- after an event by the caller, which it leaves as the second
abbrev pub book_turned : Text → Rules → Book → SourceEvent → SourceCaller → SourceCaller → Book
book_turned text rules b event caller after = record {
  machine = source_step text b.machine event;
  time = suc b.time;
  by = put b.by b.time (accesses event caller.running);
  slots = written (noted_of rules event b.time (b.notes (mover event)) caller.running after).deed b.slots;
  notes = put b.notes (mover event) (noted_of rules event b.time (b.notes (mover event)) caller.running after).notes;
  log = put b.log (mover event) (logged event b.time caller.running after (b.log (mover event)));
}

-- after an event, and after a list of events; a caller that doesn't exist makes none
abbrev pub book_by : Text → Rules → Book → SourceEvent → Option SourceCaller → Book
book_by text rules b event None = b
book_by text rules b event (Some caller) = book_turned text rules b event caller (caller_turn text event b.machine.memory caller).caller

abbrev pub book_step : Text → Rules → Book → SourceEvent → Book
book_step text rules b event = book_by text rules b event (slice_get b.machine.callers (mover event))

abbrev pub book_run : Text → Rules → List SourceEvent → Book → Book
book_run text rules [] b = b
book_run text rules (event ∷ events) b = book_run text rules events (book_step text rules b event)

-- of a run from the start of so many callers
abbrev pub book_of : Text → Rules → ℕ → List SourceEvent → Book
book_of text rules callers events = book_run text rules events (book_start text callers)
