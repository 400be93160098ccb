-- What is seen of a caller before and after an access.
use Rattle.std.specs.Prelude.{ℕ, ◌≡◌, ◌⊎◌, ◌++◌, List, [], ◌∷◌, Option, Some, None, Result, Ok, Err, nat_lt, slice_get, slice_set, slice_index_or}
use Rattle.norm_lang.specs.declared.text.Reg.TheVariants.{Num}
use Rattle.norm_lang.specs.Registers.{number_in}
use Rattle.source_machine.specs.declared.event.SourceEvent.{SourceEvent}
use Rattle.source_machine.specs.declared.event.SourceEvent.TheVariants as events
use Rattle.norm_lang.specs.declared.reply.SourceReply.TheVariants as replies
use Rattle.source_machine.specs.declared.state.Running.{Running}
use Rattle.source_machine.specs.declared.state.SourceCaller.{SourceCaller}
use Rattle.source_machine.specs.Standings.{standing_in, standing_by}
use Rattle.norm_lang.specs.declared.text.Text.{Text}
use Rattle.source_machine.specs.declared.state.SourceMachine.{SourceMachine}
use Rattle.source_machine.specs.declared.error.StepError.{StepError}
use Rattle.source_machine.specs.declared.error.StepError.TheVariants as steps
use Rattle.source_machine.specs.declared.error.RunError.{RunError}
use Rattle.source_machine.specs.declared.error.RunError.TheVariants as runs
use Rattle.source_machine.specs.Calls.{Steps, IsStopped}
use Rattle.source_machine.specs.Run.{mover, caller_replies, IsSourceRun}
use Rattle.source_histories.specs.declared.deed.Deed.{Deed}
use Rattle.source_histories.specs.declared.deed.Notes.{Notes}
use Rattle.source_histories.specs.declared.deed.Seen.{Seen}
use Rattle.source_histories.specs.declared.deed.Noted.{Noted}
use Rattle.source_histories.specs.declared.reader.Before.{Before}
use Rattle.source_histories.specs.Deeds.{deeds_in}
use Rattle.source_histories.specs.Books.{no_notes, Rules, notes_at, last_reply, number_of, noted_at, book_of}

-- the number in a register, 0 if there is none
abbrev pub number_from : Option Running → ℕ → ℕ
number_from None r = 0
number_from (Some running) r = number_in running.registers (Num r)

abbrev pub number_by : Option SourceCaller → ℕ → ℕ
number_by None r = 0
number_by (Some caller) r = number_from caller.running r

-- where an operation stands, and its argument; of the event's caller, if the event is an access
abbrev pub looked_at : Option Running → Option Before
looked_at None = None
looked_at (Some running) = Some (record { standing = standing_in running.op running.stand; arg = number_in running.registers (Num 0) })

abbrev pub looked : Option SourceCaller → Option Before
looked None = None
looked (Some caller) = looked_at caller.running

abbrev pub before_in : SourceEvent → Option SourceCaller → Option Before
before_in (events.Access c name) caller = looked caller
before_in _ caller = None

-- what is seen of an access, by that and by the caller that it leaves
abbrev pub seen_from : Before → Option SourceCaller → Seen
seen_from before after = record {
  before = before.standing;
  arg = before.arg;
  after = standing_by after;
  passed = nat_lt (number_by after 1) (number_by after 0);
  reply = number_of (last_reply replies.Nothing (caller_replies after));
}

-- what is remembered of an event's caller: at a Begin nothing of its earlier calls
abbrev pub notes_before : SourceEvent → ℕ → Notes → Notes
notes_before (events.Begin c number args) t notes = notes_at t
notes_before _ t notes = notes

-- what an event tells, by what was seen
abbrev pub noted_from : Rules → ℕ → ℕ → Notes → Option Before → Option SourceCaller → Noted
noted_from rules t c notes None after = record { notes = notes; deed = None }
noted_from rules t c notes (Some before) after = noted_at rules t c notes (seen_from before after)

-- a deed in the slot of its moment
abbrev pub filled_in : Option Deed → List (Option Deed) → List (Option Deed)
filled_in None slots = slots
filled_in (Some d) slots = slice_set slots d.moment (Some d)

-- what an event that was made leaves written down, and remembered by callers
pub record IsWritten (rules : Rules) (at : ℕ) (event : SourceEvent) (old new : SourceMachine) (slots slots' : List (Option Deed)) (notes notes' : List Notes) : Type 0 where
  pub deeds : slots' ≡ filled_in (noted_from rules at (mover event) (notes_before event at (slice_index_or notes (mover event) no_notes)) (before_in event (slice_get old.callers (mover event))) (slice_get new.callers (mover event))).deed (slots ++ None ∷ [])
  pub remembered : notes' ≡ slice_set notes (mover event) (noted_from rules at (mover event) (notes_before event at (slice_index_or notes (mover event) no_notes)) (before_in event (slice_get old.callers (mover event))) (slice_get new.callers (mover event))).notes

-- an event is made, or isn't enabled; memory may run out at one that is enabled, before or after it was made
abbrev pub IsFollowed : Text → SourceMachine → SourceEvent → SourceMachine → Result (Unit {0}) StepError → Type 0
IsFollowed text old event new (Ok u) = Steps text old event new (Ok u)
IsFollowed text old event new (Err steps.NotEnabled) = Steps text old event new (Err steps.NotEnabled)
IsFollowed text old event new (Err steps.Memory) = Steps text old event new (Err steps.Memory) ⊎ Steps text old event new (Ok tt)

-- the deeds of the calls of a run, or the first event that isn't enabled; memory may run out
abbrev pub Records : Text → Rules → ℕ → List SourceEvent → Result (List Deed) RunError → Type 0
Records text rules callers events (Ok deeds) = (state : SourceMachine) × IsSourceRun text callers events state × (deeds ≡ deeds_in (book_of text rules callers events).slots)
Records text rules callers events (Err (runs.NotEnabled at)) = IsStopped text callers events at
Records text rules callers events (Err runs.Memory) = Unit {0}
