-- A queue, and the deeds of the calls of its text.
use Rattle.std.specs.Prelude.{ℕ, zero, suc, ◌≡◌, ◌==◌, ◌++◌, ◌&&◌, ◌||◌, Bool, true, false, List, [], ◌∷◌, Option, Some, None, Result, Ok, Err, if◌then◌else◌}
use Rattle.norm_lang.specs.Shipped.{queue_text}
use Rattle.source_machine.specs.declared.event.SourceEvent.{SourceEvent}
use Rattle.source_machine.specs.declared.state.SourceMachine.{SourceMachine}
use Rattle.source_machine.specs.declared.error.RunError.{RunError}
use Rattle.source_machine.specs.declared.error.RunError.TheVariants as runs
use Rattle.source_machine.specs.Calls.{IsStopped}
use Rattle.source_machine.specs.Run.{IsSourceRun}
use Rattle.source_histories.specs.declared.deed.Deed.{Deed}
use Rattle.source_histories.specs.Deeds.{deeds_in, AreLegal}
use Rattle.source_histories.specs.declared.deed.Notes.{Notes}
use Rattle.source_histories.specs.Books.{Rules, book_of}
use Rattle.source_histories.specs.Answers.{AnswersAs, DeedsStand}

-- what the queue holds after an enqueue, which adds at the back and replies its argument
abbrev pub enqueued : Bool → ℕ → List ℕ → Option (List ℕ)
enqueued true value values = Some (values ++ value ∷ [])
enqueued false value values = None

-- and after a dequeue, which takes the front, or replies nothing exactly if there is none
abbrev pub dequeued : Option ℕ → List ℕ → Option (List ℕ)
dequeued None [] = Some []
dequeued None (value ∷ values) = None
dequeued (Some reply) [] = None
dequeued (Some reply) (value ∷ values) = if value == reply then Some values else None

-- what is left after a deed, by its operation, its argument and its reply
abbrev pub after_enqueue : ℕ → Option ℕ → List ℕ → Option (List ℕ)
after_enqueue value None values = None
after_enqueue value (Some reply) values = enqueued (reply == value) value values

abbrev pub after_op : ℕ → ℕ → Option ℕ → List ℕ → Option (List ℕ)
after_op zero arg reply values = after_enqueue arg reply values
after_op (suc zero) arg reply values = dequeued reply values
after_op (suc (suc n)) arg reply values = None

abbrev pub queue_step : Deed → List ℕ → Option (List ℕ)
queue_step d values = after_op d.op d.arg d.reply values

-- the deeds are those of a queue that is empty first
abbrev pub QueueLegal : List Deed → Type 0
QueueLegal deeds = AreLegal queue_step [] deeds

-- where the commits stand
abbrev pub queue_commits : ℕ → ℕ → Bool
queue_commits zero at = at == 8
queue_commits (suc zero) at = (at == 7) || (at == 13)
queue_commits (suc (suc n)) at = false

-- a dequeue's load of `next` into r2 is its instruction 3
abbrev pub load_noted : Bool → ℕ → Notes → Notes
load_noted true t notes = record { gap = notes.gap; load = t }
load_noted false t notes = notes

-- the moment of what ends by an exchange is the exchange; that of a dequeue that finds nothing is its last load of `next`, which
-- finds null. Only this line and the worked row tell that load from the one of `head` before it: a `next` goes from null to a
-- node and never back, so that the queue was empty there too, and a history with that moment is legal as well
abbrev pub queue_moment : ℕ → Notes → Option ℕ → ℕ
queue_moment t notes (Some v) = t
queue_moment t notes None = notes.load

-- how the queue's operations are read; an enqueue whose exchange succeeded will reply its argument
abbrev pub queue_rules : Rules
queue_rules = record {
  commits = queue_commits;
  noted = λ t notes seen. load_noted ((seen.before.op == 1) && (seen.before.at == 3)) t notes;
  promised = λ arg. arg;
  moment = λ t notes op reply. queue_moment t notes reply;
}

-- the deeds of the calls of a run, in the order of their moments
abbrev pub queue_deeds : ℕ → List SourceEvent → List Deed
queue_deeds callers events = deeds_in (book_of queue_text queue_rules callers events).slots

-- the queue's text answers as a queue
abbrev pub QueueAnswers : Type 0
QueueAnswers = (callers : ℕ) (events : List SourceEvent) (state : SourceMachine) → IsSourceRun queue_text callers events state
    → AnswersAs (List ℕ) queue_step [] state (book_of queue_text queue_rules callers events)

-- what is told of a running call stands
abbrev pub QueueDeedsStand : Type 0
QueueDeedsStand = DeedsStand queue_text queue_rules

-- the history of a run, which answers as a queue; or the first event that isn't enabled; memory may run out
abbrev pub IsQueueHistory : ℕ → List SourceEvent → Result (List Deed) RunError → Type 0
IsQueueHistory callers events (Ok deeds) =
    (state : SourceMachine) × IsSourceRun queue_text callers events state × (deeds ≡ queue_deeds callers events)
    × AnswersAs (List ℕ) queue_step [] state (book_of queue_text queue_rules callers events)
IsQueueHistory callers events (Err (runs.NotEnabled at)) = IsStopped queue_text callers events at
IsQueueHistory callers events (Err runs.Memory) = Unit {0}
