-- What the callers of a shipped text are told of their calls.
use Rattle.std.specs.Prelude.{◌≡◌, ◌<◌, ◌≤◌, ◌⊎◌, ℕ, zero, suc, List, [], ◌∷◌, slice_index}
use Rattle.norm_lang.specs.Shipped.{set_text, queue_text}
use Rattle.source_machine.specs.declared.event.SourceEvent.{SourceEvent}
use Rattle.norm_lang.specs.declared.reply.SourceReply.{SourceReply}
use Rattle.norm_lang.specs.declared.reply.SourceReply.TheVariants as replies
use Rattle.source_machine.specs.declared.state.SourceMachine.{SourceMachine}
use Rattle.source_machine.specs.Run.{IsSourceRun, source_replies}
use Rattle.caller_parts.specs.declared.call.Call.{Call}
use Rattle.run_laws.specs.begin_laws.Begins.{begun_in}
use Rattle.histories.specs.declared.call.Call as told
use Rattle.histories.specs.declared.call.Action.{Action}
use Rattle.histories.specs.declared.call.Action.TheVariants.{Insert, Remove, Contains, Enqueue, Dequeue}
use Rattle.histories.specs.declared.call.Answer.{Answer}
use Rattle.histories.specs.declared.call.Answer.TheVariants.{Number, Nothing, Spent, NoEffect}
use Rattle.histories.specs.Histories.{nothing_shared, calls_of, HasLegalOrder}

-- what the operations of a set's text ask for, by number and argument
abbrev pub set_action : ℕ → ℕ → Action
set_action zero key = Insert key
set_action (suc zero) key = Remove key
set_action (suc (suc n)) key = Contains key

-- and those of the queue's
abbrev pub queue_action : ℕ → ℕ → Action
queue_action zero value = Enqueue value
queue_action (suc n) value = Dequeue

-- what a caller is told of a call that ended with a reply. That it was spent may be told of any
abbrev pub AnswerTold : SourceReply → Answer → Type 0
AnswerTold (replies.Number v) (Number n) = v ≡ n
AnswerTold (replies.Number v) Nothing = ⊥
AnswerTold (replies.Number v) Spent = Unit {0}
AnswerTold (replies.Number v) NoEffect = ⊥
AnswerTold replies.Nothing (Number n) = ⊥
AnswerTold replies.Nothing Nothing = Unit {0}
AnswerTold replies.Nothing Spent = Unit {0}
AnswerTold replies.Nothing NoEffect = ⊥
AnswerTold replies.Full (Number n) = ⊥
AnswerTold replies.Full Nothing = ⊥
AnswerTold replies.Full Spent = Unit {0}
AnswerTold replies.Full NoEffect = Unit {0}
AnswerTold (replies.Phases p) (Number n) = ⊥
AnswerTold (replies.Phases p) Nothing = ⊥
AnswerTold (replies.Phases p) Spent = Unit {0}
AnswerTold (replies.Phases p) NoEffect = Unit {0}

-- the action is the one that a call asks for
abbrev pub IsAsked : (ℕ → ℕ → Action) → Call → told.Call → Type 0
IsAsked action call it = action call.op (slice_index call.args 0) ≡ it.action

-- of a call that was never begun it may be told that it had no effect, or that it was spent
abbrev pub NeverBegun : Answer → Type 0
NeverBegun answer = (answer ≡ NoEffect) ⊎ (answer ≡ Spent)

-- what a caller is told of its calls, by those that it began and the replies that it got, both in order: of one that ended its reply; of one
-- that runs still that it is spent; of one that it never began that it had no effect, or was spent. No run has more replies than calls
abbrev pub AreTold : (ℕ → ℕ → Action) → List Call → List SourceReply → List told.Call → Type 0
AreTold action [] [] [] = Unit {0}
AreTold action [] [] (it ∷ its) = NeverBegun it.answer × AreTold action [] [] its
AreTold action [] (reply ∷ rest) its = Unit {0}
AreTold action (call ∷ calls) replies [] = ⊥
AreTold action (call ∷ calls) [] (it ∷ its) = IsAsked action call it × (it.answer ≡ Spent) × AreTold action calls [] its
AreTold action (call ∷ calls) (reply ∷ rest) (it ∷ its) = IsAsked action call it × AnswerTold reply it.answer × AreTold action calls rest its

-- whatever such callers are told has a legal order: each call is in it once, each caller's in its own order, and a set, or a queue,
-- that is empty at first gives each answer
abbrev pub IsLegalWhereTold : (ℕ → ℕ → Action) → ℕ → List SourceEvent → SourceMachine → Type 0
IsLegalWhereTold action callers events state = (history : List told.Call) → ((c : ℕ) → c < callers → AreTold action (begun_in c events) (source_replies state c) (calls_of c history))
    → ((c : ℕ) → callers ≤ c → calls_of c history ≡ []) → HasLegalOrder nothing_shared history

-- of each run of a set's text, with any count of buckets
abbrev pub SetRunsAreLegal : Type 0
SetRunsAreLegal = (buckets callers : ℕ) (events : List SourceEvent) (state : SourceMachine) → 0 < buckets → IsSourceRun (set_text buckets) callers events state → IsLegalWhereTold set_action callers events state

-- and of the queue's
abbrev pub QueueRunsAreLegal : Type 0
QueueRunsAreLegal = (callers : ℕ) (events : List SourceEvent) (state : SourceMachine) → IsSourceRun queue_text callers events state → IsLegalWhereTold queue_action callers events state
