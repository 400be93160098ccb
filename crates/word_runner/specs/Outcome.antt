-- What an outcome says of the entry.
use Rattle.std.specs.Prelude.{◌≡◌, ◌++◌, ◌∷◌, true, false, List, [], Option, Some, None}
use Rattle.norm_lang.specs.declared.reply.SourceReply.{SourceReply}
use Rattle.norm_lang.specs.declared.reply.SourceReply.TheVariants as replies
use Rattle.caller_parts.specs.declared.call.Call.{Call}
use Rattle.caller_parts.specs.declared.call.Replied.{Replied}
use Rattle.caller_steps.specs.Entries.{Entry, is_idle}
use Rattle.word_runner.specs.declared.caller.Outcome.{Outcome}
use Rattle.word_runner.specs.declared.caller.Outcome.TheVariants as outcomes

-- the reply for which an outcome stands; none at `Spent`
abbrev pub answer_of : Outcome → Option SourceReply
answer_of (outcomes.Replied (Some n)) = Some (replies.Number n)
answer_of (outcomes.Replied None) = Some replies.Nothing
answer_of outcomes.Full = Some replies.Full
answer_of (outcomes.PhasesOver p) = Some (replies.Phases p)
answer_of outcomes.Spent = None

-- the call has ended, and exactly one reply was added: the answer, beside the call that got it and the steps that were made for
-- it. Or it has not, no reply was added, and it runs on
abbrev pub Replies : Entry → Call → Option SourceReply → Entry → Type 0
Replies e call (Some reply) e' = (is_idle e'.routine ≡ true) × (e'.replies ≡ e.replies ++ record { call = call; reply = reply; steps = e'.running.steps } ∷ [])
Replies e call None e' = (is_idle e'.routine ≡ false) × (e'.replies ≡ e.replies) × (e'.running.call ≡ call)

-- the last reply, if the entry is idle; none if it runs
abbrev pub IsLastAnswer : Entry → Option SourceReply → Type 0
IsLastAnswer e (Some reply) = (is_idle e.routine ≡ true) × ((before : List Replied) (last : Replied) → e.replies ≡ before ++ last ∷ [] → reply ≡ last.reply)
IsLastAnswer e None = is_idle e.routine ≡ false
