-- What is found of a run: the first event that begins another call than the next, or isn't enabled, or else the first caller whose
-- replies don't agree.
use Rattle.std.specs.Prelude.{◌≡◌, ℕ, ◌+◌, Bool, true, false, ◌&&◌, ◌||◌, ◌==◌, if◌then◌else◌, List, [], ◌∷◌, length, take, replicate, Option, Some, None, is_none, Result, Ok, Err, slice_get, slice_index}
use Rattle.std.specs.Cmp.Lexicographic.{pointwise}
use Rattle.norm_lang.specs.declared.text.Text.{Text}
use Rattle.source_machine.specs.declared.event.SourceEvent.{SourceEvent}
use Rattle.norm_lang.specs.declared.reply.SourceReply.{SourceReply}
use Rattle.norm_lang.specs.declared.reply.SourceReply.TheVariants as replies
use Rattle.source_machine.specs.declared.state.SourceCaller.{SourceCaller}
use Rattle.source_machine.specs.declared.state.SourceMachine.{SourceMachine}
use Rattle.source_machine.specs.State.{source_start}
use Rattle.source_machine.specs.Run.{is_enabled, source_step, source_replies}
use Rattle.documents.specs.declared.document.ScriptCall.{ScriptCall}
use Rattle.event_judge.specs.declared.judging.Progress.{Progress}
use Rattle.event_judge.specs.declared.verdict.Verdict.{Verdict}
use Rattle.event_judge.specs.declared.verdict.Verdict.TheVariants.{Accepted, Rejected}
use Rattle.event_judge.specs.Calls.{begins_other, begun_with}

-- ---- the events

-- before the first event: no caller has begun a call
abbrev pub first_progress : Text → List (List ScriptCall) → Progress
first_progress text scripts = record { state = source_start text (length scripts); begun = replicate (length scripts) 0 }

-- the number of what an event shows: 2 before 1
abbrev pub event_flaw : Text → List (List ScriptCall) → Progress → SourceEvent → Option ℕ
event_flaw text scripts progress event =
    if begins_other text.ops scripts progress.begun event then Some 2
    else (if is_enabled text progress.state event then None else Some 1)

-- after an event
abbrev pub advanced : Text → Progress → SourceEvent → Progress
advanced text progress event = record { state = source_step text progress.state event; begun = begun_with progress.begun event }

abbrev pub walked_on : Option ℕ → ℕ → Result Progress Verdict → Result Progress Verdict
walked_on None at more = more
walked_on (Some number) at more = Err (Rejected number at)

-- where events lead, of which the first has this place, or the first that shows 2 or 1
abbrev pub walked : Text → List (List ScriptCall) → ℕ → Progress → List SourceEvent → Result Progress Verdict
walked text scripts at progress [] = Ok progress
walked text scripts at progress (event ∷ events) =
    walked_on (event_flaw text scripts progress event) at (walked text scripts (at + 1) (advanced text progress event) events)

-- whether an event is enabled, and then it is made
abbrev pub Makes : Text → SourceMachine → SourceEvent → SourceMachine → Bool → Type 0
Makes text old event new true = (is_enabled text old event ≡ true) × (new ≡ source_step text old event)
Makes text old event new false = is_enabled text old event ≡ false

-- what is told of an event, and what it leaves
abbrev pub Tells : Text → List (List ScriptCall) → Progress → SourceEvent → Progress → Option ℕ → Type 0
Tells text scripts old event new None = (event_flaw text scripts old event ≡ None) × (new ≡ advanced text old event)
Tells text scripts old event new (Some number) = event_flaw text scripts old event ≡ Some number

-- ---- the replies

abbrev pub is_same_reply : SourceReply → SourceReply → Bool
is_same_reply (replies.Number n) (replies.Number m) = n == m
is_same_reply (replies.Phases p) (replies.Phases q) = p == q
is_same_reply replies.Nothing replies.Nothing = true
is_same_reply replies.Full replies.Full = true
is_same_reply _ _ = false

abbrev pub are_same : List SourceReply → List SourceReply → Bool
are_same = pointwise is_same_reply

-- the replies are those claimed, and one more
abbrev pub is_one_more : List SourceReply → List SourceReply → Bool
is_one_more made claimed = length made == length claimed + 1 && are_same (take (length claimed) made) claimed

-- a caller that has begun so many calls, and is idle or not, agrees with the replies that are claimed: every call has ended with the
-- reply that is claimed of it, or the last call has no claim, and it may have ended
abbrev pub agrees : ℕ → Bool → List SourceReply → List SourceReply → Bool
agrees begun idle made claimed =
    (begun == length claimed && (idle && are_same made claimed))
    || (begun == length claimed + 1 && (are_same made claimed || is_one_more made claimed))

abbrev pub is_idle : Option SourceCaller → Bool
is_idle None = true
is_idle (Some caller) = is_none caller.running

abbrev pub agrees_after : Progress → ℕ → List SourceReply → Bool
agrees_after progress c claimed = agrees (slice_index progress.begun c) (is_idle (slice_get progress.state.callers c)) (source_replies progress.state c) claimed

-- what is found if no event shows 1 or 2: the first caller that doesn't agree, of those from this number on
abbrev pub found_from : ℕ → Progress → List (List SourceReply) → Verdict
found_from c progress [] = Accepted
found_from c progress (claimed ∷ claims) = if agrees_after progress c claimed then found_from (c + 1) progress claims else Rejected 3 c

-- ---- the whole

abbrev pub found_after : List (List SourceReply) → Result Progress Verdict → Verdict
found_after claims (Ok progress) = found_from 0 progress claims
found_after claims (Err verdict) = verdict

-- what is found of events and of the replies that are claimed of each caller, if the callers were to make the calls of these
-- scripts
abbrev pub verdict_on : Text → List (List ScriptCall) → List SourceEvent → List (List SourceReply) → Verdict
verdict_on text scripts events claims = found_after claims (walked text scripts 0 (first_progress text scripts) events)
