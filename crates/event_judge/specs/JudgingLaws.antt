-- What it means that a run is accepted: the events are a run that begins the scripts' calls in order, and the replies that are claimed
-- agree with it.
use Rattle.std.specs.Prelude.{◌≡◌, ℕ, ◌+◌, ◌≤◌, ◌<◌, ◌⊎◌, ◌↔◌, Bool, true, false, ◌&&◌, ◌==◌, if◌then◌else◌, List, [], ◌∷◌, ◌++◌, length, take, Some, slice_get}
use Rattle.norm_lang.specs.declared.text.Op.{Op}
use Rattle.norm_lang.specs.declared.text.Text.{Text}
use Rattle.source_machine.specs.declared.event.SourceEvent.{SourceEvent}
use Rattle.source_machine.specs.declared.event.SourceEvent.TheVariants as events
use Rattle.norm_lang.specs.declared.reply.SourceReply.{SourceReply}
use Rattle.source_machine.specs.declared.state.SourceMachine.{SourceMachine}
use Rattle.source_machine.specs.State.{source_start}
use Rattle.source_machine.specs.Run.{is_enabled, source_run, source_replies, IsSourceRun}
use Rattle.documents.specs.declared.document.ScriptCall.{ScriptCall}
use Rattle.event_judge.specs.declared.verdict.Verdict.{Verdict}
use Rattle.event_judge.specs.declared.verdict.Verdict.TheVariants.{Accepted, Rejected}
use Rattle.event_judge.specs.Calls.{listed, script_of, is_call_of_op}
use Rattle.event_judge.specs.Judging.{is_idle, verdict_on}

-- a call that an event begins
pub record Begun : Type 0 where
  pub op : ℕ
  pub words : List ℕ

-- the calls that a caller begins, in order
abbrev pub calls_begun : ℕ → List SourceEvent → List Begun
calls_begun c [] = []
calls_begun c (events.Begin d op words ∷ events) =
    if d == c then record { op = op; words = words } ∷ calls_begun c events else calls_begun c events
calls_begun c (events.Access d name ∷ events) = calls_begun c events
calls_begun c (events.Restart d ∷ events) = calls_begun c events
calls_begun c (events.GiveUp d phase ∷ events) = calls_begun c events

-- they are the first calls of a script, in order
abbrev pub are_first_calls : List Op → List Begun → List ScriptCall → Bool
are_first_calls ops [] calls = true
are_first_calls ops (begun ∷ more) [] = false
are_first_calls ops (begun ∷ more) (call ∷ calls) = is_call_of_op call begun.words (slice_get ops begun.op) && are_first_calls ops more calls

-- each caller begins the calls of its script in order; one without a script begins none
abbrev pub BeginInOrder : List Op → List (List ScriptCall) → List SourceEvent → Type 0
BeginInOrder ops scripts events = (c : ℕ) → are_first_calls ops (calls_begun c events) (script_of scripts c) ≡ true

-- every call that was begun has ended, with the reply that is claimed of it
pub record AllEnded (begun : ℕ) (idle : Bool) (made claimed : List SourceReply) : Type 0 where
  pub counted : begun ≡ length claimed
  pub is_idle : idle ≡ true
  pub same : made ≡ claimed

-- of the last call that was begun no reply is claimed; it may have ended
pub record LastIsOpen (begun : ℕ) (made claimed : List SourceReply) : Type 0 where
  pub counted : begun ≡ length claimed + 1
  pub same : (made ≡ claimed) ⊎ ((reply : SourceReply) × (made ≡ claimed ++ reply ∷ []))

-- a caller that has begun so many calls, and is idle or not, agrees with the replies that are claimed of it
abbrev pub Agrees : ℕ → Bool → List SourceReply → List SourceReply → Type 0
Agrees begun idle made claimed = AllEnded begun idle made claimed ⊎ LastIsOpen begun made claimed

-- a caller agrees after events
abbrev pub AgreesAfter : List SourceEvent → SourceMachine → List (List SourceReply) → ℕ → Type 0
AgreesAfter events state claims c =
    Agrees (length (calls_begun c events)) (is_idle (slice_get state.callers c)) (source_replies state c) (listed (slice_get claims c))

-- the events are a run that begins the calls of the scripts in order
pub record IsRunOf (text : Text) (scripts : List (List ScriptCall)) (events : List SourceEvent) (state : SourceMachine) : Type 0 where
  pub run : IsSourceRun text (length scripts) events state
  pub order : BeginInOrder text.ops scripts events

-- .. and every caller agrees
pub record IsTrueRun (text : Text) (scripts : List (List ScriptCall)) (events : List SourceEvent) (claims : List (List SourceReply)) : Type 0 where
  pub state : SourceMachine
  pub is_run : IsRunOf text scripts events state
  pub agree : (c : ℕ) → c < length scripts → AgreesAfter events state claims c

-- accepted is exactly such a run
abbrev pub AcceptedIsTrue : Type 0
AcceptedIsTrue =
    (text : Text) (scripts : List (List ScriptCall)) (events : List SourceEvent) (claims : List (List SourceReply))
    → 1 ≤ length scripts → length claims ≡ length scripts
    → (verdict_on text scripts events claims ≡ Accepted) ↔ IsTrueRun text scripts events claims

-- ---- what is rejected

-- 1: the events before a place are a run that begins the calls in order, the one there begins no other call, and it isn't enabled
pub record IsNotEnabledAt (text : Text) (scripts : List (List ScriptCall)) (events : List SourceEvent) (at : ℕ) : Type 0 where
  pub event : SourceEvent
  pub state : SourceMachine
  pub stands : slice_get events at ≡ Some event
  pub before : IsRunOf text scripts (take at events) state
  pub order : BeginInOrder text.ops scripts (take at events ++ event ∷ [])
  pub refused : is_enabled text state event ≡ false

-- 2: the events before a place are such a run, and with the one there the calls don't begin in order
pub record IsOtherCallAt (text : Text) (scripts : List (List ScriptCall)) (events : List SourceEvent) (at : ℕ) : Type 0 where
  pub event : SourceEvent
  pub state : SourceMachine
  pub stands : slice_get events at ≡ Some event
  pub before : IsRunOf text scripts (take at events) state
  pub other : BeginInOrder text.ops scripts (take at events ++ event ∷ []) → ⊥

-- 3: all events are such a run, the callers before one agree, and that one doesn't
pub record IsOtherReplyOf (text : Text) (scripts : List (List ScriptCall)) (events : List SourceEvent) (claims : List (List SourceReply)) (c : ℕ) : Type 0 where
  pub state : SourceMachine
  pub is_run : IsRunOf text scripts events state
  pub known : c < length scripts
  pub agree : (d : ℕ) → d < c → AgreesAfter events state claims d
  pub other : AgreesAfter events state claims c → ⊥

-- what a verdict says
abbrev pub IsSo : Text → List (List ScriptCall) → List SourceEvent → List (List SourceReply) → Verdict → Type 0
IsSo text scripts events claims Accepted = IsTrueRun text scripts events claims
IsSo text scripts events claims (Rejected number at) =
    ((number ≡ 1) × IsNotEnabledAt text scripts events at)
    ⊎ (((number ≡ 2) × IsOtherCallAt text scripts events at)
    ⊎ ((number ≡ 3) × IsOtherReplyOf text scripts events claims at))

-- each verdict is given exactly if it is true
abbrev pub VerdictsAreRight : Type 0
VerdictsAreRight =
    (text : Text) (scripts : List (List ScriptCall)) (events : List SourceEvent) (claims : List (List SourceReply)) (verdict : Verdict)
    → 1 ≤ length scripts → length claims ≡ length scripts
    → (verdict_on text scripts events claims ≡ verdict) ↔ IsSo text scripts events claims verdict
