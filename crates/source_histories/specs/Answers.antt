-- What deeds say of the calls of a run.
use Rattle.std.specs.Prelude.{◌≡◌, ◌≤◌, ◌<◌, ◌⊎◌, ◌+◌, ◌++◌, ℕ, Bool, true, false, List, [], ◌∷◌, length, map, Option, Some, None, is_some, slice_get}
use Rattle.norm_lang.specs.declared.reply.SourceReply.{SourceReply}
use Rattle.norm_lang.specs.declared.reply.SourceReply.TheVariants as replies
use Rattle.source_machine.specs.declared.state.SourceCaller.{SourceCaller}
use Rattle.source_machine.specs.declared.state.SourceMachine.{SourceMachine}
use Rattle.source_machine.specs.declared.event.SourceEvent.{SourceEvent}
use Rattle.norm_lang.specs.declared.text.Text.{Text}
use Rattle.source_machine.specs.Run.{IsSourceRun}
use Rattle.source_histories.specs.declared.deed.Deed.{Deed}
use Rattle.source_histories.specs.Deeds.{deeds_in, of_caller, AreLegal}
use Rattle.source_histories.specs.Books.{Started, Ended, Rules, replied_with, Book, book_of}

-- the replies of a caller that gives up
abbrev pub gives_up : SourceReply → Bool
gives_up replies.Full = true
gives_up (replies.Phases p) = true
gives_up _ = false

-- the reply of a deed: a number, or that there is nothing
abbrev pub reply_of : Option ℕ → SourceReply
reply_of None = replies.Nothing
reply_of (Some v) = replies.Number v

-- the deed of a call comes after its Begin, and after the event by which its last generator run began: no event between the
-- moment and the call's end begins its generator again
pub record IsOf (call : Started) (d : Deed) : Type 0 where
  pub op : d.op ≡ call.op
  pub arg : d.arg ≡ call.arg
  pub begun : call.begun < d.moment
  pub since : call.since < d.moment

-- it has the reply of the call, and doesn't come after the call's end
pub record IsOfEnded (e : Ended) (d : Deed) : Type 0 where
  pub call : IsOf e.call d
  pub reply : e.reply ≡ reply_of d.reply
  pub ended : d.moment ≤ e.at

-- a call that runs has at most one deed
abbrev pub TellNow : List Deed → Option Started → Type 0
TellNow [] now = Unit {0}
TellNow (d ∷ []) (Some call) = IsOf call d
TellNow (d ∷ []) None = ⊥
TellNow (d ∷ d' ∷ ds) now = ⊥

-- the deeds of a caller tell its calls: each that ended with a number, or with nothing, has one, in order; one that gave up
-- has none
abbrev pub Tell : List Deed → List Ended → Option Started → Type 0
Tell ds [] now = TellNow ds now
Tell [] (e ∷ es) now = (gives_up e.reply ≡ true) × Tell [] es now
Tell (d ∷ ds) (e ∷ es) now = ((gives_up e.reply ≡ true) × Tell (d ∷ ds) es now) ⊎ (IsOfEnded e d × Tell ds es now)

-- moments rise, and each is the place of an event
abbrev pub RiseFrom : ℕ → ℕ → List Deed → Type 0
RiseFrom low time [] = Unit {0}
RiseFrom low time (d ∷ ds) = (low ≤ d.moment) × (d.moment < time) × RiseFrom (d.moment + 1) time ds

-- each moment is the place of an access of the deed's caller, of its generator or its list
abbrev pub AreOwn : (ℕ → Option ℕ) → List Deed → Type 0
AreOwn by [] = Unit {0}
AreOwn by (d ∷ ds) = (by d.moment ≡ Some d.caller) × AreOwn by ds

-- the deeds of a run that leads to the state are those of the object, and tell each caller's calls; the calls' replies are those
-- of the state, and one runs exactly if the caller isn't idle
pub record AnswersAs (A : Type 0) (step : Deed → A → Option A) (first : A) (state : SourceMachine) (b : Book) : Type 0 where
  pub machine : b.machine ≡ state
  pub legal : AreLegal step first (deeds_in b.slots)
  pub rise : RiseFrom 0 b.time (deeds_in b.slots)
  pub own : AreOwn b.by (deeds_in b.slots)
  pub told : (c : ℕ) → Tell (of_caller c (deeds_in b.slots)) (b.log c).done (b.log c).now
  pub replied : (c : ℕ) (caller : SourceCaller) → slice_get state.callers c ≡ Some caller → caller.replies ≡ map replied_with (b.log c).done
  pub running : (c : ℕ) (caller : SourceCaller) → slice_get state.callers c ≡ Some caller → is_some caller.running ≡ is_some (b.log c).now

-- ---- a running call that has a deed

-- a call of the caller runs, and this deed is told of it: those before it tell the calls that have ended
pub record RunsWith (b : Book) (c : ℕ) (call : Started) (d : Deed) : Type 0 where
  pub now : (b.log c).now ≡ Some call
  pub before : List Deed
  pub told : of_caller c (deeds_in b.slots) ≡ before ++ d ∷ []
  pub ended : Tell before (b.log c).done None
  pub of : IsOf call d

-- the caller's call of a number, from 0 on, has ended, and this deed is told of it, in the slot of its moment
pub record EndedWith (b : Book) (c i : ℕ) (call : Started) (d : Deed) : Type 0 where
  pub end : Ended
  pub there : slice_get (b.log c).done i ≡ Some end
  pub same : end.call ≡ call
  pub deed : IsOfEnded end d
  pub stands : slice_get b.slots d.moment ≡ Some (Some d)

-- what is told of a running call stands: if the run goes on, the call runs on with this deed, or it has ended with it
abbrev pub DeedsStand : Text → Rules → Type 0
DeedsStand text rules = (callers : ℕ) (events more : List SourceEvent) (state later : SourceMachine) → IsSourceRun text callers events state → IsSourceRun text callers (events ++ more) later
    → (c : ℕ) (call : Started) (d : Deed) → RunsWith (book_of text rules callers events) c call d
    → RunsWith (book_of text rules callers (events ++ more)) c call d
    ⊎ EndedWith (book_of text rules callers (events ++ more)) c (length ((book_of text rules callers events).log c).done) call d
