-- What callers were told has a legal order, since their deeds explain it.
use Rattle.std.proofs.Common.{ℕ, ◌≡◌, ◌<◌, ◌≤◌, ◌∙◌, ⊎_elim, List, [], ◌∷◌, map, Option, Some, None, true, false, inl, inr, refl, sym, ap, subst}
use Rattle.std.specs.Prelude.{slice_get}
use Rattle.std.proofs.lemmas.Bool.{cases_lt}
use Rattle.norm_lang.specs.declared.text.Text.{Text}
use Rattle.norm_lang.specs.Shipped.{set_text, queue_text}
use Rattle.source_machine.specs.declared.event.SourceEvent.{SourceEvent}
use Rattle.norm_lang.specs.declared.reply.SourceReply.{SourceReply}
use Rattle.norm_lang.specs.declared.reply.SourceReply.TheVariants as replies
use Rattle.source_machine.specs.declared.state.SourceCaller.{SourceCaller}
use Rattle.source_machine.specs.declared.state.SourceMachine.{SourceMachine}
use Rattle.source_machine.specs.State.{source_start}
use Rattle.source_machine.specs.Run.{IsSourceRun, source_run, source_replies, caller_replies}
use Rattle.caller_parts.specs.declared.call.Call.{Call}
use Rattle.run_laws.specs.begin_laws.Begins.{begun_in}
use Rattle.source_histories.specs.declared.deed.Deed.{Deed}
use Rattle.source_histories.specs.Deeds.{deeds_in, of_caller}
use Rattle.source_histories.specs.Books.{Rules, Started, Ended, Log, no_calls, replied_with, book_of}
use Rattle.source_histories.specs.Answers.{gives_up, reply_of, IsOf, TellNow, Tell, AnswersAs}
use Rattle.set_laws.specs.Sets.{set_step, set_rules, SetAnswers}
use Rattle.queue_laws.specs.Queues.{queue_step, queue_rules, QueueAnswers}
use Rattle.histories.specs.declared.call.Call as told
use Rattle.histories.specs.declared.call.Action.{Action}
use Rattle.histories.specs.declared.call.Answer.{Answer}
use Rattle.histories.specs.declared.call.Answer.TheVariants.{Number, Nothing, Spent, NoEffect}
use Rattle.histories.specs.Histories.{Shared, nothing_shared, calls_of}
use Rattle.legal_histories.specs.Told.{set_action, queue_action, AnswerTold, IsAsked, AreTold, IsLegalWhereTold, SetRunsAreLegal, QueueRunsAreLegal}
use Rattle.legal_histories.proofs.Ordering.{AnswerFits, IsQuiet, Explain, StepFits, has_order}
use Rattle.legal_histories.proofs.Stepping.{SameKeys, SameValues, set_fits, queue_fits}
use Rattle.legal_histories.proofs.Logging.{IsStarted, AreLogged, Known, caller_there, no_caller, all_logged}

quiet_reply : (reply : SourceReply) (answer : Answer) → gives_up reply ≡ true → AnswerTold reply answer → IsQuiet answer
quiet_reply (replies.Number v) answer up is = absurd (let z : false ≡ true = up in cc)
quiet_reply replies.Nothing answer up is = absurd (let z : false ≡ true = up in cc)
quiet_reply replies.Full (Number n) up is = absurd is
quiet_reply replies.Full Nothing up is = absurd is
quiet_reply replies.Full Spent up is = tt
quiet_reply replies.Full NoEffect up is = tt
quiet_reply (replies.Phases p) (Number n) up is = absurd is
quiet_reply (replies.Phases p) Nothing up is = absurd is
quiet_reply (replies.Phases p) Spent up is = tt
quiet_reply (replies.Phases p) NoEffect up is = tt

fits_told : (reply : Option ℕ) (answer : Answer) → AnswerTold (reply_of reply) answer → AnswerFits answer reply
fits_told None (Number n) is = absurd is
fits_told None Nothing is = refl
fits_told None Spent is = tt
fits_told None NoEffect is = absurd is
fits_told (Some v) (Number n) is = ap (λ x. Some x) is
fits_told (Some v) Nothing is = absurd is
fits_told (Some v) Spent is = tt
fits_told (Some v) NoEffect is = absurd is

module _ (action : ℕ → ℕ → Action) where
  asked_is : (d : Deed) (s : Started) (call : Call) (it : told.Call) → IsOf s d → IsStarted call s → IsAsked action call it → action d.op d.arg ≡ it.action
  asked_is d s call it of started asked = ap (λ o. action o d.arg) (of.op ∙ started.op) ∙ (ap (λ a. action call.op a) (of.arg ∙ started.arg) ∙ asked)

  quiet_of : (it : told.Call) (answer : Answer) → it.answer ≡ answer → IsQuiet answer → IsQuiet it.answer
  quiet_of it answer is quiet = subst IsQuiet (sym is) quiet

  none_begun : (its : List told.Call) → AreTold action [] [] its → Explain action [] its
  none_begun [] k = tt
  none_begun (it ∷ its) k = (⊎_elim (λ is. quiet_of it NoEffect is tt) (λ is. quiet_of it Spent is tt) k.0, none_begun its k.1)

  last_begun : (ds : List Deed) (s : Started) (call : Call) (it : told.Call) (its : List told.Call) → TellNow ds (Some s) → IsStarted call s → AreTold action (call ∷ []) [] (it ∷ its) → Explain action ds (it ∷ its)
  last_begun [] s call it its tell started k = (quiet_of it Spent k.1 tt, none_begun its k.2)
  last_begun (d ∷ []) s call it its tell started k =
      inr (record { asked = asked_is d s call it tell started k.0; fits = subst (λ a. AnswerFits a d.reply) (sym k.1) tt }, none_begun its k.2)
  last_begun (d ∷ x ∷ ds) s call it its tell started k = absurd tell

  pub explained : (ds : List Deed) (es : List Ended) (now : Option Started) (calls : List Call) (its : List told.Call)
      → Tell ds es now → AreLogged calls es now → AreTold action calls (map replied_with es) its → Explain action ds its
  explained [] [] None [] its tell logged k = none_begun its k
  explained (d ∷ []) [] None [] its tell logged k = absurd tell
  explained (d ∷ x ∷ ds) [] None [] its tell logged k = absurd tell
  explained ds [] None (call ∷ calls) its tell logged k = absurd logged
  explained ds [] (Some s) [] its tell logged k = absurd logged
  explained ds [] (Some s) (call ∷ []) [] tell logged k = absurd k
  explained ds [] (Some s) (call ∷ []) (it ∷ its) tell logged k = last_begun ds s call it its tell logged k
  explained ds [] (Some s) (call ∷ next ∷ calls) its tell logged k = absurd logged
  explained ds (e ∷ es) now [] its tell logged k = absurd logged
  explained ds (e ∷ es) now (call ∷ calls) [] tell logged k = absurd k
  explained [] (e ∷ es) now (call ∷ calls) (it ∷ its) tell logged k = (quiet_reply e.reply it.answer tell.0 k.1, explained [] es now calls its tell.1 logged.1 k.2)
  explained (d ∷ ds) (e ∷ es) now (call ∷ calls) (it ∷ its) (inl tell) logged k = inl (quiet_reply e.reply it.answer tell.0 k.1, explained (d ∷ ds) es now calls its tell.1 logged.1 k.2)
  explained (d ∷ ds) (e ∷ es) now (call ∷ calls) (it ∷ its) (inr tell) logged k =
      inr (
        record { asked = asked_is d e.call call it tell.0.call logged.0 k.0; fits = fits_told d.reply it.answer (subst (λ r. AnswerTold r it.answer) tell.0.reply k.1) },
        explained ds es now calls its tell.1 logged.1 k.2,
      )

-- ---- runs

caller_log : (o : Option SourceCaller) (caller : SourceCaller) (rs : List SourceReply) → o ≡ Some caller → caller.replies ≡ rs → caller_replies o ≡ rs
caller_log o caller rs is same = ap caller_replies is ∙ same

-- a caller that isn't there has no deed
none_told : (ds : List Deed) → TellNow ds None → ds ≡ []
none_told [] tell = refl
none_told (d ∷ []) tell = absurd tell
none_told (d ∷ x ∷ ds) tell = absurd tell

nothing_explained : (action : ℕ → ℕ → Action) (ds : List Deed) (its : List told.Call) (log : Log) → log ≡ no_calls → Tell ds log.done log.now → its ≡ [] → Explain action ds its
nothing_explained action ds its log none tell no_calls_told =
    let tell_none : TellNow ds None = subst (λ (l : Log). Tell ds l.done l.now) none tell in
    subst (λ l. Explain action l its) (sym (none_told ds tell_none)) (subst (λ l. Explain action [] l) (sym no_calls_told) tt)

known_of : (A : Type 0) (step : Deed → A → Option A) (first : A) (text : Text) (rules : Rules) (callers : ℕ) (events : List SourceEvent) (state : SourceMachine)
    → AnswersAs A step first state (book_of text rules callers events) → Known text rules callers events state
known_of A step first text rules callers events state a = record { machine = a.machine; runs = a.running }

-- if the deeds of each run are those of an object that does what callers share does, what the callers are told has a legal order
legal : (A : Type 0) (step : Deed → A → Option A) (action : ℕ → ℕ → Action) (Same : A → Shared → Type 0) (fits : StepFits A step action Same) (first : A) → Same first nothing_shared
    → (text : Text) (rules : Rules) (callers : ℕ) → ((events : List SourceEvent) (state : SourceMachine) → IsSourceRun text callers events state → AnswersAs A step first state (book_of text rules callers events))
    → (events : List SourceEvent) (state : SourceMachine) → IsSourceRun text callers events state → IsLegalWhereTold action callers events state
legal A step action Same fits first same text rules callers law events state run history are_told none_told =
    let a = law events state run in
    let (end, ends) = a.legal in
    let known = λ (xs : List SourceEvent) (m : SourceMachine) (runs : source_run text xs (source_start text callers) ≡ Some m).
    known_of A step first text rules callers xs m (law xs m (record { some = run.some; runs = runs })) in
    has_order A step action Same fits first nothing_shared (deeds_in (book_of text rules callers events).slots) history end same ends
    (λ c. ⊎_elim
    (λ (lt : c < callers).
    let logged = all_logged text rules callers events state known run.runs c in
    let log = (book_of text rules callers events).log c in
    let there = caller_there text callers events state run.runs c lt in
    let same_replies : source_replies state c ≡ map replied_with log.done = caller_log (slice_get state.callers c) there.0 (map replied_with log.done) there.1 (a.replied c there.0 there.1) in
    explained action (of_caller c (deeds_in (book_of text rules callers events).slots)) log.done log.now (begun_in c events) (calls_of c history) (a.told c) logged.calls
    (subst (λ rs. AreTold action (begun_in c events) rs (calls_of c history)) same_replies (are_told c lt)))
    (λ (le : callers ≤ c).
    let logged = all_logged text rules callers events state known run.runs c in
    nothing_explained action (of_caller c (deeds_in (book_of text rules callers events).slots)) (calls_of c history) ((book_of text rules callers events).log c) (logged.other (no_caller text callers events state run.runs c le)) (a.told c) (none_told c le))
    (cases_lt c callers))

pub sets_are_legal : SetAnswers → SetRunsAreLegal
sets_are_legal law buckets callers events state some run =
    legal (List ℕ) set_step set_action SameKeys set_fits [] (λ k. refl) (set_text buckets) set_rules callers (λ xs m r. law buckets callers xs m some r) events state run

pub queues_are_legal : QueueAnswers → QueueRunsAreLegal
queues_are_legal law callers events state run =
    legal (List ℕ) queue_step queue_action SameValues queue_fits [] refl queue_text queue_rules callers (λ xs m r. law callers xs m r) events state run
