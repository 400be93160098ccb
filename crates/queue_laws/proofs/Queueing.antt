-- Each event of the queue deals with its deeds as it should.
use Rattle.std.proofs.Common.{ℕ, suc, ◌≡◌, ◌≢◌, ◌==◌, ◌<◌, ◌∙◌, ◌++◌, Bool, true, false, List, [], ◌∷◌, Option, Some, None, is_some, sym, ap, subst, refl, arith}
use Rattle.std.specs.Prelude.{slice_index}
use Rattle.norm_lang.specs.Shipped.{queue_text}
use Rattle.source_machine.specs.declared.event.SourceEvent.{SourceEvent}
use Rattle.source_machine.specs.declared.event.SourceEvent.TheVariants.{Begin, Access, Restart, GiveUp}
use Rattle.norm_lang.specs.declared.reply.SourceReply.{SourceReply}
use Rattle.norm_lang.specs.declared.reply.SourceReply.TheVariants as replies
use Rattle.source_machine.specs.declared.state.Running.{Running}
use Rattle.source_machine.specs.declared.state.SourceCaller.{SourceCaller}
use Rattle.source_machine.specs.State.{idle_caller}
use Rattle.source_machine.specs.Step.{performed, caller_turn, give_up_reply}
use Rattle.source_machine.specs.Run.{mover, is_enabled_by}
use Rattle.source_machine.specs.MethodRuns.{MethodRun}
use Rattle.source_machine.proofs.Places.{put_same, put_other, same_test}
use Rattle.source_histories.specs.declared.deed.Deed.{Deed}
use Rattle.source_histories.specs.declared.deed.Notes.{Notes}
use Rattle.source_histories.specs.declared.deed.Noted.{Noted}
use Rattle.source_histories.specs.Books.{accesses, no_notes, notes_at, noted_of, generates, begins_run, Started, run_again, Log, log_ended, log_again, logged_by, logged, last_reply, number_of, book_of}
use Rattle.source_histories.specs.Answers.{gives_up, reply_of, AnswersAs}
use Rattle.source_histories.proofs.Lists.{last_push}
use Rattle.source_histories.proofs.Dealing.{Times, ticked, Phase, Resting, Working, Landed, Move, Begins, Stays, Renews, Ends, moved, said_by, phase_runs, Open, Deal, begins, works, starts_over, waits, lands, ends, settles, pays, quits}
use Rattle.source_histories.proofs.Recording.{Dealt, books_answer}
use Rattle.source_histories.proofs.Keeping.{deeds_stand}
use Rattle.queue_source.specs.Places.{Hand, first_hand, Place, Idle, EnqTail, EnqNext, EnqSwing, EnqNew, EnqPut, EnqLink, HelpTail, HelpNext, HelpSwing, HelpReply, DeqHead, DeqTail, DeqNext, DeqValue, DeqTake, DeqSwing, DeqNone, Load, shown, memory_of, start_of, begins_at}
use Rattle.queue_source.specs.Relation.{Shared, store_of, Fine, Stands, Goes, content, Class, Rests, Enqueues, Helps, Dequeues, FoundNone, class_of, is_walk, SameCall, Way, walks, finds_none, links, links_not, takes, takes_not, answers, answers_none, stops, enqueues, dequeues, renews, Keeps}
use Rattle.queue_source.proofs.Stable.{stable}
use Rattle.queue_source.proofs.Events.{keeps_open, first_shared, first_is, first_fine, first_stands, first_content}
use Rattle.queue_laws.specs.Queues.{queue_step, queue_rules, queue_moment, enqueued, QueueAnswers, QueueDeedsStand}

-- a call that runs, without a deed
abbrev pub IsWorking : Times (List ℕ) → Phase → ℕ → ℕ → Started → Type 0
IsWorking T phase op arg call = (phase ≡ Working call) × (call.op ≡ op) × (call.arg ≡ arg) × (call.since < T.time)

-- what a caller's place says of its call: n0 keeps the argument of an enqueue, also in the registers of its wrap-up's start;
-- its deed, once it has linked, has the argument as its reply; what found the queue empty was its own last load
abbrev pub FitsClass : Times (List ℕ) → Notes → ℕ → ℕ → ℕ → ℕ → Phase → Class → Type 0
FitsClass T notes c arg n0 m0 phase Rests = phase ≡ Resting
FitsClass T notes c arg n0 m0 phase Enqueues = (call : Started) × IsWorking T phase 0 arg call × (n0 ≡ arg)
FitsClass T notes c arg n0 m0 phase Helps = (call : Started) × (d : Deed) × (phase ≡ Landed call d) × (d.reply ≡ Some arg) × (n0 ≡ arg) × (m0 ≡ arg)
FitsClass T notes c arg n0 m0 phase Dequeues = (call : Started) × IsWorking T phase 1 arg call × (n0 ≡ arg)
FitsClass T notes c arg n0 m0 phase FoundNone = (call : Started) × IsWorking T phase 1 arg call × (n0 ≡ arg) × Open (List ℕ) T c call notes.load × (T.past notes.load ≡ [])

abbrev pub class_runs : Class → Bool
class_runs Rests = false
class_runs _ = true

abbrev pub Fits : Times (List ℕ) → Notes → ℕ → Load → Phase → Class → Type 0
Fits T notes c q phase class = FitsClass T notes c (slice_index q.args 0) q.hand.n0 q.started.n0 phase class

open_kept : (T : Times (List ℕ)) (who : Option ℕ) (d m : ℕ) (a : List ℕ) (call : Started) → Open (List ℕ) T d call m → Open (List ℕ) (ticked T who a) d call m
open_kept T who d m a call o =
    let lt = o.past in
    record {
      by = put_other T.by T.time m who (λ e. let no : ⊥ = omega (arith, e, lt) in no) ∙ o.by;
      since = o.since;
      past = omega (arith, lt);
    }

past_kept : (T : Times (List ℕ)) (who : Option ℕ) (m : ℕ) (a : List ℕ) → m < T.time → (ticked T who a).past m ≡ T.past m
past_kept T who m a lt = put_other T.past (suc T.time) m a (λ e. let no : ⊥ = omega (arith, e, lt) in no)

working_kept : (T : Times (List ℕ)) (who : Option ℕ) (a : List ℕ) (phase : Phase) (op arg : ℕ) (call : Started) → IsWorking T phase op arg call → IsWorking (ticked T who a) phase op arg call
working_kept T who a phase op arg call k = (k.0, k.1, k.2, (let lt = k.3 in omega (arith, lt)))

fits_kept : (T : Times (List ℕ)) (who : Option ℕ) (notes : Notes) (d arg n0 m0 : ℕ) (a : List ℕ) (phase : Phase) (class : Class) → FitsClass T notes d arg n0 m0 phase class → FitsClass (ticked T who a) notes d arg n0 m0 phase class
fits_kept T who notes d arg n0 m0 a phase Rests k = k
fits_kept T who notes d arg n0 m0 a phase Enqueues (call, k, n) = (call, working_kept T who a phase 0 arg call k, n)
fits_kept T who notes d arg n0 m0 a phase Helps k = k
fits_kept T who notes d arg n0 m0 a phase Dequeues (call, k, n) = (call, working_kept T who a phase 1 arg call k, n)
fits_kept T who notes d arg n0 m0 a phase FoundNone (call, k, n, o, e) = (call, working_kept T who a phase 1 arg call k, n, open_kept T who d notes.load a call o, past_kept T who notes.load a o.past ∙ e)

fits_same : (T : Times (List ℕ)) (notes : Notes) (c : ℕ) (q q' : Load) (phase : Phase) (class : Class) → SameCall q q' → Fits T notes c q phase class → Fits T notes c q' phase class
fits_same T notes c q q' phase class (args, n0, started, said) k =
    subst (λ (h : Hand). FitsClass T notes c (slice_index q'.args 0) q'.hand.n0 h.n0 phase class) (sym started)
    (subst (λ n. FitsClass T notes c (slice_index q'.args 0) n q.started.n0 phase class) (sym n0)
    (subst (λ xs. FitsClass T notes c (slice_index xs 0) q.hand.n0 q.started.n0 phase class) (sym args) k))

-- what an event tells, and what it does to the caller's call
pub record Told (event : SourceEvent) (c : ℕ) (s' : Shared) (place : Place) (q : Load) (place' : Place) (q' : Load) (T : Times (List ℕ)) (notes : Notes) (phase : Phase) : Type 0 where
  pub noted : Noted
  pub move : Move
  pub phase' : Phase
  pub tells : noted_of queue_rules event T.time notes (shown place q).running (shown place' q') ≡ noted
  pub said : q'.replies ≡ said_by move q.replies
  pub logs : (log : Log) → logged event T.time (shown place q).running (shown place' q') log ≡ moved T.time move log
  pub deal : Deal (List ℕ) queue_step T c (accesses event (shown place q).running) (content s') phase noted.deed move phase'
  pub fits : Fits (ticked T (accesses event (shown place q).running) (content s')) noted.notes c q' phase' (class_of place')

abbrev pub notes_walked : Place → ℕ → Notes → Notes
notes_walked DeqNext t notes = record { gap = notes.gap; load = t }
notes_walked _ t notes = notes

-- an access of a method writes no deed
walk_notes : (c name t : ℕ) (notes : Notes) (place : Place) (q : Load) (after : SourceCaller) → is_walk place ≡ true
    → noted_of queue_rules (Access c name) t notes (shown place q).running after ≡ record { notes = notes_walked place t notes; deed = None }
walk_notes c name t notes Idle q after e = absurd (let z : false ≡ true = e in cc)
walk_notes c name t notes EnqLink q after e = absurd (let z : false ≡ true = e in cc)
walk_notes c name t notes HelpReply q after e = absurd (let z : false ≡ true = e in cc)
walk_notes c name t notes DeqTake q after e = absurd (let z : false ≡ true = e in cc)
walk_notes c name t notes DeqNone q after e = absurd (let z : false ≡ true = e in cc)
walk_notes c name t notes _ q after e = refl

-- it ends no call
walk_ends : (c name t : ℕ) (place : Place) (q : Load) (log : Log) → class_of place ≢ Rests → logged_by t (shown place q) (shown place q).running log ≡ log
walk_ends c name t Idle q log ne = absurd (ne refl)
walk_ends c name t _ q log ne = refl

-- no generator runs in a wrap-up
help_generates : (place : Place) (q : Load) → class_of place ≡ Helps → generates (shown place q).running ≡ false
help_generates Idle q e = let z : Rests ≡ Helps = e in cc
help_generates HelpTail q e = refl
help_generates HelpNext q e = refl
help_generates HelpSwing q e = refl
help_generates HelpReply q e = refl
help_generates DeqHead q e = let z : Dequeues ≡ Helps = e in cc
help_generates DeqTail q e = let z : Dequeues ≡ Helps = e in cc
help_generates DeqNext q e = let z : Dequeues ≡ Helps = e in cc
help_generates DeqValue q e = let z : Dequeues ≡ Helps = e in cc
help_generates DeqTake q e = let z : Dequeues ≡ Helps = e in cc
help_generates DeqSwing q e = let z : Dequeues ≡ Helps = e in cc
help_generates DeqNone q e = let z : FoundNone ≡ Helps = e in cc
help_generates _ q e = let z : Enqueues ≡ Helps = e in cc

-- an access of a method begins no generator run
walk_run : (c name : ℕ) (place on : Place) (q q' : Load) → is_walk place ≡ true → class_of on ≡ class_of place → begins_run (Access c name) (shown place q).running (shown on q').running ≡ false
walk_run c name Idle on q q' e class = absurd (let z : false ≡ true = e in cc)
walk_run c name EnqLink on q q' e class = absurd (let z : false ≡ true = e in cc)
walk_run c name HelpTail on q q' e class = help_generates on q' class
walk_run c name HelpNext on q q' e class = help_generates on q' class
walk_run c name HelpSwing on q q' e class = help_generates on q' class
walk_run c name HelpReply on q q' e class = absurd (let z : false ≡ true = e in cc)
walk_run c name DeqTake on q q' e class = absurd (let z : false ≡ true = e in cc)
walk_run c name DeqNone on q q' e class = absurd (let z : false ≡ true = e in cc)
walk_run c name _ on q q' e class = refl

walk_logs : (c name t : ℕ) (place on : Place) (q q' : Load) (log : Log) → is_walk place ≡ true → class_of on ≡ class_of place → class_of on ≢ Rests → logged (Access c name) t (shown place q).running (shown on q') log ≡ log
walk_logs c name t place on q q' log e class ne =
    ap (λ x. log_again x t (logged_by t (shown on q') (shown on q').running log)) (walk_run c name place on q q' e class) ∙ walk_ends c name t on q' log ne

walk_rests : (place : Place) → is_walk place ≡ true → class_of place ≢ Rests
walk_rests EnqTail e same = let z : Enqueues ≡ Rests = same in cc
walk_rests EnqNext e same = let z : Enqueues ≡ Rests = same in cc
walk_rests EnqSwing e same = let z : Enqueues ≡ Rests = same in cc
walk_rests EnqNew e same = let z : Enqueues ≡ Rests = same in cc
walk_rests EnqPut e same = let z : Enqueues ≡ Rests = same in cc
walk_rests HelpTail e same = let z : Helps ≡ Rests = same in cc
walk_rests HelpNext e same = let z : Helps ≡ Rests = same in cc
walk_rests HelpSwing e same = let z : Helps ≡ Rests = same in cc
walk_rests DeqHead e same = let z : Dequeues ≡ Rests = same in cc
walk_rests DeqTail e same = let z : Dequeues ≡ Rests = same in cc
walk_rests DeqNext e same = let z : Dequeues ≡ Rests = same in cc
walk_rests DeqValue e same = let z : Dequeues ≡ Rests = same in cc
walk_rests DeqSwing e same = let z : Dequeues ≡ Rests = same in cc
walk_rests _ e same = let z : false ≡ true = e in cc

-- the call goes on as it was
goes_on : (T : Times (List ℕ)) (who : Option ℕ) (notes : Notes) (c arg n0 m0 : ℕ) (a : List ℕ) (phase : Phase) (class : Class) → a ≡ T.past T.time → class ≢ Rests → FitsClass T notes c arg n0 m0 phase class
    → Deal (List ℕ) queue_step T c who a phase None Stays phase
goes_on T who notes c arg n0 m0 a phase Rests same ne k = absurd (ne refl)
goes_on T who notes c arg n0 m0 a phase Enqueues same ne (call, k, n) = subst (λ (p : Phase). Deal (List ℕ) queue_step T c who a p None Stays p) (sym k.0) (works call same)
goes_on T who notes c arg n0 m0 a phase Helps same ne (call, d, k, r, n, m) = subst (λ (p : Phase). Deal (List ℕ) queue_step T c who a p None Stays p) (sym k) (waits call d same)
goes_on T who notes c arg n0 m0 a phase Dequeues same ne (call, k, n) = subst (λ (p : Phase). Deal (List ℕ) queue_step T c who a p None Stays p) (sym k.0) (works call same)
goes_on T who notes c arg n0 m0 a phase FoundNone same ne (call, k, n, o, e) = subst (λ (p : Phase). Deal (List ℕ) queue_step T c who a p None Stays p) (sym k.0) (works call same)

-- what is remembered matters only if the queue was found empty
fits_walked : (T : Times (List ℕ)) (notes notes' : Notes) (c arg n0 m0 : ℕ) (phase : Phase) (class : Class) → class ≢ FoundNone → FitsClass T notes c arg n0 m0 phase class → FitsClass T notes' c arg n0 m0 phase class
fits_walked T notes notes' c arg n0 m0 phase FoundNone ne k = absurd (ne refl)
fits_walked T notes notes' c arg n0 m0 phase _ ne k = k

walk_found : (place : Place) → is_walk place ≡ true → class_of place ≢ FoundNone
walk_found EnqTail e same = let z : Enqueues ≡ FoundNone = same in cc
walk_found EnqNext e same = let z : Enqueues ≡ FoundNone = same in cc
walk_found EnqSwing e same = let z : Enqueues ≡ FoundNone = same in cc
walk_found EnqNew e same = let z : Enqueues ≡ FoundNone = same in cc
walk_found EnqPut e same = let z : Enqueues ≡ FoundNone = same in cc
walk_found HelpTail e same = let z : Helps ≡ FoundNone = same in cc
walk_found HelpNext e same = let z : Helps ≡ FoundNone = same in cc
walk_found HelpSwing e same = let z : Helps ≡ FoundNone = same in cc
walk_found DeqHead e same = let z : Dequeues ≡ FoundNone = same in cc
walk_found DeqTail e same = let z : Dequeues ≡ FoundNone = same in cc
walk_found DeqNext e same = let z : Dequeues ≡ FoundNone = same in cc
walk_found DeqValue e same = let z : Dequeues ≡ FoundNone = same in cc
walk_found DeqSwing e same = let z : Dequeues ≡ FoundNone = same in cc
walk_found _ e same = let z : false ≡ true = e in cc

-- an enqueue's step
enqueue_step : (v : ℕ) (values : List ℕ) → enqueued (v == v) v values ≡ Some (values ++ v ∷ [])
enqueue_step v values = ap (λ b. enqueued b v values) (same_test v)

dequeue_step : (v : ℕ) (values : List ℕ) (d : Deed) → d.op ≡ 1 → d.reply ≡ Some v → queue_step d (v ∷ values) ≡ Some values
dequeue_step v values d op reply = let t : (v == v) ≡ true = same_test v in rw (op, reply, t) refl

-- the log of a call that ends
ends_log : (c name t : ℕ) (before : Option Running) (q' : Load) (rs : List SourceReply) (r : SourceReply) (log : Log) → begins_run (Access c name) before None ≡ false → q'.replies ≡ rs ++ r ∷ []
    → logged (Access c name) t before (shown Idle q') log ≡ moved t (Ends r) log
ends_log c name t before q' rs r log none e =
    ap (λ x. log_again x t (log_ended t (last_reply replies.Nothing q'.replies) log.now log)) none
    ∙ ap (λ x. log_ended t x log.now log) (ap (last_reply replies.Nothing) e ∙ last_push replies.Nothing r rs)

stops_log : (c t : ℕ) (phase : Option ℕ) (before : Option Running) (q' : Load) (rs : List SourceReply) (r : SourceReply) (log : Log) → q'.replies ≡ rs ++ r ∷ [] → logged (GiveUp c phase) t before (shown Idle q') log ≡ moved t (Ends r) log
stops_log c t phase before q' rs r log e = ap (λ x. log_ended t x log.now log) (ap (last_reply replies.Nothing) e ∙ last_push replies.Nothing r rs)

-- the deed of an enqueue that has linked its node
abbrev pub link_deed : ℕ → ℕ → ℕ → Deed
link_deed c arg t = record { caller = c; op = 0; arg = arg; reply = Some arg; moment = t }

-- and that of a dequeue
abbrev pub take_deed : ℕ → ℕ → Option ℕ → ℕ → Deed
take_deed c arg reply t = record { caller = c; op = 1; arg = arg; reply = reply; moment = t }

told_links : (c name : ℕ) (s s' : Shared) (q q' : Load) (T : Times (List ℕ)) (notes : Notes) (phase : Phase) → content s ≡ T.past T.time
    → content s' ≡ content s ++ q.hand.n0 ∷ [] → q'.args ≡ q.args → q'.hand.n0 ≡ q.hand.n0 → q'.started.n0 ≡ q.hand.n0 → q'.replies ≡ q.replies
    → Fits T notes c q phase Enqueues → Told (Access c name) c s' EnqLink q HelpTail q' T notes phase
told_links c name s s' q q' T notes phase now content_is args n0 m0 said (call, k, n) =
    let arg = slice_index q.args 0 in
    let d = link_deed c q.hand.n0 T.time in
    let same : slice_index q'.args 0 ≡ arg = ap (λ xs. slice_index xs 0) args in
    record {
      noted = record { notes = notes; deed = Some d };
      move = Stays;
      phase' = Landed call d;
      tells = refl;
      said = said;
      logs = λ log. refl;
      deal = subst (λ (p : Phase). Deal (List ℕ) queue_step T c (Some c) (content s') p (Some d) Stays (Landed call d)) (sym k.0)
          (lands call d refl refl (sym k.1) (n ∙ sym k.2) refl (enqueue_step q.hand.n0 (T.past T.time) ∙ ap (λ xs. Some xs) (sym (content_is ∙ ap (λ xs. xs ++ q.hand.n0 ∷ []) now))));
      fits = (call, d, refl, ap (λ v. Some v) (n ∙ sym same), n0 ∙ (n ∙ sym same), m0 ∙ (n ∙ sym same));
    }

told_takes : (c name : ℕ) (s s' : Shared) (q q' : Load) (T : Times (List ℕ)) (notes : Notes) (phase : Phase) → content s ≡ T.past T.time
    → content s ≡ q.hand.n1 ∷ content s' → q'.replies ≡ q.replies ++ replies.Number q.hand.n1 ∷ []
    → Fits T notes c q phase Dequeues → Told (Access c name) c s' DeqTake q Idle q' T notes phase
told_takes c name s s' q q' T notes phase now content_is said (call, k, n) =
    let arg = q.hand.n0 in
    let d = take_deed c arg (Some q.hand.n1) T.time in
    record {
      noted = record { notes = notes; deed = Some d };
      move = Ends (replies.Number q.hand.n1);
      phase' = Resting;
      tells = ap (λ (r : SourceReply). let x : Noted = record { notes = notes; deed = Some (take_deed c arg (number_of r) (queue_moment T.time notes (number_of r))) } in x) (ap (last_reply replies.Nothing) said ∙ last_push replies.Nothing (replies.Number q.hand.n1) q.replies);
      said = said;
      logs = λ log. ends_log c name T.time (shown DeqTake q).running q' q.replies (replies.Number q.hand.n1) log refl said;
      deal = subst (λ (p : Phase). Deal (List ℕ) queue_step T c (Some c) (content s') p (Some d) (Ends (replies.Number q.hand.n1)) Resting) (sym k.0)
          (ends call d (replies.Number q.hand.n1) refl refl (sym k.1) (n ∙ sym k.2) refl (ap (queue_step d) (sym now ∙ content_is) ∙ dequeue_step q.hand.n1 (content s') d refl refl) refl);
      fits = refl;
    }

told_none : (c name : ℕ) (s s' : Shared) (q q' : Load) (T : Times (List ℕ)) (notes : Notes) (phase : Phase) → content s ≡ T.past T.time
    → content s' ≡ content s → q'.replies ≡ q.replies ++ replies.Nothing ∷ []
    → Fits T notes c q phase FoundNone → Told (Access c name) c s' DeqNone q Idle q' T notes phase
told_none c name s s' q q' T notes phase now content_is said (call, k, n, o, e) =
    let arg = q.hand.n0 in
    let d = take_deed c arg None notes.load in
    record {
      noted = record { notes = notes; deed = Some d };
      move = Ends replies.Nothing;
      phase' = Resting;
      tells = ap (λ (r : SourceReply). let x : Noted = record { notes = notes; deed = Some (take_deed c arg (number_of r) (queue_moment T.time notes (number_of r))) } in x) (ap (last_reply replies.Nothing) said ∙ last_push replies.Nothing replies.Nothing q.replies);
      said = said;
      logs = λ log. ends_log c name T.time (shown DeqNone q).running q' q.replies replies.Nothing log refl said;
      deal = subst (λ (p : Phase). Deal (List ℕ) queue_step T c (Some c) (content s') p (Some d) (Ends replies.Nothing) Resting) (sym k.0)
          (settles call d replies.Nothing refl (sym k.1) (n ∙ sym k.2) o (ap (queue_step d) e ∙ ap (λ xs. Some xs) (sym e)) (content_is ∙ now) refl);
      fits = refl;
    }

told_answers : (c name : ℕ) (s s' : Shared) (q q' : Load) (T : Times (List ℕ)) (notes : Notes) (phase : Phase) → content s ≡ T.past T.time
    → content s' ≡ content s → q'.replies ≡ q.replies ++ replies.Number q.hand.n0 ∷ []
    → Fits T notes c q phase Helps → Told (Access c name) c s' HelpReply q Idle q' T notes phase
told_answers c name s s' q q' T notes phase now content_is said (call, d, k, r, n, m) = record {
  noted = record { notes = notes; deed = None };
  move = Ends (replies.Number q.hand.n0);
  phase' = Resting;
  tells = refl;
  said = said;
  logs = λ log. ends_log c name T.time (shown HelpReply q).running q' q.replies (replies.Number q.hand.n0) log refl said;
  deal = subst (λ (p : Phase). Deal (List ℕ) queue_step T c None (content s') p None (Ends (replies.Number q.hand.n0)) Resting) (sym k)
      (pays call d (replies.Number q.hand.n0) (content_is ∙ now) (sym (ap reply_of (r ∙ ap (λ v. Some v) (sym n)))));
  fits = refl;
}

told_stops : (c : ℕ) (why : Option ℕ) (s s' : Shared) (q q' : Load) (T : Times (List ℕ)) (notes : Notes) (phase : Phase) → content s ≡ T.past T.time
    → content s' ≡ content s → q'.replies ≡ q.replies ++ give_up_reply why ∷ []
    → Fits T notes c q phase Enqueues → Told (GiveUp c why) c s' EnqNew q Idle q' T notes phase
told_stops c why s s' q q' T notes phase now content_is said (call, k, n) = record {
  noted = record { notes = notes; deed = None };
  move = Ends (give_up_reply why);
  phase' = Resting;
  tells = refl;
  said = said;
  logs = λ log. stops_log c T.time why (shown EnqNew q).running q' q.replies (give_up_reply why) log said;
  deal = subst (λ (p : Phase). Deal (List ℕ) queue_step T c None (content s') p None (Ends (give_up_reply why)) Resting) (sym k.0) (quits call (give_up_reply why) (content_is ∙ now) (gave why));
  fits = refl;
} where
  gave : (o : Option ℕ) → gives_up (give_up_reply o) ≡ true
  gave None = refl
  gave (Some p) = refl

-- a call begins
first_n0 : (q' : Load) (args : List ℕ) → q'.args ≡ args → q'.hand ≡ first_hand args → q'.hand.n0 ≡ slice_index q'.args 0
first_n0 q' args same hand = ap (λ (h : Hand). h.n0) hand ∙ ap (λ xs. slice_index xs 0) (sym same)

told_begins : (c op : ℕ) (args : List ℕ) (s s' : Shared) (q q' : Load) (T : Times (List ℕ)) (notes : Notes) (phase : Phase) (place' : Place) → content s ≡ T.past T.time
    → content s' ≡ content s → phase ≡ Resting → q'.replies ≡ q.replies → noted_of queue_rules (Begin c op args) T.time notes None (shown place' q') ≡ record { notes = notes_at T.time; deed = None }
    → ((call : Started) → call.op ≡ op → call.arg ≡ slice_index args 0 → call.since ≡ T.time → Fits (ticked T None (content s')) (notes_at T.time) c q' (Working call) (class_of place'))
    → Told (Begin c op args) c s' Idle q place' q' T notes phase
told_begins c op args s s' q q' T notes phase place' now content_is e said tells fits =
    let call : Started = record { op = op; arg = slice_index args 0; begun = T.time; since = T.time } in
    record {
      noted = record { notes = notes_at T.time; deed = None };
      move = Begins call;
      phase' = Working call;
      tells = tells;
      said = said;
      logs = λ log. refl;
      deal = subst (λ (p : Phase). Deal (List ℕ) queue_step T c None (content s') p None (Begins call) (Working call)) (sym e) (begins call refl refl (content_is ∙ now));
      fits = fits call refl refl refl;
    }

-- a call's generator begins again, by a restart or by an exchange that failed
told_again : (event : SourceEvent) (c op : ℕ) (s' : Shared) (place place' : Place) (q q' : Load) (T : Times (List ℕ)) (notes : Notes) (phase : Phase) (call : Started) → content s' ≡ T.past T.time
    → IsWorking T phase op (slice_index q.args 0) call → noted_of queue_rules event T.time notes (shown place q).running (shown place' q') ≡ record { notes = notes; deed = None }
    → q'.args ≡ q.args → q'.replies ≡ q.replies → ((log : Log) → logged event T.time (shown place q).running (shown place' q') log ≡ moved T.time Renews log)
    → (IsWorking (ticked T (accesses event (shown place q).running) (content s')) (Working (run_again T.time call)) op (slice_index q'.args 0) (run_again T.time call) → Fits (ticked T (accesses event (shown place q).running) (content s')) notes c q' (Working (run_again T.time call)) (class_of place'))
    → Told event c s' place q place' q' T notes phase
told_again event c op s' place place' q q' T notes phase call now w tells args said logs fits = record {
  noted = record { notes = notes; deed = None };
  move = Renews;
  phase' = Working (run_again T.time call);
  tells = tells;
  said = said;
  logs = logs;
  deal = subst (λ (p : Phase). Deal (List ℕ) queue_step T c (accesses event (shown place q).running) (content s') p None Renews (Working (run_again T.time call))) (sym w.0) (starts_over call now);
  fits = fits (refl, w.1, w.2 ∙ ap (λ xs. slice_index xs 0) (sym args), omega arith);
}

told_over_enqueue : (c : ℕ) (s' : Shared) (place : Place) (q q' : Load) (T : Times (List ℕ)) (notes : Notes) (phase : Phase) (call : Started) → content s' ≡ T.past T.time → q' ≡ begins_at EnqTail q → IsWorking T phase 0 (slice_index q.args 0) call
    → Told (Restart c) c s' place q EnqTail q' T notes phase
told_over_enqueue c s' place q q' T notes phase call now so w =
    told_again (Restart c) c 0 s' place EnqTail q q' T notes phase call now w refl (ap (λ (x : Load). x.args) so) (ap (λ (x : Load). x.replies) so) (λ log. refl)
    (λ w'. (run_again T.time call, w', first_n0 q' q.args (ap (λ (x : Load). x.args) so) (ap (λ (x : Load). x.hand) so)))

told_over_dequeue : (c : ℕ) (s' : Shared) (place : Place) (q q' : Load) (T : Times (List ℕ)) (notes : Notes) (phase : Phase) (call : Started) → content s' ≡ T.past T.time → q' ≡ begins_at DeqHead q → IsWorking T phase 1 (slice_index q.args 0) call
    → Told (Restart c) c s' place q DeqHead q' T notes phase
told_over_dequeue c s' place q q' T notes phase call now so w =
    told_again (Restart c) c 1 s' place DeqHead q q' T notes phase call now w refl (ap (λ (x : Load). x.args) so) (ap (λ (x : Load). x.replies) so) (λ log. refl)
    (λ w'. (run_again T.time call, w', first_n0 q' q.args (ap (λ (x : Load). x.args) so) (ap (λ (x : Load). x.hand) so)))

-- a wrap-up begins again, with the registers of its start
told_over_help : (c : ℕ) (s' : Shared) (place : Place) (q q' : Load) (T : Times (List ℕ)) (notes : Notes) (phase : Phase) → content s' ≡ T.past T.time → q' ≡ begins_at HelpTail q → Fits T notes c q phase Helps
    → Told (Restart c) c s' place q HelpTail q' T notes phase
told_over_help c s' place q q' T notes phase now so (call, d, k, r, n, m) = record {
  noted = record { notes = notes; deed = None };
  move = Stays;
  phase' = phase;
  tells = refl;
  said = ap (λ (x : Load). x.replies) so;
  logs = λ log. refl;
  deal = subst (λ (p : Phase). Deal (List ℕ) queue_step T c None (content s') p None Stays p) (sym k) (waits call d now);
  fits = subst (λ (x : Load). Fits (ticked T None (content s')) notes c x phase Helps) (sym so) (call, d, k, r, m, m);
}

told_renews : (c : ℕ) (s s' : Shared) (place : Place) (q q' : Load) (T : Times (List ℕ)) (notes : Notes) (phase : Phase) → class_of place ≢ Rests → content s' ≡ T.past T.time
    → q' ≡ begins_at (start_of place) q → Fits T notes c q phase (class_of place) → Told (Restart c) c s' place q (start_of place) q' T notes phase
told_renews c s s' Idle q q' T notes phase ne now so k = absurd (ne refl)
told_renews c s s' EnqTail q q' T notes phase ne now so (call, w, n) = told_over_enqueue c s' EnqTail q q' T notes phase call now so w
told_renews c s s' EnqNext q q' T notes phase ne now so (call, w, n) = told_over_enqueue c s' EnqNext q q' T notes phase call now so w
told_renews c s s' EnqSwing q q' T notes phase ne now so (call, w, n) = told_over_enqueue c s' EnqSwing q q' T notes phase call now so w
told_renews c s s' EnqNew q q' T notes phase ne now so (call, w, n) = told_over_enqueue c s' EnqNew q q' T notes phase call now so w
told_renews c s s' EnqPut q q' T notes phase ne now so (call, w, n) = told_over_enqueue c s' EnqPut q q' T notes phase call now so w
told_renews c s s' EnqLink q q' T notes phase ne now so (call, w, n) = told_over_enqueue c s' EnqLink q q' T notes phase call now so w
told_renews c s s' HelpTail q q' T notes phase ne now so k = told_over_help c s' HelpTail q q' T notes phase now so k
told_renews c s s' HelpNext q q' T notes phase ne now so k = told_over_help c s' HelpNext q q' T notes phase now so k
told_renews c s s' HelpSwing q q' T notes phase ne now so k = told_over_help c s' HelpSwing q q' T notes phase now so k
told_renews c s s' HelpReply q q' T notes phase ne now so k = told_over_help c s' HelpReply q q' T notes phase now so k
told_renews c s s' DeqHead q q' T notes phase ne now so (call, w, n) = told_over_dequeue c s' DeqHead q q' T notes phase call now so w
told_renews c s s' DeqTail q q' T notes phase ne now so (call, w, n) = told_over_dequeue c s' DeqTail q q' T notes phase call now so w
told_renews c s s' DeqNext q q' T notes phase ne now so (call, w, n) = told_over_dequeue c s' DeqNext q q' T notes phase call now so w
told_renews c s s' DeqValue q q' T notes phase ne now so (call, w, n) = told_over_dequeue c s' DeqValue q q' T notes phase call now so w
told_renews c s s' DeqTake q q' T notes phase ne now so (call, w, n) = told_over_dequeue c s' DeqTake q q' T notes phase call now so w
told_renews c s s' DeqSwing q q' T notes phase ne now so (call, w, n) = told_over_dequeue c s' DeqSwing q q' T notes phase call now so w
told_renews c s s' DeqNone q q' T notes phase ne now so (call, w, n, o, e) = told_over_dequeue c s' DeqNone q q' T notes phase call now so w

-- what an event tells, by how it leads
told : (event : SourceEvent) (c : ℕ) (s s' : Shared) (place : Place) (q : Load) (place' : Place) (q' : Load) (T : Times (List ℕ)) (notes : Notes) (phase : Phase) → (event ≡ Restart c → class_of place ≢ Rests) → content s ≡ T.past T.time
    → Way c s s' q q' event place place' → Fits T notes c q phase (class_of place) → Told event c s' place q place' q' T notes phase
told event c s s' place q place' q' T notes phase open_ now (walks name from on walk class content_is same) k =
    let ne : class_of from ≢ Rests = walk_rests from walk in
    let ne' : class_of on ≢ Rests = λ e. ne (sym class ∙ e) in
    record {
      noted = record { notes = notes_walked from T.time notes; deed = None };
      move = Stays;
      phase' = phase;
      tells = walk_notes c name T.time notes from q (shown on q') walk;
      said = same.3;
      logs = λ log. walk_logs c name T.time from on q q' log walk class ne';
      deal = goes_on T (accesses (Access c name) (shown from q).running) notes c (slice_index q.args 0) q.hand.n0 q.started.n0 (content s') phase (class_of from) (content_is ∙ now) ne k;
      fits = fits_same (ticked T (accesses (Access c name) (shown from q).running) (content s')) (notes_walked from T.time notes) c q q' phase (class_of on) same
          (subst (λ (x : Class). Fits (ticked T (accesses (Access c name) (shown from q).running) (content s')) (notes_walked from T.time notes) c q phase x) (sym class)
          (fits_walked (ticked T (accesses (Access c name) (shown from q).running) (content s')) notes (notes_walked from T.time notes) c (slice_index q.args 0) q.hand.n0 q.started.n0 phase (class_of from) (walk_found from walk)
          (fits_kept T (accesses (Access c name) (shown from q).running) notes c (slice_index q.args 0) q.hand.n0 q.started.n0 (content s') phase (class_of from) k)));
    }
told event c s s' place q place' q' T notes phase open_ now (finds_none name empty content_is same) k = found k where
  notes' : Notes
  notes' = record { gap = notes.gap; load = T.time }

  found : Fits T notes c q phase Dequeues → Told (Access c name) c s' DeqNext q DeqNone q' T notes phase
  found (call, w, n) = record {
    noted = record { notes = record { gap = notes.gap; load = T.time }; deed = None };
    move = Stays;
    phase' = phase;
    tells = refl;
    said = same.3;
    logs = λ log. refl;
    deal = subst (λ (p : Phase). Deal (List ℕ) queue_step T c (Some c) (content s') p None Stays p) (sym w.0) (works call (content_is ∙ now));
    fits = fits_same (ticked T (Some c) (content s')) (record { gap = notes.gap; load = T.time }) c q q' phase FoundNone same (
      call,
      working_kept T (Some c) (content s') phase 1 (slice_index q.args 0) call w,
      n,
      record { by = put_same T.by T.time (Some c); since = w.3; past = omega arith },
      put_other T.past (suc T.time) T.time (content s') (λ e. let no : ⊥ = omega (arith, e) in no) ∙ (sym now ∙ empty),
    );
  }
told event c s s' place q place' q' T notes phase open_ now (links name content_is args n0 m0 said) k = told_links c name s s' q q' T notes phase now content_is args n0 m0 said k
told event c s s' place q place' q' T notes phase open_ now (links_not name content_is args hand said) k = again k where
  again : Fits T notes c q phase Enqueues → Told (Access c name) c s' EnqLink q EnqTail q' T notes phase
  again (call, w, n) =
      told_again (Access c name) c 0 s' EnqLink EnqTail q q' T notes phase call (content_is ∙ now) w refl args said (λ log. refl) (λ w'. (run_again T.time call, w', first_n0 q' q.args args hand))
told event c s s' place q place' q' T notes phase open_ now (takes name content_is said) k = told_takes c name s s' q q' T notes phase now content_is said k
told event c s s' place q place' q' T notes phase open_ now (takes_not name content_is args hand said) k = again k where
  again : Fits T notes c q phase Dequeues → Told (Access c name) c s' DeqTake q DeqHead q' T notes phase
  again (call, w, n) =
      told_again (Access c name) c 1 s' DeqTake DeqHead q q' T notes phase call (content_is ∙ now) w refl args said (λ log. refl) (λ w'. (run_again T.time call, w', first_n0 q' q.args args hand))
told event c s s' place q place' q' T notes phase open_ now (answers name content_is said) k = told_answers c name s s' q q' T notes phase now content_is said k
told event c s s' place q place' q' T notes phase open_ now (answers_none name content_is said) k = told_none c name s s' q q' T notes phase now content_is said k
told event c s s' place q place' q' T notes phase open_ now (stops why content_is said) k = told_stops c why s s' q q' T notes phase now content_is said k
told event c s s' place q place' q' T notes phase open_ now (enqueues args content_is same hand said) k =
    told_begins c 0 args s s' q q' T notes phase EnqTail now content_is k said refl (λ call op arg since. (call, (refl, op, arg ∙ ap (λ xs. slice_index xs 0) (sym same), omega (arith, since)), first_n0 q' args same hand))
told event c s s' place q place' q' T notes phase open_ now (dequeues args content_is same hand said) k =
    told_begins c 1 args s s' q q' T notes phase DeqHead now content_is k said refl (λ call op arg since. (call, (refl, op, arg ∙ ap (λ xs. slice_index xs 0) (sym same), omega (arith, since)), first_n0 q' args same hand))
told event c s s' place q place' q' T notes phase open_ now (renews from content_is begins_so) k = told_renews c s s' from q q' T notes phase (open_ refl) (content_is ∙ now) begins_so k

-- what is known of a caller
pub record Knows (s : Shared) (T : Times (List ℕ)) (notes : Notes) (phase : Phase) (c : ℕ) (caller : SourceCaller) : Type 0 where
  pub run : MethodRun
  pub place : Place
  pub q : Load
  pub is : caller ≡ shown place q
  pub stands : Stands s c run place q.hand
  pub fits : Fits T notes c q phase (class_of place)

stable_knows : (c d : ℕ) (who : Option ℕ) (s s' : Shared) (T : Times (List ℕ)) (notes : Notes) (phase : Phase) (caller : SourceCaller) → Goes c s s' → Fine s → d ≢ c → Knows s T notes phase d caller → Knows s' (ticked T who (content s')) notes phase d caller
stable_knows c d who s s' T notes phase caller g f ne k = record {
  run = k.run;
  place = k.place;
  q = k.q;
  is = k.is;
  stands = stable c d s s' k.run k.place k.q.hand g f ne k.stands;
  fits = fits_kept T who notes d (slice_index k.q.args 0) k.q.hand.n0 k.q.started.n0 (content s') phase (class_of k.place) k.fits;
}

-- an idle caller doesn't restart
open_restart : (event : SourceEvent) (c : ℕ) (place : Place) (q : Load) (s : Shared) → is_enabled_by queue_text event (performed queue_text (shown place q)) (memory_of (store_of s)) (shown place q) ≡ true
    → event ≡ Restart c → class_of place ≢ Rests
open_restart event c Idle q s e is same =
    let z : false ≡ true = ap (λ (x : SourceEvent). is_enabled_by queue_text x (performed queue_text (shown Idle q)) (memory_of (store_of s)) (shown Idle q)) (sym is) ∙ e in cc
open_restart event c HelpTail q s e is same = let z : Helps ≡ Rests = same in cc
open_restart event c HelpNext q s e is same = let z : Helps ≡ Rests = same in cc
open_restart event c HelpSwing q s e is same = let z : Helps ≡ Rests = same in cc
open_restart event c HelpReply q s e is same = let z : Helps ≡ Rests = same in cc
open_restart event c DeqHead q s e is same = let z : Dequeues ≡ Rests = same in cc
open_restart event c DeqTail q s e is same = let z : Dequeues ≡ Rests = same in cc
open_restart event c DeqNext q s e is same = let z : Dequeues ≡ Rests = same in cc
open_restart event c DeqValue q s e is same = let z : Dequeues ≡ Rests = same in cc
open_restart event c DeqTake q s e is same = let z : Dequeues ≡ Rests = same in cc
open_restart event c DeqSwing q s e is same = let z : Dequeues ≡ Rests = same in cc
open_restart event c DeqNone q s e is same = let z : FoundNone ≡ Rests = same in cc
open_restart event c _ q s e is same = let z : Enqueues ≡ Rests = same in cc

shown_replies : (place : Place) (q : Load) → (shown place q).replies ≡ q.replies
shown_replies Idle q = refl
shown_replies _ q = refl

-- a call runs if its caller isn't idle
runs_class : (T : Times (List ℕ)) (notes : Notes) (c arg n0 m0 : ℕ) (phase : Phase) (class : Class) → FitsClass T notes c arg n0 m0 phase class → phase_runs phase ≡ class_runs class
runs_class T notes c arg n0 m0 phase Rests k = ap phase_runs k
runs_class T notes c arg n0 m0 phase Enqueues (call, k, n) = ap phase_runs k.0
runs_class T notes c arg n0 m0 phase Helps (call, d, k, r, n, m) = ap phase_runs k
runs_class T notes c arg n0 m0 phase Dequeues (call, k, n) = ap phase_runs k.0
runs_class T notes c arg n0 m0 phase FoundNone (call, k, n, o, e) = ap phase_runs k.0

shown_runs : (place : Place) (q : Load) → is_some (shown place q).running ≡ class_runs (class_of place)
shown_runs Idle q = refl
shown_runs _ q = refl

knows_runs : (s : Shared) (T : Times (List ℕ)) (notes : Notes) (phase : Phase) (c : ℕ) (caller : SourceCaller) → Knows s T notes phase c caller → is_some caller.running ≡ phase_runs phase
knows_runs s T notes phase c caller k =
    ap (λ (y : SourceCaller). is_some y.running) k.is
    ∙ (shown_runs k.place k.q ∙ sym (runs_class T notes c (slice_index k.q.args 0) k.q.hand.n0 k.q.started.n0 phase (class_of k.place) k.fits))

deals : (event : SourceEvent) (s : Shared) (T : Times (List ℕ)) (notes : Notes) (phase : Phase) (caller : SourceCaller) → Fine s → content s ≡ T.past T.time → Knows s T notes phase (mover event) caller
    → is_enabled_by queue_text event (performed queue_text caller) (memory_of (store_of s)) caller ≡ true
    → Dealt queue_text queue_rules (List ℕ) Shared queue_step (λ x. memory_of (store_of x)) Fine content Knows Goes event (mover event) s T notes phase caller
deals event s T notes phase caller f now o e =
    let m = memory_of (store_of s) in
    let e' : is_enabled_by queue_text event (performed queue_text (shown o.place o.q)) m (shown o.place o.q) ≡ true = subst (λ (y : SourceCaller). is_enabled_by queue_text event (performed queue_text y) m y ≡ true) o.is e in
    let k : Keeps event (mover event) s o.place o.q o.run = keeps_open event s o.place o.q o.run f o.stands e' in
    let t : Told event (mover event) k.s' o.place o.q k.place' k.q' T notes phase =
    told event (mover event) s k.s' o.place o.q k.place' k.q' T notes phase (open_restart event (mover event) o.place o.q s e') now k.way o.fits in
    record {
      s' = k.s';
      after = shown k.place' k.q';
      noted = t.noted;
      move = t.move;
      phase' = t.phase';
      turn = ap (caller_turn queue_text event m) o.is ∙ k.does.0;
      tells = ap (λ (y : SourceCaller). noted_of queue_rules event T.time notes y.running (shown k.place' k.q')) o.is ∙ t.tells;
      said = shown_replies k.place' k.q' ∙ (t.said ∙ ap (said_by t.move) (sym (shown_replies o.place o.q) ∙ ap (λ (y : SourceCaller). y.replies) (sym o.is)));
      logs = λ log. ap (λ (y : SourceCaller). logged event T.time y.running (shown k.place' k.q') log) o.is ∙ t.logs log;
      fine = k.fine;
      goes = k.goes;
      deal = subst (λ (y : SourceCaller). Deal (List ℕ) queue_step T (mover event) (accesses event y.running) (content k.s') phase t.noted.deed t.move t.phase') (sym o.is) t.deal;
      knows = subst (λ (y : SourceCaller). Knows k.s' (ticked T (accesses event y.running) (content k.s')) t.noted.notes t.phase' (mover event) (shown k.place' k.q')) (sym o.is)
          (record { run = k.run'; place = k.place'; q = k.q'; is = refl; stands = k.stands; fits = t.fits });
    }

first_knows : (T : Times (List ℕ)) (c : ℕ) → Knows first_shared T no_notes Resting c idle_caller
first_knows T c = record {
  run = record { got = []; old = [] };
  place = Idle;
  q = record { replies = []; args = []; hand = first_hand []; started = first_hand [] };
  is = refl;
  stands = first_stands c;
  fits = refl;
}

pub queue_answers : QueueAnswers
queue_answers callers events state run =
    subst (λ xs. AnswersAs (List ℕ) queue_step xs state (book_of queue_text queue_rules callers events)) first_content
    (books_answer queue_text queue_rules (List ℕ) Shared queue_step (λ x. memory_of (store_of x)) Fine content Knows Goes stable_knows deals knows_runs first_shared first_is first_fine first_knows callers events state run)

-- what is told of a running call stands
pub queue_deeds_stand : QueueDeedsStand
queue_deeds_stand = deeds_stand queue_text queue_rules (List ℕ) Shared queue_step (λ x. memory_of (store_of x)) Fine content Knows Goes stable_knows deals first_shared first_is first_fine first_knows
