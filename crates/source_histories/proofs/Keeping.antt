-- A deed that is told of a running call stands: the call runs on with it, or ends with it.
use Rattle.std.proofs.Common.{ℕ, zero, suc, ◌+◌, ◌≡◌, ◌≢◌, ◌<◌, ◌==◌, ◌∙◌, ◌++◌, ◌⊎◌, inl, inr, ⊎_elim, Bool, true, false, cond, List, [], ◌∷◌, length, Option, Some, None, sym, ap, subst, refl, arith}
use Rattle.std.specs.Prelude.{slice_get, if◌then◌else◌}
use Rattle.std.proofs.lemmas.Bool.{cases_eq}
use Rattle.norm_lang.specs.declared.reply.SourceReply.{SourceReply}
use Rattle.norm_lang.specs.declared.text.Text.{Text}
use Rattle.source_machine.specs.declared.event.SourceEvent.{SourceEvent}
use Rattle.source_machine.specs.declared.state.Memory.{Memory}
use Rattle.source_machine.specs.declared.state.SourceCaller.{SourceCaller}
use Rattle.source_machine.specs.declared.state.SourceMachine.{SourceMachine}
use Rattle.source_machine.specs.State.{first_memory, idle_caller, source_start}
use Rattle.source_machine.specs.Step.{Turn, performed, caller_turn}
use Rattle.source_machine.specs.Run.{mover, is_enabled, is_enabled_by, is_enabled_for, source_step, source_run}
use Rattle.source_machine.specs.MethodRuns.{put}
use Rattle.source_machine.proofs.Places.{put_same, put_other}
use Rattle.source_histories.specs.declared.deed.Deed.{Deed}
use Rattle.source_histories.specs.declared.deed.Notes.{Notes}
use Rattle.source_histories.specs.declared.deed.Noted.{Noted}
use Rattle.source_histories.specs.Deeds.{deeds_in, of_caller}
use Rattle.source_histories.specs.Books.{Started, Ended, Rules, accesses, Log, log_ended, logged, Book, book_start, book_turned, book_by, book_step, book_run, book_of, no_notes}
use Rattle.source_histories.specs.Answers.{gives_up, reply_of, IsOf, IsOfEnded, Tell, RunsWith, EndedWith, DeedsStand}
use Rattle.source_histories.proofs.Lists.{Slots, slots_to, filled, append_none, mine, held, mine_next, deeds_of_slots, slots_length}
use Rattle.source_histories.proofs.Dealing.{Times, ticked, Books, Phase, Resting, Working, Landed, PhaseHolds, Move, Begins, Stays, Renews, Ends, moved, Deal, begins, works, starts_over, waits, lands, ends, settles, pays, quits, free_slot, ended_log, same_some}
use Rattle.source_histories.proofs.Recording.{Recorded, Dealt, book_left, left, stepped as recorded_step, along_books, starts}

-- ---- lists

push_there : {A : Type 0} (xs : List A) (x : A) → slice_get (xs ++ x ∷ []) (length xs) ≡ Some x
push_there [] x = refl
push_there (y ∷ xs) x = push_there xs x

push_keeps : {A : Type 0} (xs : List A) (x y : A) (i : ℕ) → slice_get xs i ≡ Some y → slice_get (xs ++ x ∷ []) i ≡ Some y
push_keeps [] x y i is = absurd (let z : None ≡ Some y = is in cc)
push_keeps (z ∷ xs) x y zero is = is
push_keeps (z ∷ xs) x y (suc i) is = push_keeps xs x y i is

same_heads : {A : Type 0} (x y : A) (xs ys : List A) → x ∷ xs ≡ y ∷ ys → (x ≡ y) × (xs ≡ ys)
same_heads x y xs ys is = (cc, cc)

no_item : {A : Type 0} (ys : List A) (b : A) (more : List A) → [] ≡ ys ++ b ∷ more → ⊥
no_item [] b more is = cc
no_item (y ∷ ys) b more is = cc

-- an item is the last, or stands among the others
last_or_before : {A : Type 0} (xs ys more : List A) (a b : A) → xs ++ a ∷ [] ≡ ys ++ b ∷ more → (b ≡ a) ⊎ ((rest : List A) × (xs ≡ ys ++ b ∷ rest))
last_or_before [] [] more a b is = inl (sym (same_heads a b [] more is).0)
last_or_before [] (y ∷ ys) more a b is = absurd (no_item ys b more (same_heads a y [] (ys ++ b ∷ more) is).1)
last_or_before (x ∷ xs) [] more a b is = inr (xs, ap (λ z. z ∷ xs) (same_heads x b (xs ++ a ∷ []) more is).0)
last_or_before (x ∷ xs) (y ∷ ys) more a b is =
    let both = same_heads x y (xs ++ a ∷ []) (ys ++ b ∷ more) is in
    ⊎_elim
    (λ (t : b ≡ a). inl t)
    (λ (t : (rest : List _) × (xs ≡ ys ++ b ∷ rest)). inr (t.0, ap (λ z. z ∷ xs) both.0 ∙ ap (λ l. y ∷ l) t.1))
    (last_or_before xs ys more a b both.1)

-- of two lists with one more item each the last items are the same
last_same : {A : Type 0} (xs ys : List A) (a b : A) → xs ++ a ∷ [] ≡ ys ++ b ∷ [] → b ≡ a
last_same [] [] a b is = sym (same_heads a b [] [] is).0
last_same [] (y ∷ ys) a b is = absurd (no_item ys b [] (same_heads a y [] (ys ++ b ∷ []) is).1)
last_same (x ∷ xs) [] a b is = absurd (no_item xs a [] (sym (same_heads x b (xs ++ a ∷ []) [] is).1))
last_same (x ∷ xs) (y ∷ ys) a b is = last_same xs ys a b (same_heads x y (xs ++ a ∷ []) (ys ++ b ∷ []) is).1

-- ---- deeds that tell calls are as many as the calls that didn't give up

-- how many deeds tell calls that have ended
abbrev told_of : Bool → ℕ → ℕ
told_of true n = n
told_of false n = suc n

abbrev answered : List Ended → ℕ
answered [] = 0
answered (e ∷ es) = told_of (gives_up e.reply) (answered es)

-- a deed's call didn't give up
not_given_up : (e : Ended) (d : Deed) → IsOfEnded e d → gives_up e.reply ≡ false
not_given_up e d is = of d.reply is.reply where
  of : (o : Option ℕ) → e.reply ≡ reply_of o → gives_up e.reply ≡ false
  of None same = ap gives_up same
  of (Some v) same = ap gives_up same

as_many : (ds : List Deed) (es : List Ended) → Tell ds es None → length ds ≡ answered es
as_many [] [] told = refl
as_many (d ∷ []) [] told = absurd told
as_many (d ∷ d' ∷ ds) [] told = absurd told
as_many [] (e ∷ es) told = as_many [] es told.1 ∙ ap (λ b. told_of b (answered es)) (sym told.0)
as_many (d ∷ ds) (e ∷ es) (inl told) = as_many (d ∷ ds) es told.1 ∙ ap (λ b. told_of b (answered es)) (sym told.0)
as_many (d ∷ ds) (e ∷ es) (inr told) = ap suc (as_many ds es told.1) ∙ ap (λ b. told_of b (answered es)) (sym (not_given_up e d told.0))

one_longer : (ds : List Deed) (d : Deed) → length (ds ++ d ∷ []) ≡ suc (length ds)
one_longer [] d = refl
one_longer (x ∷ ds) d = ap suc (one_longer ds d)

not_both : (ds : List Deed) (es : List Ended) (d : Deed) → Tell ds es None → Tell (ds ++ d ∷ []) es None → ⊥
not_both ds es d one other = let a = as_many ds es one in let b = as_many (ds ++ d ∷ []) es other in let c = one_longer ds d in omega (arith, a, b, c)

-- ---- slots

-- a deed among a caller's stands in some slot
in_slot : (c : ℕ) (slot : Slots) (n : ℕ) (xs ys : List Deed) (d : Deed) → mine c slot n ≡ xs ++ d ∷ ys → (t : ℕ) × (t < n) × (slot t ≡ Some d)
in_slot c slot zero xs ys d is = absurd (no_item xs d ys is)
in_slot c slot (suc n) xs ys d is = of (λ rest was. in_slot c slot n xs rest d was) (slot n) refl (sym (mine_next c slot n) ∙ is) where
  older : (t : ℕ) × (t < n) × (slot t ≡ Some d) → (t : ℕ) × (t < suc n) × (slot t ≡ Some d)
  older k = let lt = k.1 in (k.0, omega (arith, lt), k.2)

  of : ((rest : List Deed) → mine c slot n ≡ xs ++ d ∷ rest → (t : ℕ) × (t < n) × (slot t ≡ Some d)) → (o : Option Deed) → slot n ≡ o → mine c slot n ++ held c o ≡ xs ++ d ∷ ys
      → (t : ℕ) × (t < suc n) × (slot t ≡ Some d)
  of further None at same = older (further ys (sym (append_none (mine c slot n)) ∙ same))
  of further (Some x) at same = by (x.caller == c) same where
    by : (b : Bool) → mine c slot n ++ (cond b (x ∷ []) []) ≡ xs ++ d ∷ ys → (t : ℕ) × (t < suc n) × (slot t ≡ Some d)
    by false other = older (further ys (sym (append_none (mine c slot n)) ∙ other))
    by true other = ⊎_elim
        (λ (t : d ≡ x). (n, omega arith, at ∙ ap (λ y. Some y) (sym t)))
        (λ (t : (rest : List Deed) × (mine c slot n ≡ xs ++ d ∷ rest)). older (further t.0 t.1))
        (last_or_before (mine c slot n) xs ys x d other)

slot_at : (slot : Slots) (n t : ℕ) → t < n → slice_get (slots_to slot n) t ≡ Some (slot t)
slot_at slot zero t lt = absurd (let no : ⊥ = omega (arith, lt) in no)
slot_at slot (suc n) t lt = ⊎_elim
    (λ (e : t ≡ n). ap (slice_get (slots_to slot n ++ slot n ∷ [])) (e ∙ sym (slots_length slot n)) ∙ (push_there (slots_to slot n) (slot n) ∙ ap (λ k. Some (slot k)) (sym e)))
    (λ (ne : t ≢ n). push_keeps (slots_to slot n) (slot n) (slot t) t (slot_at slot n t (omega (arith, lt, ne))))
    (cases_eq t n)

-- ---- what an event does to a call that has a deed

module _ (call : Started) (d : Deed) (done : List Ended) where
  -- it has ended with the deed
  abbrev HasEnded : Log → Type 0
  HasEnded log = (e : Ended) × (slice_get log.done (length done) ≡ Some e) × (e.call ≡ call) × IsOfEnded e d

  abbrev GoesOrEnded : Phase → Log → Type 0
  GoesOrEnded phase log = ((phase ≡ Landed call d) × (log.done ≡ done)) ⊎ HasEnded log

  ended_grows : (t : ℕ) (reply : SourceReply) (now : Option Started) (log : Log) → HasEnded log → HasEnded (log_ended t reply now log)
  ended_grows t reply None log has = has
  ended_grows t reply (Some other) log has = (has.0, push_keeps log.done (record { call = other; reply = reply; at = t }) has.0 (length done) has.1, has.2, has.3)

  ended_stays : (t : ℕ) (move : Move) (log : Log) → HasEnded log → HasEnded (moved t move log)
  ended_stays t (Begins other) log has = has
  ended_stays t Stays log has = has
  ended_stays t Renews log has = has
  ended_stays t (Ends reply) log has = ended_grows t reply log.now log has

  landed_is : (one other : Started) (x y : Deed) → Landed one x ≡ Landed other y → (one ≡ other) × (x ≡ y)
  landed_is one other x y is = (cc, cc)

  landed_goes : {A : Type 0} (step : Deed → A → Option A) (T : Times A) (c : ℕ) (who : Option ℕ) (a : A) (phase : Phase) (deed : Option Deed) (move : Move) (phase' : Phase) (log : Log)
      → Deal A step T c who a phase deed move phase' → phase ≡ Landed call d → log.now ≡ Some call → log.done ≡ done → IsOf call d → d.moment < T.time → GoesOrEnded phase' (moved T.time move log)
  landed_goes step T c who a phase deed move phase' log (begins other at since same) is now was own past = absurd (let z : Resting ≡ Landed call d = is in cc)
  landed_goes step T c who a phase deed move phase' log (works other same) is now was own past = absurd (let z : Working other ≡ Landed call d = is in cc)
  landed_goes step T c who a phase deed move phase' log (starts_over other same) is now was own past = absurd (let z : Working other ≡ Landed call d = is in cc)
  landed_goes step T c who a phase deed move phase' log (waits other x same) is now was own past = inl (is, was)
  landed_goes step T c who a phase deed move phase' log (lands other x its owner op arg at leads) is now was own past = absurd (let z : Working other ≡ Landed call d = is in cc)
  landed_goes step T c who a phase deed move phase' log (ends other x reply its owner op arg at leads says) is now was own past = absurd (let z : Working other ≡ Landed call d = is in cc)
  landed_goes step T c who a phase deed move phase' log (settles other x reply owner op arg open_ leads same says) is now was own past = absurd (let z : Working other ≡ Landed call d = is in cc)
  landed_goes step T c who a phase deed move phase' log (pays other x reply same says) is now was own past =
      let end : Ended = record { call = call; reply = reply; at = T.time } in
      let grown : (log_ended T.time reply log.now log).done ≡ done ++ end ∷ [] = ap (λ (l : Log). l.done) (ended_log T.time reply call log now) ∙ ap (λ (l : List Ended). l ++ end ∷ []) was in
      inr (
        end,
        ap (λ (l : List Ended). slice_get l (length done)) grown ∙ push_there done end,
        refl,
        record { call = own; reply = says ∙ ap (λ (y : Deed). reply_of y.reply) (landed_is other call x d is).1; ended = omega (arith, past) },
      )
  landed_goes step T c who a phase deed move phase' log (quits other reply same gives) is now was own past = absurd (let z : Working other ≡ Landed call d = is in cc)

-- a deed goes into an empty slot
deal_free : {A : Type 0} (step : Deed → A → Option A) (T : Times A) (slot : Slots) (c : ℕ) (who : Option ℕ) (a : A) (log : Log) (phase : Phase) (deed : Option Deed) (move : Move) (phase' : Phase) → Books A step T slot
    → PhaseHolds T.time slot c log phase → Deal A step T c who a phase deed move phase' → (x : Deed) → deed ≡ Some x → slot x.moment ≡ None
deal_free step T slot c who a log phase deed move phase' b k (begins other at since same) x is = absurd (let z : None ≡ Some x = is in cc)
deal_free step T slot c who a log phase deed move phase' b k (works other same) x is = absurd (let z : None ≡ Some x = is in cc)
deal_free step T slot c who a log phase deed move phase' b k (starts_over other same) x is = absurd (let z : None ≡ Some x = is in cc)
deal_free step T slot c who a log phase deed move phase' b k (waits other y same) x is = absurd (let z : None ≡ Some x = is in cc)
deal_free step T slot c who a log phase deed move phase' b k (lands other y its owner op arg at leads) x is = subst (λ (z : Deed). slot z.moment ≡ None) (same_some y x is) (b.later y.moment (omega (arith, at)))
deal_free step T slot c who a log phase deed move phase' b k (ends other y reply its owner op arg at leads says) x is = subst (λ (z : Deed). slot z.moment ≡ None) (same_some y x is) (b.later y.moment (omega (arith, at)))
deal_free step T slot c who a log phase deed move phase' b k (settles other y reply owner op arg open_ leads same says) x is =
    let since = open_.since in
    let le = k.2 in
    subst (λ (z : Deed). slot z.moment ≡ None) (same_some y x is) (free_slot step T slot c y.moment b open_.by (k.4 y.moment (omega (arith, since, le))))
deal_free step T slot c who a log phase deed move phase' b k (pays other y reply same says) x is = absurd (let z : None ≡ Some x = is in cc)
deal_free step T slot c who a log phase deed move phase' b k (quits other reply same gives) x is = absurd (let z : None ≡ Some x = is in cc)

-- and leaves those that stand
filled_keeps : (slot : Slots) (d : Deed) (t : ℕ) (deed : Option Deed) → slot t ≡ Some d → ((x : Deed) → deed ≡ Some x → slot x.moment ≡ None) → filled deed slot t ≡ Some d
filled_keeps slot d t None stands free = stands
filled_keeps slot d t (Some x) stands free = ⊎_elim
    (λ (e : t ≡ x.moment). absurd (let z : None ≡ Some d = sym (free x refl) ∙ (ap slot (sym e) ∙ stands) in cc))
    (λ (ne : t ≢ x.moment). put_other slot x.moment t (Some x) ne ∙ stands)
    (cases_eq t x.moment)

-- ---- along a run

module _ (text : Text) (rules : Rules) (A S : Type 0) (first : A) (step : Deed → A → Option A) (memory_of : S → Memory) (Fine : S → Type 0) (object : S → A) (Knows : S → Times A → Notes → Phase → ℕ → SourceCaller → Type 0)
    (Goes : ℕ → S → S → Type 0) (c : ℕ) (call : Started) (d : Deed) (done : List Ended) where
  abbrev Recorder : Book → Type 0
  Recorder b = Recorded A S first step memory_of Fine object Knows b

  -- the deed stands, and the call runs with it or has ended with it
  record Follows (b : Book) (slot : Slots) (phase : Phase) : Type 0 where
    stands : slot d.moment ≡ Some d
    past : d.moment < b.time
    goes : GoesOrEnded call d done phase (b.log c)

  record IsFollowed (b : Book) : Type 0 where
    recorded : Recorder b
    follows : Follows b recorded.slot (recorded.phase c)

  left_follows : (stable : (c d : ℕ) (who : Option ℕ) (s s' : S) (T : Times A) (notes : Notes) (phase : Phase) (caller : SourceCaller) → Goes c s s' → Fine s → d ≢ c → Knows s T notes phase d caller → Knows s' (ticked T who (object s')) notes phase d caller)
      → (event : SourceEvent) (b : Book) (caller : SourceCaller) (at : slice_get b.machine.callers (mover event) ≡ Some caller) (r : Recorder b)
      → (k : Dealt text rules A S step memory_of Fine object Knows Goes event (mover event) r.s (record { time = b.time; past = r.past; by = b.by }) (b.notes (mover event)) (r.phase (mover event)) caller)
      → Follows b r.slot (r.phase c)
      → Follows (book_left text b event (accesses event caller.running) k.noted (moved b.time k.move (b.log (mover event)))) (filled k.noted.deed r.slot) (put r.phase (mover event) k.phase' c)
  left_follows stable event b caller at r k f = record {
    stands = filled_keeps r.slot d d.moment k.noted.deed f.stands
        (deal_free step T r.slot (mover event) (accesses event caller.running) (object k.s') (b.log (mover event)) (r.phase (mover event)) k.noted.deed k.move k.phase' r.books (r.phases (mover event)) k.deal);
    past = (let lt = f.past in omega (arith, lt));
    goes = ⊎_elim
        (λ (e : c ≡ mover event).
        subst (λ (x : Log). GoesOrEnded call d done (put r.phase (mover event) k.phase' c) x) (sym (ap (put b.log (mover event) later_log) e ∙ put_same b.log (mover event) later_log))
        (subst (λ (x : Phase). GoesOrEnded call d done x later_log) (sym (ap (put r.phase (mover event) k.phase') e ∙ put_same r.phase (mover event) k.phase')) (own e f.goes)))
        (λ (ne : c ≢ mover event).
        subst (λ (x : Log). GoesOrEnded call d done (put r.phase (mover event) k.phase' c) x) (sym (put_other b.log (mover event) c later_log ne))
        (subst (λ (x : Phase). GoesOrEnded call d done x (b.log c)) (sym (put_other r.phase (mover event) c k.phase' ne)) f.goes))
        (cases_eq c (mover event));
  } where
    T : Times A
    T = record { time = b.time; past = r.past; by = b.by }

    later_log : Log
    later_log = moved b.time k.move (b.log (mover event))

    own : c ≡ mover event → GoesOrEnded call d done (r.phase c) (b.log c) → GoesOrEnded call d done k.phase' later_log
    own e (inr has) = inr (ended_stays call d done b.time k.move (b.log (mover event)) (subst (λ i. HasEnded call d done (b.log i)) e has))
    own e (inl goes) =
        let here : PhaseHolds b.time r.slot c (b.log c) (Landed call d) = subst (PhaseHolds b.time r.slot c (b.log c)) goes.0 (r.phases c) in
        landed_goes call d done step T (mover event) (accesses event caller.running) (object k.s') (r.phase (mover event)) k.noted.deed k.move k.phase' (b.log (mover event)) k.deal
        (ap r.phase (sym e) ∙ goes.0) (ap (λ i. (b.log i).now) (sym e) ∙ here.0) (ap (λ i. (b.log i).done) (sym e) ∙ goes.1) here.1 f.past

  by_caller : (stable : (c d : ℕ) (who : Option ℕ) (s s' : S) (T : Times A) (notes : Notes) (phase : Phase) (caller : SourceCaller) → Goes c s s' → Fine s → d ≢ c → Knows s T notes phase d caller → Knows s' (ticked T who (object s')) notes phase d caller)
      → (event : SourceEvent) (b : Book) (caller : SourceCaller) → slice_get b.machine.callers (mover event) ≡ Some caller → (f : IsFollowed b)
      → (k : Dealt text rules A S step memory_of Fine object Knows Goes event (mover event) f.recorded.s (record { time = b.time; past = f.recorded.past; by = b.by }) (b.notes (mover event)) (f.recorded.phase (mover event)) caller)
      → IsFollowed (book_turned text rules b event caller (caller_turn text event b.machine.memory caller).caller)
  unfolding left
  by_caller stable event b caller at f k =
      subst (λ (y : SourceCaller). IsFollowed (book_turned text rules b event caller y)) (sym after)
      (subst (λ (n : Noted). IsFollowed (book_left text b event (accesses event caller.running) n (logged event b.time caller.running k.after (b.log (mover event))))) (sym k.tells)
      (subst (λ (l : Log). IsFollowed (book_left text b event (accesses event caller.running) k.noted l)) (sym (k.logs (b.log (mover event))))
      (record {
        recorded = left text rules A S first step memory_of Fine object Knows Goes stable event b caller at f.recorded k;
        follows = left_follows stable event b caller at f.recorded k f.follows;
      }))) where
        after : (caller_turn text event b.machine.memory caller).caller ≡ k.after
        after = ap (λ (t : Turn). t.caller) (ap (λ (m : Memory). caller_turn text event m caller) f.recorded.memory ∙ k.turn)

  stepped : (stable : (c d : ℕ) (who : Option ℕ) (s s' : S) (T : Times A) (notes : Notes) (phase : Phase) (caller : SourceCaller) → Goes c s s' → Fine s → d ≢ c → Knows s T notes phase d caller → Knows s' (ticked T who (object s')) notes phase d caller)
      → ((event : SourceEvent) (s : S) (T : Times A) (notes : Notes) (phase : Phase) (caller : SourceCaller) → Fine s → object s ≡ T.past T.time → Knows s T notes phase (mover event) caller
      → is_enabled_by text event (performed text caller) (memory_of s) caller ≡ true
      → Dealt text rules A S step memory_of Fine object Knows Goes event (mover event) s T notes phase caller)
      → (event : SourceEvent) (b : Book) (found : Option SourceCaller) → slice_get b.machine.callers (mover event) ≡ found → is_enabled_for text event found b.machine.memory ≡ true
      → IsFollowed b → IsFollowed (book_by text rules b event found)
  stepped stable deals event b None at e f = absurd (let z : false ≡ true = e in cc)
  stepped stable deals event b (Some caller) at e f =
      let r : Recorder b = f.recorded in
      by_caller stable event b caller at f
      (deals event r.s (record { time = b.time; past = r.past; by = b.by }) (b.notes (mover event)) (r.phase (mover event)) caller r.fine r.now (r.knows (mover event) caller at)
      (subst (λ (m : Memory). is_enabled_by text event (performed text caller) m caller ≡ true) r.memory e))

  -- ---- from what is told of a running call, and back

  own_deeds : (b : Book) (r : Recorder b) → of_caller c (deeds_in b.slots) ≡ mine c r.slot b.time
  own_deeds b r = ap (of_caller c) (ap deeds_in r.slots ∙ deeds_of_slots r.slot b.time)

  first_followed : (b : Book) (r : Recorder b) → (b.log c).done ≡ done → RunsWith b c call d → IsFollowed b
  first_followed b r same runs = by (r.phase c) refl (r.phases c) where
    told : mine c r.slot b.time ≡ runs.before ++ d ∷ []
    told = sym (own_deeds b r) ∙ runs.told

    there : (t : ℕ) × (t < b.time) × (r.slot t ≡ Some d)
    there = in_slot c r.slot b.time runs.before [] d told

    at_moment : d.moment ≡ there.0
    at_moment = r.books.moment there.0 d there.2

    by : (phase : Phase) → r.phase c ≡ phase → PhaseHolds b.time r.slot c (b.log c) phase → IsFollowed b
    by Resting is holds = absurd (let z : None ≡ Some call = sym holds.0 ∙ runs.now in cc)
    by (Working other) is holds = absurd (not_both runs.before (b.log c).done d runs.ended (subst (λ ds. Tell ds (b.log c).done None) told holds.1))
    by (Landed other x) is holds =
        let one : x ≡ d = sym (last_same holds.3.0 runs.before x d (sym holds.3.1 ∙ told)) in
        let own : other ≡ call = (let z : Some other ≡ Some call = sym holds.0 ∙ runs.now in cc) in
        record {
          recorded = r;
          follows = record {
            stands = ap r.slot at_moment ∙ there.2;
            past = (let lt = there.1 in omega (arith, lt, at_moment));
            goes = inl (is ∙ (ap (λ (s : Started). Landed s x) own ∙ ap (λ (y : Deed). Landed call y) one), same);
          };
        }

  last_told : (b : Book) → IsFollowed b → RunsWith b c call d ⊎ EndedWith b c (length done) call d
  last_told b f = ⊎_elim
      (λ (goes : (f.recorded.phase c ≡ Landed call d) × ((b.log c).done ≡ done)).
      let holds : PhaseHolds b.time f.recorded.slot c (b.log c) (Landed call d) = subst (PhaseHolds b.time f.recorded.slot c (b.log c)) goes.0 (f.recorded.phases c) in
      inl (record { now = holds.0; before = holds.3.0; told = own_deeds b f.recorded ∙ holds.3.1; ended = holds.3.2; of = holds.1 }))
      (λ (has : HasEnded call d done (b.log c)). inr (record { end = has.0; there = has.1; same = has.2; deed = has.3; stands = stands }))
      f.follows.goes
    where
      stands : slice_get b.slots d.moment ≡ Some (Some d)
      stands = ap (λ l. slice_get l d.moment) f.recorded.slots ∙ (slot_at f.recorded.slot b.time d.moment f.follows.past ∙ ap (λ o. Some o) f.follows.stands)

-- ---- two runs

books_more : (text : Text) (rules : Rules) (events more : List SourceEvent) (b : Book) → book_run text rules (events ++ more) b ≡ book_run text rules more (book_run text rules events b)
books_more text rules [] more b = refl
books_more text rules (event ∷ events) more b = books_more text rules events more (book_step text rules b event)

goes_on : (b : Bool) (a : Option SourceMachine) (state : SourceMachine) → (if b then a else None) ≡ Some state → (b ≡ true) × (a ≡ Some state)
goes_on true a state e = (refl, e)
goes_on false a state e = absurd (let z : None ≡ Some state = e in cc)

-- the second run goes on from where the first one leads
run_on : (text : Text) (events more : List SourceEvent) (start state later : SourceMachine) → source_run text events start ≡ Some state → source_run text (events ++ more) start ≡ Some later
    → source_run text more state ≡ Some later
run_on text [] more start state later runs all = subst (λ s. source_run text more s ≡ Some later) (let z : Some start ≡ Some state = runs in cc) all
run_on text (event ∷ events) more start state later runs all =
    run_on text events more (source_step text start event) state later
    (goes_on (is_enabled text start event) (source_run text events (source_step text start event)) state runs).1
    (goes_on (is_enabled text start event) (source_run text (events ++ more) (source_step text start event)) later all).1

-- if each event of a text deals so, what is told of a running call stands
pub deeds_stand : (text : Text) (rules : Rules) (A S : Type 0) (step : Deed → A → Option A) (memory_of : S → Memory) (Fine : S → Type 0) (object : S → A) (Knows : S → Times A → Notes → Phase → ℕ → SourceCaller → Type 0)
    (Goes : ℕ → S → S → Type 0)
    → ((c d : ℕ) (who : Option ℕ) (s s' : S) (T : Times A) (notes : Notes) (phase : Phase) (caller : SourceCaller) → Goes c s s' → Fine s → d ≢ c → Knows s T notes phase d caller → Knows s' (ticked T who (object s')) notes phase d caller)
    → ((event : SourceEvent) (s : S) (T : Times A) (notes : Notes) (phase : Phase) (caller : SourceCaller) → Fine s → object s ≡ T.past T.time → Knows s T notes phase (mover event) caller
    → is_enabled_by text event (performed text caller) (memory_of s) caller ≡ true
    → Dealt text rules A S step memory_of Fine object Knows Goes event (mover event) s T notes phase caller)
    → (s : S) → first_memory text ≡ memory_of s → Fine s → ((T : Times A) (c : ℕ) → Knows s T no_notes Resting c idle_caller) → DeedsStand text rules
deeds_stand text rules A S step memory_of Fine object Knows Goes stable deals s memory fine idle callers events more state later run whole c call d runs =
    subst (λ (b : Book). RunsWith b c call d ⊎ EndedWith b c (length (now.log c).done) call d) (sym (books_more text rules events more (book_start text callers)))
    (last_told text rules A S (object s) step memory_of Fine object Knows Goes c call d (now.log c).done (book_run text rules more now) followed)
  where
    now : Book
    now = book_of text rules callers events

    told : Recorded A S (object s) step memory_of Fine object Knows now × (now.machine ≡ state)
    told = along_books text rules (λ b. Recorded A S (object s) step memory_of Fine object Knows b)
        (λ b event e r. recorded_step text rules A S (object s) step memory_of Fine object Knows Goes stable deals event b (slice_get b.machine.callers (mover event)) refl e r)
        events (book_start text callers) state run.runs (starts text A S step memory_of Fine object Knows s memory fine idle callers)

    further : source_run text more now.machine ≡ Some later
    further = subst (λ m. source_run text more m ≡ Some later) (sym told.1) (run_on text events more (source_start text callers) state later run.runs whole.runs)

    followed : IsFollowed text rules A S (object s) step memory_of Fine object Knows Goes c call d (now.log c).done (book_run text rules more now)
    followed = (along_books text rules (IsFollowed text rules A S (object s) step memory_of Fine object Knows Goes c call d (now.log c).done)
        (λ b event e f. stepped text rules A S (object s) step memory_of Fine object Knows Goes c call d (now.log c).done stable deals event b (slice_get b.machine.callers (mover event)) refl e f)
        more now later further (first_followed text rules A S (object s) step memory_of Fine object Knows Goes c call d (now.log c).done now told.0 refl runs)).0
