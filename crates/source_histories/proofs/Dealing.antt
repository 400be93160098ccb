-- What an event of a caller does to what is written down: it begins a call, goes on, has a deed now or for an earlier event,
-- or ends a call.
use Rattle.std.proofs.Common.{ℕ, zero, suc, ◌+◌, ◌≡◌, ◌≢◌, ◌≤◌, ◌<◌, ◌∙◌, ◌++◌, Bool, true, false, List, [], ◌∷◌, map, Option, Some, None, is_some, sym, ap, subst, refl, ⊎_elim, arith}
use Rattle.std.proofs.lemmas.Bool.{cases_lt}
use Rattle.norm_lang.specs.declared.reply.SourceReply.{SourceReply}
use Rattle.source_machine.specs.MethodRuns.{put}
use Rattle.source_machine.proofs.Places.{each_put, put_same, put_other}
use Rattle.source_histories.specs.declared.deed.Deed.{Deed}
use Rattle.source_histories.specs.Deeds.{listed, after_deeds}
use Rattle.source_histories.specs.Books.{Started, Ended, replied_with, Log, log_ended, run_again, again_now, log_again}
use Rattle.source_histories.specs.Answers.{gives_up, reply_of, IsOf, Tell, RiseFrom, AreOwn}
use Rattle.source_histories.proofs.Lists.{Slots, deeds_to, filled, append_none, mine, held, mine_next, held_none, held_same, mine_same, mine_put, away_put, after_append}
use Rattle.source_histories.proofs.Telling.{tell_ended, tell_gave_up, tell_runs, tell_landed}

-- how many events were made, what the object was before each event, and whose access of a generator or a list each was
pub record Times (A : Type 0) : Type 0 where
  pub time : ℕ
  pub past : ℕ → A
  pub by : ℕ → Option ℕ

-- one event more
abbrev pub ticked : {A : Type 0} → Times A → Option ℕ → A → Times A
ticked T who a = record { time = suc T.time; past = put T.past (suc T.time) a; by = put T.by T.time who }

abbrev pub goes_by : {A : Type 0} → (Deed → A → Option A) → Option Deed → A → Option A
goes_by step None a = Some a
goes_by step (Some d) a = step d a

-- each event changes the object by its deed, if it has one
pub record Books (A : Type 0) (step : Deed → A → Option A) (T : Times A) (slot : Slots) : Type 0 where
  pub fits : (t : ℕ) → t < T.time → goes_by step (slot t) (T.past t) ≡ Some (T.past (suc t))
  pub later : (t : ℕ) → T.time ≤ t → slot t ≡ None
  pub moment : (t : ℕ) (d : Deed) → slot t ≡ Some d → d.moment ≡ t
  pub caller : (t : ℕ) (d : Deed) → slot t ≡ Some d → T.by t ≡ Some d.caller

-- how far a caller's call has come: there is none; it has no deed yet; it has one
pub data Phase : Type 0 where
  Resting : Phase
  Working : (call : Started) → Phase
  Landed : (call : Started) (deed : Deed) → Phase

abbrev pub PhaseHolds : ℕ → Slots → ℕ → Log → Phase → Type 0
PhaseHolds time slot c log Resting = (log.now ≡ None) × Tell (mine c slot time) log.done None
PhaseHolds time slot c log (Working call) =
    (log.now ≡ Some call) × Tell (mine c slot time) log.done None × (call.begun ≤ call.since) × (call.since < time) × ((j : ℕ) → call.begun < j → held c (slot j) ≡ [])
PhaseHolds time slot c log (Landed call d) =
    (log.now ≡ Some call) × IsOf call d × (d.moment < time) × ((ds : List Deed) × (mine c slot time ≡ ds ++ d ∷ []) × Tell ds log.done None)

-- what becomes of the caller's calls
pub data Move : Type 0 where
  Begins : (call : Started) → Move
  Stays : Move
  Renews : Move
  Ends : (reply : SourceReply) → Move

abbrev pub moved : ℕ → Move → Log → Log
moved t (Begins call) log = record { done = log.done; now = Some call }
moved t Stays log = log
moved t Renews log = log_again true t log
moved t (Ends reply) log = log_ended t reply log.now log

-- and of its replies
abbrev pub said_by : Move → List SourceReply → List SourceReply
said_by (Begins call) rs = rs
said_by Stays rs = rs
said_by Renews rs = rs
said_by (Ends reply) rs = rs ++ reply ∷ []

abbrev pub phase_runs : Phase → Bool
phase_runs Resting = false
phase_runs (Working call) = true
phase_runs (Landed call d) = true

-- the event is an access of the caller's own, of its last generator run or of the list after it
pub record Open (A : Type 0) (T : Times A) (c : ℕ) (call : Started) (m : ℕ) : Type 0 where
  pub by : T.by m ≡ Some c
  pub since : call.since < m
  pub past : m < T.time

-- what an event does, which leaves the object as a, and is the access of a generator or a list of `who`, if of any
pub data Deal (A : Type 0) (step : Deed → A → Option A) (T : Times A) (c : ℕ) (who : Option ℕ) (a : A) : Phase → Option Deed → Move → Phase → Type 0 where
  begins : (call : Started) → call.begun ≡ T.time → call.since ≡ T.time → a ≡ T.past T.time → Deal A step T c who a Resting None (Begins call) (Working call)
  works : (call : Started) → a ≡ T.past T.time → Deal A step T c who a (Working call) None Stays (Working call)
  starts_over : (call : Started) → a ≡ T.past T.time → Deal A step T c who a (Working call) None Renews (Working (run_again T.time call))
  waits : (call : Started) (d : Deed) → a ≡ T.past T.time → Deal A step T c who a (Landed call d) None Stays (Landed call d)
  lands : (call : Started) (d : Deed) → who ≡ Some c → d.caller ≡ c → d.op ≡ call.op → d.arg ≡ call.arg → d.moment ≡ T.time → step d (T.past T.time) ≡ Some a
      → Deal A step T c who a (Working call) (Some d) Stays (Landed call d)
  ends : (call : Started) (d : Deed) (reply : SourceReply) → who ≡ Some c → d.caller ≡ c → d.op ≡ call.op → d.arg ≡ call.arg → d.moment ≡ T.time → step d (T.past T.time) ≡ Some a → reply ≡ reply_of d.reply
      → Deal A step T c who a (Working call) (Some d) (Ends reply) Resting
  settles : (call : Started) (d : Deed) (reply : SourceReply) → d.caller ≡ c → d.op ≡ call.op → d.arg ≡ call.arg → Open A T c call d.moment → step d (T.past d.moment) ≡ Some (T.past d.moment)
      → a ≡ T.past T.time → reply ≡ reply_of d.reply
      → Deal A step T c who a (Working call) (Some d) (Ends reply) Resting
  pays : (call : Started) (d : Deed) (reply : SourceReply) → a ≡ T.past T.time → reply ≡ reply_of d.reply → Deal A step T c who a (Landed call d) None (Ends reply) Resting
  quits : (call : Started) (reply : SourceReply) → a ≡ T.past T.time → gives_up reply ≡ true → Deal A step T c who a (Working call) None (Ends reply) Resting

some_ap : {A : Type 0} {x y : A} → x ≡ y → Some x ≡ Some y
some_ap e = ap (λ x. Some x) e

pub same_some : {A : Type 0} (x y : A) → Some x ≡ Some y → x ≡ y
same_some x y e = let z : Some x ≡ Some y = e in cc

-- what is true of earlier times stays so
past_kept : {A : Type 0} (T : Times A) (who : Option ℕ) (a : A) (t : ℕ) → t ≤ T.time → (ticked T who a).past t ≡ T.past t
past_kept T who a t le = put_other T.past (suc T.time) t a (λ e. let no : ⊥ = omega (arith, e, le) in no)

by_kept : {A : Type 0} (T : Times A) (who : Option ℕ) (a : A) (t : ℕ) → t < T.time → (ticked T who a).by t ≡ T.by t
by_kept T who a t lt = put_other T.by T.time t who (λ e. let no : ⊥ = omega (arith, e, lt) in no)

-- the same deed leads the same way
fits_kept : {A : Type 0} (step : Deed → A → Option A) (T : Times A) (who : Option ℕ) (a : A) (o : Option Deed) (t : ℕ) → t < T.time → goes_by step o (T.past t) ≡ Some (T.past (suc t))
    → goes_by step o ((ticked T who a).past t) ≡ Some ((ticked T who a).past (suc t))
fits_kept step T who a o t lt is =
    ap (goes_by step o) (past_kept T who a t (omega (arith, lt))) ∙ (is ∙ some_ap (sym (past_kept T who a (suc t) (omega (arith, lt)))))

fits_now : {A : Type 0} (step : Deed → A → Option A) (T : Times A) (who : Option ℕ) (a : A) (o : Option Deed) (t : ℕ) → t ≡ T.time → goes_by step o (T.past T.time) ≡ Some a
    → goes_by step o ((ticked T who a).past t) ≡ Some ((ticked T who a).past (suc t))
fits_now step T who a o t e is =
    let now : (ticked T who a).past t ≡ T.past T.time = past_kept T who a t (omega (arith, e)) ∙ ap T.past e in
    let next : (ticked T who a).past (suc t) ≡ a = ap (λ k. (ticked T who a).past (suc k)) e ∙ put_same T.past (suc T.time) a in
    ap (goes_by step o) now ∙ (is ∙ some_ap (sym next))

-- the slots of the time before keep what they say
books_tick : {A : Type 0} (step : Deed → A → Option A) (T : Times A) (who : Option ℕ) (a : A) (slot : Slots) → Books A step T slot → a ≡ T.past T.time → Books A step (ticked T who a) slot
books_tick step T who a slot b e = record {
  fits = λ t lt. ⊎_elim
      (λ (old : t < T.time). fits_kept step T who a (slot t) t old (b.fits t old))
      (λ (new : T.time ≤ t).
      let same : t ≡ T.time = omega (arith, new, lt) in
      fits_now step T who a (slot t) t same (ap (λ o. goes_by step o (T.past T.time)) (b.later t new) ∙ some_ap (sym e)))
      (cases_lt t T.time);
  later = λ t le. b.later t (omega (arith, le));
  moment = b.moment;
  caller = λ t d is. ⊎_elim
      (λ (old : t < T.time). by_kept T who a t old ∙ b.caller t d is)
      (λ (new : T.time ≤ t). absurd (let z : None ≡ Some d = sym (b.later t new) ∙ is in cc))
      (cases_lt t T.time);
}

-- a deed of this event
books_now : {A : Type 0} (step : Deed → A → Option A) (T : Times A) (c : ℕ) (who : Option ℕ) (a : A) (slot : Slots) (d : Deed) → Books A step T slot → who ≡ Some c → d.caller ≡ c → d.moment ≡ T.time → step d (T.past T.time) ≡ Some a
    → Books A step (ticked T who a) (put slot d.moment (Some d))
books_now step T c who a slot d b its own at is = record {
  fits = each_put (λ t (o : Option Deed). t < suc T.time → goes_by step o ((ticked T who a).past t) ≡ Some ((ticked T who a).past (suc t))) slot d.moment (Some d)
      (λ lt. fits_now step T who a (Some d) d.moment at is)
      (λ t ne lt. let old : t < T.time = (let far : t ≢ T.time = (λ e. ne (e ∙ sym at)) in omega (arith, lt, far)) in fits_kept step T who a (slot t) t old (b.fits t old));
  later = each_put (λ t (o : Option Deed). suc T.time ≤ t → o ≡ None) slot d.moment (Some d) (λ le. absurd (let no : ⊥ = omega (arith, at, le) in no)) (λ t ne le. b.later t (omega (arith, le)));
  moment = each_put (λ t (o : Option Deed). (e : Deed) → o ≡ Some e → e.moment ≡ t) slot d.moment (Some d)
      (λ e is. ap (λ (x : Deed). x.moment) (sym (same_some d e is))) (λ t ne. b.moment t);
  caller = each_put (λ t (o : Option Deed). (e : Deed) → o ≡ Some e → (ticked T who a).by t ≡ Some e.caller) slot d.moment (Some d)
      (λ e is. ap (ticked T who a).by at ∙ (put_same T.by T.time who ∙ (its ∙ (some_ap (sym own) ∙ ap (λ (x : Deed). Some x.caller) (same_some d e is)))))
      (λ t ne e is. ⊎_elim
      (λ (old : t < T.time). by_kept T who a t old ∙ b.caller t e is)
      (λ (new : T.time ≤ t). absurd (let z : None ≡ Some e = sym (b.later t new) ∙ is in cc))
      (cases_lt t T.time));
}

-- a deed of an earlier event, that changes nothing
books_settled : {A : Type 0} (step : Deed → A → Option A) (T : Times A) (c : ℕ) (who : Option ℕ) (a : A) (slot : Slots) (d : Deed) → Books A step (ticked T who a) slot → d.caller ≡ c → d.moment < T.time → T.by d.moment ≡ Some c → slot d.moment ≡ None
    → step d (T.past d.moment) ≡ Some (T.past d.moment) → Books A step (ticked T who a) (put slot d.moment (Some d))
books_settled step T c who a slot d b own lt by free is = record {
  fits = each_put (λ t (o : Option Deed). t < suc T.time → goes_by step o ((ticked T who a).past t) ≡ Some ((ticked T who a).past (suc t))) slot d.moment (Some d)
      (λ less.
      let p = (ticked T who a).past in
      let stays : Some (p d.moment) ≡ Some (p (suc d.moment)) = sym (ap (λ o. goes_by step o (p d.moment)) free) ∙ b.fits d.moment less in
      let was : p d.moment ≡ T.past d.moment = past_kept T who a d.moment (omega (arith, lt)) in
      ap (step d) was ∙ (is ∙ (some_ap (sym was) ∙ stays)))
      (λ t ne. b.fits t);
  later = each_put (λ t (o : Option Deed). suc T.time ≤ t → o ≡ None) slot d.moment (Some d) (λ le. absurd (let no : ⊥ = omega (arith, lt, le) in no)) (λ t ne. b.later t);
  moment = each_put (λ t (o : Option Deed). (e : Deed) → o ≡ Some e → e.moment ≡ t) slot d.moment (Some d)
      (λ e is. ap (λ (x : Deed). x.moment) (sym (same_some d e is))) (λ t ne. b.moment t);
  caller = each_put (λ t (o : Option Deed). (e : Deed) → o ≡ Some e → (ticked T who a).by t ≡ Some e.caller) slot d.moment (Some d)
      (λ e is. by_kept T who a d.moment lt ∙ (by ∙ (some_ap (sym own) ∙ ap (λ (x : Deed). Some x.caller) (same_some d e is))))
      (λ t ne. b.caller t);
}

-- what an event leaves written down
pub record Left (A : Type 0) (step : Deed → A → Option A) (T : Times A) (slot slot' : Slots) (c : ℕ) (who : Option ℕ) (a : A) (log : Log) (phase : Phase) : Type 0 where
  pub books : Books A step (ticked T who a) slot'
  pub holds : PhaseHolds (suc T.time) slot' c log phase
  -- the other callers' slots stay
  pub others : (e : ℕ) → e ≢ c → (j : ℕ) → held e (slot' j) ≡ held e (slot j)

-- the event's own slot is new
mine_tick : {A : Type 0} (step : Deed → A → Option A) (T : Times A) (slot : Slots) (c : ℕ) → Books A step T slot → mine c slot (suc T.time) ≡ mine c slot T.time
mine_tick step T slot c b = mine_next c slot T.time ∙ (ap (λ k. mine c slot T.time ++ k) (held_none c (slot T.time) (b.later T.time (omega arith))) ∙ append_none (mine c slot T.time))

-- a slot that isn't the caller's, of an event of the caller's own, is empty
pub free_slot : {A : Type 0} (step : Deed → A → Option A) (T : Times A) (slot : Slots) (c m : ℕ) → Books A step T slot → T.by m ≡ Some c → held c (slot m) ≡ [] → slot m ≡ None
free_slot step T slot c m b own none = of (slot m) refl where
  of : (o : Option Deed) → slot m ≡ o → o ≡ None
  of None e = refl
  of (Some d) e = absurd (let z : d ∷ [] ≡ [] = sym (held_same c d (same_some d.caller c (sym (b.caller m d e) ∙ own))) ∙ (ap (held c) (sym e) ∙ none) in cc)

-- the caller's deeds with one more
mine_deed : {A : Type 0} (step : Deed → A → Option A) (T : Times A) (slot : Slots) (c m : ℕ) (d : Deed) → Books A step T slot → m < suc T.time → slot m ≡ None → d.caller ≡ c → ((j : ℕ) → m < j → held c (slot j) ≡ [])
    → mine c (put slot m (Some d)) (suc T.time) ≡ mine c slot T.time ++ d ∷ []
mine_deed step T slot c m d b lt free own after = mine_put c slot m d (suc T.time) lt free own after ∙ ap (λ k. k ++ d ∷ []) (mine_tick step T slot c b)

tell_as : (ds ds' : List Deed) (es : List Ended) (now : Option Started) → ds' ≡ ds → Tell ds es now → Tell ds' es now
tell_as ds ds' es now e k = subst (λ x. Tell x es now) (sym e) k

later_held : {A : Type 0} (step : Deed → A → Option A) (T : Times A) (slot : Slots) (c : ℕ) → Books A step T slot → (j : ℕ) → T.time ≤ j → held c (slot j) ≡ []
later_held step T slot c b j le = held_none c (slot j) (b.later j le)

pub ended_log : (t : ℕ) (reply : SourceReply) (call : Started) (log : Log) → log.now ≡ Some call → log_ended t reply log.now log ≡ record { done = log.done ++ record { call = call; reply = reply; at = t } ∷ []; now = None }
ended_log t reply call log e = ap (λ o. log_ended t reply o log) e

-- the call that ends has its deed, or has given up
rests : (time t : ℕ) (slot : Slots) (c : ℕ) (reply : SourceReply) (call : Started) (log : Log) → log.now ≡ Some call → Tell (mine c slot time) (log.done ++ record { call = call; reply = reply; at = t } ∷ []) None
    → PhaseHolds time slot c (log_ended t reply log.now log) Resting
rests time t slot c reply call log e k = subst (λ (l : Log). PhaseHolds time slot c l Resting) (sym (ended_log t reply call log e)) (refl, k)

pub dealt : {A : Type 0} (step : Deed → A → Option A) (T : Times A) (slot : Slots) (c : ℕ) (who : Option ℕ) (a : A) (log : Log) (phase : Phase) (deed : Option Deed) (move : Move) (phase' : Phase)
    → Books A step T slot → PhaseHolds T.time slot c log phase → Deal A step T c who a phase deed move phase' → Left A step T slot (filled deed slot) c who a (moved T.time move log) phase'
dealt step T slot c who a log phase deed move phase' b k (begins call at since same) = record {
  books = books_tick step T who a slot b same;
  holds = (
    refl,
    tell_as (mine c slot T.time) (mine c slot (suc T.time)) log.done None (mine_tick step T slot c b) k.1,
    omega (arith, at, since),
    omega (arith, since),
    λ j lt. later_held step T slot c b j (omega (arith, lt, at)),
  );
  others = λ e ne j. refl;
}
dealt step T slot c who a log phase deed move phase' b k (works call same) = record {
  books = books_tick step T who a slot b same;
  holds = (k.0, tell_as (mine c slot T.time) (mine c slot (suc T.time)) log.done None (mine_tick step T slot c b) k.1, k.2, (let lt = k.3 in omega (arith, lt)), k.4);
  others = λ e ne j. refl;
}
dealt step T slot c who a log phase deed move phase' b k (starts_over call same) = record {
  books = books_tick step T who a slot b same;
  holds = (
    ap (again_now T.time) k.0,
    tell_as (mine c slot T.time) (mine c slot (suc T.time)) log.done None (mine_tick step T slot c b) k.1,
    (let le = k.2 in let lt = k.3 in omega (arith, le, lt)),
    omega arith,
    k.4,
  );
  others = λ e ne j. refl;
}
dealt step T slot c who a log phase deed move phase' b k (waits call d same) = record {
  books = books_tick step T who a slot b same;
  holds = (k.0, k.1, (let lt = k.2 in omega (arith, lt)), (k.3.0, mine_tick step T slot c b ∙ k.3.1, k.3.2));
  others = λ e ne j. refl;
}
dealt step T slot c who a log phase deed move phase' b k (lands call d its own op arg at is) = record {
  books = books_now step T c who a slot d b its own at is;
  holds = (
    k.0,
    record { op = op; arg = arg; begun = (let le = k.2 in let lt = k.3 in omega (arith, le, lt, at)); since = (let lt = k.3 in omega (arith, lt, at)) },
    omega (arith, at),
    (mine c slot T.time, mine_deed step T slot c d.moment d b (omega (arith, at)) (b.later d.moment (omega (arith, at))) own (λ j lt. later_held step T slot c b j (omega (arith, lt, at))), k.1),
  );
  others = λ e ne j. away_put e slot d.moment d (b.later d.moment (omega (arith, at))) (λ same. ne (sym same ∙ own)) j;
}
dealt step T slot c who a log phase deed move phase' b k (ends call d reply its own op arg at is says) = record {
  books = books_now step T c who a slot d b its own at is;
  holds = rests (suc T.time) T.time (put slot d.moment (Some d)) c reply call log k.0
      (tell_as (mine c slot T.time ++ d ∷ []) (mine c (put slot d.moment (Some d)) (suc T.time)) (log.done ++ record { call = call; reply = reply; at = T.time } ∷ []) None
      (mine_deed step T slot c d.moment d b (omega (arith, at)) (b.later d.moment (omega (arith, at))) own (λ j lt. later_held step T slot c b j (omega (arith, lt, at))))
      (tell_ended (mine c slot T.time) log.done d (record { call = call; reply = reply; at = T.time }) k.1
      (record {
        call = record { op = op; arg = arg; begun = (let le = k.2 in let lt = k.3 in omega (arith, le, lt, at)); since = (let lt = k.3 in omega (arith, lt, at)) };
        reply = says;
        ended = omega (arith, at);
      })));
  others = λ e ne j. away_put e slot d.moment d (b.later d.moment (omega (arith, at))) (λ same. ne (sym same ∙ own)) j;
}
dealt step T slot c who a log phase deed move phase' b k (settles call d reply own op arg open_ is same says) =
    let past = open_.past in
    let since = open_.since in
    let le = k.2 in
    let begun : call.begun < d.moment = omega (arith, since, le) in
    let free : slot d.moment ≡ None = free_slot step T slot c d.moment b open_.by (k.4 d.moment begun) in
    record {
      books = books_settled step T c who a slot d (books_tick step T who a slot b same) own open_.past open_.by free is;
      holds = rests (suc T.time) T.time (put slot d.moment (Some d)) c reply call log k.0
          (tell_as (mine c slot T.time ++ d ∷ []) (mine c (put slot d.moment (Some d)) (suc T.time)) (log.done ++ record { call = call; reply = reply; at = T.time } ∷ []) None
          (mine_deed step T slot c d.moment d b (omega (arith, past)) free own (λ j lt. k.4 j (omega (arith, lt, begun))))
          (tell_ended (mine c slot T.time) log.done d (record { call = call; reply = reply; at = T.time }) k.1
          (record { call = record { op = op; arg = arg; begun = begun; since = open_.since }; reply = says; ended = omega (arith, past) })));
      others = λ e ne j. away_put e slot d.moment d free (λ same. ne (sym same ∙ own)) j;
    }
dealt step T slot c who a log phase deed move phase' b k (pays call d reply same is) = record {
  books = books_tick step T who a slot b same;
  holds = rests (suc T.time) T.time slot c reply call log k.0
      (tell_as (k.3.0 ++ d ∷ []) (mine c slot (suc T.time)) (log.done ++ record { call = call; reply = reply; at = T.time } ∷ []) None
      (mine_tick step T slot c b ∙ k.3.1)
      (tell_ended k.3.0 log.done d (record { call = call; reply = reply; at = T.time }) k.3.2
      (record { call = k.1; reply = is; ended = (let lt = k.2 in omega (arith, lt)) })));
  others = λ e ne j. refl;
}
dealt step T slot c who a log phase deed move phase' b k (quits call reply same gives) = record {
  books = books_tick step T who a slot b same;
  holds = rests (suc T.time) T.time slot c reply call log k.0
      (tell_as (mine c slot T.time) (mine c slot (suc T.time)) (log.done ++ record { call = call; reply = reply; at = T.time } ∷ []) None
      (mine_tick step T slot c b)
      (tell_gave_up (mine c slot T.time) log.done (record { call = call; reply = reply; at = T.time }) k.1 gives));
  others = λ e ne j. refl;
}

-- what holds of another caller's calls
pub phase_kept : {A : Type 0} (step : Deed → A → Option A) (T : Times A) (slot slot' : Slots) (e : ℕ) (log : Log) (phase : Phase) → Books A step T slot → ((j : ℕ) → held e (slot' j) ≡ held e (slot j))
    → PhaseHolds T.time slot e log phase → PhaseHolds (suc T.time) slot' e log phase
phase_kept step T slot slot' e log phase b same = of phase where
  all : mine e slot' (suc T.time) ≡ mine e slot T.time
  all = mine_same e slot slot' (suc T.time) (λ j lt. same j) ∙ mine_tick step T slot e b

  of : (p : Phase) → PhaseHolds T.time slot e log p → PhaseHolds (suc T.time) slot' e log p
  of Resting k = (k.0, tell_as (mine e slot T.time) (mine e slot' (suc T.time)) log.done None all k.1)
  of (Working call) k =
      (k.0, tell_as (mine e slot T.time) (mine e slot' (suc T.time)) log.done None all k.1, k.2, (let lt = k.3 in omega (arith, lt)), λ j lt. same j ∙ k.4 j lt)
  of (Landed call d) k = (k.0, k.1, (let lt = k.2 in omega (arith, lt)), (k.3.0, all ∙ k.3.1, k.3.2))

-- what the phase says of the caller's deeds
pub phase_tells : (time : ℕ) (slot : Slots) (c : ℕ) (log : Log) (phase : Phase) → PhaseHolds time slot c log phase → Tell (mine c slot time) log.done log.now
phase_tells time slot c log Resting k = subst (λ o. Tell (mine c slot time) log.done o) (sym k.0) k.1
phase_tells time slot c log (Working call) k = subst (λ o. Tell (mine c slot time) log.done o) (sym k.0) (tell_runs (mine c slot time) log.done call k.1)
phase_tells time slot c log (Landed call d) k =
    subst (λ o. Tell (mine c slot time) log.done o) (sym k.0)
    (subst (λ ds. Tell ds log.done (Some call)) (sym k.3.1) (tell_landed k.3.0 log.done d call k.3.2 k.1))

-- the deeds of the first so many events are legal, and lead to what the object was then
pub books_legal : {A : Type 0} (step : Deed → A → Option A) (T : Times A) (slot : Slots) → Books A step T slot → (n : ℕ) → n ≤ T.time → after_deeds step (deeds_to slot n) (Some (T.past 0)) ≡ Some (T.past n)
books_legal step T slot b zero le = refl
books_legal step T slot b (suc n) le =
    let rest : after_deeds step (deeds_to slot n) (Some (T.past 0)) ≡ Some (T.past n) = books_legal step T slot b n (omega (arith, le)) in
    after_append step (deeds_to slot n) (listed (slot n)) (Some (T.past 0))
    ∙ (ap (after_deeds step (listed (slot n))) rest ∙ (of (slot n) ∙ b.fits n (omega (arith, le)))) where
      of : (o : Option Deed) → after_deeds step (listed o) (Some (T.past n)) ≡ goes_by step o (T.past n)
      of None = refl
      of (Some d) = refl

rise_more : (low n : ℕ) (ds : List Deed) → RiseFrom low n ds → RiseFrom low (suc n) ds
rise_more low n [] k = tt
rise_more low n (d ∷ ds) k = (k.0, (let lt = k.1 in omega (arith, lt)), rise_more (d.moment + 1) n ds k.2)

rise_push : (low n : ℕ) (ds : List Deed) (d : Deed) → RiseFrom low n ds → low ≤ n → d.moment ≡ n → RiseFrom low (suc n) (ds ++ d ∷ [])
rise_push low n [] d k le at = (omega (arith, le, at), omega (arith, at), tt)
rise_push low n (x ∷ ds) d k le at = let lt = k.1 in (k.0, omega (arith, lt), rise_push (x.moment + 1) n ds d k.2 (omega (arith, lt)) at)

pub books_rise : {A : Type 0} (step : Deed → A → Option A) (T : Times A) (slot : Slots) → Books A step T slot → (n : ℕ) → RiseFrom 0 n (deeds_to slot n)
books_rise step T slot b zero = tt
books_rise step T slot b (suc n) = of (slot n) refl (books_rise step T slot b n) where
  of : (o : Option Deed) → slot n ≡ o → RiseFrom 0 n (deeds_to slot n) → RiseFrom 0 (suc n) (deeds_to slot n ++ listed o)
  of None e rest = subst (RiseFrom 0 (suc n)) (sym (append_none (deeds_to slot n))) (rise_more 0 n (deeds_to slot n) rest)
  of (Some d) e rest = rise_push 0 n (deeds_to slot n) d rest (omega arith) (b.moment n d e)

own_push : (by : ℕ → Option ℕ) (ds : List Deed) (d : Deed) → AreOwn by ds → by d.moment ≡ Some d.caller → AreOwn by (ds ++ d ∷ [])
own_push by [] d k is = (is, tt)
own_push by (x ∷ ds) d k is = (k.0, own_push by ds d k.1 is)

pub books_own : {A : Type 0} (step : Deed → A → Option A) (T : Times A) (slot : Slots) → Books A step T slot → (n : ℕ) → AreOwn T.by (deeds_to slot n)
books_own step T slot b zero = tt
books_own step T slot b (suc n) = of (slot n) refl (books_own step T slot b n) where
  of : (o : Option Deed) → slot n ≡ o → AreOwn T.by (deeds_to slot n) → AreOwn T.by (deeds_to slot n ++ listed o)
  of None e rest = subst (AreOwn T.by) (sym (append_none (deeds_to slot n))) rest
  of (Some d) e rest = own_push T.by (deeds_to slot n) d rest (ap T.by (b.moment n d e) ∙ b.caller n d e)

-- a call runs exactly if the phase says so
pub phase_now : (time : ℕ) (slot : Slots) (c : ℕ) (log : Log) (phase : Phase) → PhaseHolds time slot c log phase → phase_runs phase ≡ is_some log.now
phase_now time slot c log Resting k = ap is_some (sym k.0)
phase_now time slot c log _ k = ap is_some (sym k.0)

pub map_push : (es : List Ended) (e : Ended) → map replied_with (es ++ e ∷ []) ≡ map replied_with es ++ e.reply ∷ []
map_push [] e = refl
map_push (x ∷ es) e = ap (λ rs. x.reply ∷ rs) (map_push es e)

ended_replies : (t : ℕ) (reply : SourceReply) (call : Started) (log : Log) → log.now ≡ Some call → map replied_with (log_ended t reply log.now log).done ≡ map replied_with log.done ++ reply ∷ []
ended_replies t reply call log e = ap (λ (l : Log). map replied_with l.done) (ended_log t reply call log e) ∙ map_push log.done (record { call = call; reply = reply; at = t })

-- the replies of the calls that ended are those that were said
pub replies_moved : {A : Type 0} (step : Deed → A → Option A) (T : Times A) (slot : Slots) (c : ℕ) (who : Option ℕ) (a : A) (log : Log) (phase : Phase) (deed : Option Deed) (move : Move) (phase' : Phase)
    → PhaseHolds T.time slot c log phase → Deal A step T c who a phase deed move phase' → map replied_with (moved T.time move log).done ≡ said_by move (map replied_with log.done)
replies_moved step T slot c who a log phase deed move phase' k (begins call at since same) = refl
replies_moved step T slot c who a log phase deed move phase' k (works call same) = refl
replies_moved step T slot c who a log phase deed move phase' k (starts_over call same) = refl
replies_moved step T slot c who a log phase deed move phase' k (waits call d same) = refl
replies_moved step T slot c who a log phase deed move phase' k (lands call d its own op arg at is) = refl
replies_moved step T slot c who a log phase deed move phase' k (ends call d reply its own op arg at is says) = ended_replies T.time reply call log k.0
replies_moved step T slot c who a log phase deed move phase' k (settles call d reply own op arg open_ is same says) = ended_replies T.time reply call log k.0
replies_moved step T slot c who a log phase deed move phase' k (pays call d reply same is) = ended_replies T.time reply call log k.0
replies_moved step T slot c who a log phase deed move phase' k (quits call reply same gives) = ended_replies T.time reply call log k.0

-- a deed is of this event or an earlier one
pub deal_moment : {A : Type 0} (step : Deed → A → Option A) (T : Times A) (c : ℕ) (who : Option ℕ) (a : A) (phase : Phase) (deed : Option Deed) (move : Move) (phase' : Phase) → Deal A step T c who a phase deed move phase'
    → (d : Deed) → deed ≡ Some d → d.moment < suc T.time
deal_moment step T c who a phase deed move phase' (begins call at since same) x e = absurd (let z : None ≡ Some x = e in cc)
deal_moment step T c who a phase deed move phase' (works call same) x e = absurd (let z : None ≡ Some x = e in cc)
deal_moment step T c who a phase deed move phase' (starts_over call same) x e = absurd (let z : None ≡ Some x = e in cc)
deal_moment step T c who a phase deed move phase' (waits call d same) x e = absurd (let z : None ≡ Some x = e in cc)
deal_moment step T c who a phase deed move phase' (lands call d its own op arg at is) x e = subst (λ (y : Deed). y.moment < suc T.time) (same_some d x e) (omega (arith, at))
deal_moment step T c who a phase deed move phase' (ends call d reply its own op arg at is says) x e = subst (λ (y : Deed). y.moment < suc T.time) (same_some d x e) (omega (arith, at))
deal_moment step T c who a phase deed move phase' (settles call d reply own op arg open_ is same says) x e = subst (λ (y : Deed). y.moment < suc T.time) (same_some d x e) (let lt = open_.past in omega (arith, lt))
deal_moment step T c who a phase deed move phase' (pays call d reply same is) x e = absurd (let z : None ≡ Some x = e in cc)
deal_moment step T c who a phase deed move phase' (quits call reply same gives) x e = absurd (let z : None ≡ Some x = e in cc)
