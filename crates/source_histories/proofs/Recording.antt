-- What each event keeps of a run and of what is written down of it.
use Rattle.std.proofs.Common.{ℕ, zero, suc, ◌≡◌, ◌≢◌, ◌∙◌, Bool, true, false, cond, List, [], ◌∷◌, map, replicate, Option, Some, None, is_some, sym, ap, subst, refl, ⊎_elim, arith}
use Rattle.std.specs.Prelude.{slice_get, slice_set}
use Rattle.std.proofs.lemmas.Bool.{cases_eq}
use Rattle.norm_lang.specs.declared.text.Text.{Text}
use Rattle.source_machine.specs.declared.event.SourceEvent.{SourceEvent}
use Rattle.source_machine.specs.declared.state.Memory.{Memory}
use Rattle.source_machine.specs.declared.state.SourceCaller.{SourceCaller}
use Rattle.source_machine.specs.declared.state.SourceMachine.{SourceMachine}
use Rattle.source_machine.specs.State.{first_memory, idle_caller}
use Rattle.source_machine.specs.Step.{Turn, performed, caller_turn}
use Rattle.source_machine.specs.Run.{mover, with_turn, step_of, is_enabled, is_enabled_by, is_enabled_for, source_step, source_run, IsSourceRun}
use Rattle.source_machine.specs.MethodRuns.{put}
use Rattle.source_machine.proofs.Places.{put_same, put_other, each_set}
use Rattle.source_histories.specs.declared.deed.Deed.{Deed}
use Rattle.source_histories.specs.Deeds.{deeds_in, of_caller, AreLegal, after_deeds}
use Rattle.source_histories.specs.declared.deed.Notes.{Notes}
use Rattle.source_histories.specs.declared.deed.Noted.{Noted}
use Rattle.source_histories.specs.Books.{Rules, accesses, noted_of, written, Log, replied_with, logged, Book, book_start, book_turned, book_by, book_step, book_run, book_of, no_notes}
use Rattle.source_histories.specs.Answers.{Tell, RiseFrom, AreOwn, AnswersAs}
use Rattle.source_histories.proofs.Lists.{Slots, deeds_to, slots_to, filled, deeds_of_slots, slots_written}
use Rattle.source_histories.proofs.Dealing.{Times, ticked, Books, Phase, Resting, PhaseHolds, Move, moved, said_by, phase_runs, Deal, Left, dealt, phase_kept, phase_tells, phase_now, replies_moved, deal_moment, books_legal, books_rise, books_own}

-- what holds of a run and of what is written down of it
pub record Recorded (A S : Type 0) (first : A) (step : Deed → A → Option A) (memory_of : S → Memory) (Fine : S → Type 0) (object : S → A) (Knows : S → Times A → Notes → Phase → ℕ → SourceCaller → Type 0) (b : Book) : Type 0 where
  pub s : S
  pub past : ℕ → A
  pub slot : Slots
  pub phase : ℕ → Phase
  pub slots : b.slots ≡ slots_to slot b.time
  pub memory : b.machine.memory ≡ memory_of s
  pub fine : Fine s
  pub start : past 0 ≡ first
  pub now : object s ≡ past b.time
  pub books : Books A step (record { time = b.time; past = past; by = b.by }) slot
  pub phases : (c : ℕ) → PhaseHolds b.time slot c (b.log c) (phase c)
  pub knows : (c : ℕ) (caller : SourceCaller) → slice_get b.machine.callers c ≡ Some caller → Knows s (record { time = b.time; past = past; by = b.by }) (b.notes c) (phase c) c caller
  pub replied : (c : ℕ) (caller : SourceCaller) → slice_get b.machine.callers c ≡ Some caller → caller.replies ≡ map replied_with (b.log c).done

-- an event of a caller: what it does to memory and to the caller, what it tells, and what it does to what is written down
pub record Dealt (text : Text) (rules : Rules) (A S : Type 0) (step : Deed → A → Option A) (memory_of : S → Memory) (Fine : S → Type 0) (object : S → A) (Knows : S → Times A → Notes → Phase → ℕ → SourceCaller → Type 0)
    (Goes : ℕ → S → S → Type 0) (event : SourceEvent) (c : ℕ) (s : S) (T : Times A) (notes : Notes) (phase : Phase) (caller : SourceCaller) : Type 0 where
  pub s' : S
  pub after : SourceCaller
  pub noted : Noted
  pub move : Move
  pub phase' : Phase
  pub turn : caller_turn text event (memory_of s) caller ≡ record { memory = memory_of s'; caller = after }
  pub tells : noted_of rules event T.time notes caller.running after ≡ noted
  pub said : after.replies ≡ said_by move caller.replies
  pub logs : (log : Log) → logged event T.time caller.running after log ≡ moved T.time move log
  pub fine : Fine s'
  pub goes : Goes c s s'
  pub deal : Deal A step T c (accesses event caller.running) (object s') phase noted.deed move phase'
  pub knows : Knows s' (ticked T (accesses event caller.running) (object s')) noted.notes phase' c after

-- the book after an event, by what it tells
abbrev pub book_left : Text → Book → SourceEvent → Option ℕ → Noted → Log → Book
book_left text b event who noted log = record {
  machine = source_step text b.machine event;
  time = suc b.time;
  by = put b.by b.time who;
  slots = written noted.deed b.slots;
  notes = put b.notes (mover event) noted.notes;
  log = put b.log (mover event) log;
}

pub step_is : (text : Text) (event : SourceEvent) (m : SourceMachine) (caller : SourceCaller) (t : Turn) → slice_get m.callers (mover event) ≡ Some caller → caller_turn text event m.memory caller ≡ t
    → source_step text m event ≡ record { memory = t.memory; callers = slice_set m.callers (mover event) t.caller }
step_is text event m caller t at is = ap (λ o. step_of text event o m) at ∙ ap (λ (k : Turn). with_turn m (mover event) k) is

module _ (text : Text) (rules : Rules) (A S : Type 0) (first : A) (step : Deed → A → Option A) (memory_of : S → Memory) (Fine : S → Type 0) (object : S → A) (Knows : S → Times A → Notes → Phase → ℕ → SourceCaller → Type 0)
    (Goes : ℕ → S → S → Type 0) where
  unfoldable pub left : ((c d : ℕ) (who : Option ℕ) (s s' : S) (T : Times A) (notes : Notes) (phase : Phase) (caller : SourceCaller) → Goes c s s' → Fine s → d ≢ c → Knows s T notes phase d caller → Knows s' (ticked T who (object s')) notes phase d caller)
      → (event : SourceEvent) (b : Book) (caller : SourceCaller) → slice_get b.machine.callers (mover event) ≡ Some caller → (r : Recorded A S first step memory_of Fine object Knows b)
      → (k : Dealt text rules A S step memory_of Fine object Knows Goes event (mover event) r.s (record { time = b.time; past = r.past; by = b.by }) (b.notes (mover event)) (r.phase (mover event)) caller)
      → Recorded A S first step memory_of Fine object Knows (book_left text b event (accesses event caller.running) k.noted (moved b.time k.move (b.log (mover event))))
  left stable event b caller at r k = record {
    s = k.s';
    past = put r.past (suc b.time) (object k.s');
    slot = filled k.noted.deed r.slot;
    slots = ap (written k.noted.deed) r.slots ∙ slots_written r.slot b.time k.noted.deed (r.books.later b.time (omega arith)) (deal_moment step T (mover event) (accesses event caller.running) (object k.s') (r.phase (mover event)) k.noted.deed k.move k.phase' k.deal);
    phase = put r.phase (mover event) k.phase';
    memory = ap (λ (m : SourceMachine). m.memory) stepped;
    fine = k.fine;
    start = put_other r.past (suc b.time) 0 (object k.s') (λ e. let no : ⊥ = omega (arith, e) in no) ∙ r.start;
    now = sym (put_same r.past (suc b.time) (object k.s'));
    books = l.books;
    phases = λ d. ⊎_elim
        (λ (e : d ≡ mover event).
        subst (λ i. PhaseHolds (suc b.time) (filled k.noted.deed r.slot) i (put b.log (mover event) (moved b.time k.move (b.log (mover event))) i) (put r.phase (mover event) k.phase' i)) (sym e)
        (subst (λ (x : Log). PhaseHolds (suc b.time) (filled k.noted.deed r.slot) (mover event) x (put r.phase (mover event) k.phase' (mover event))) (sym (put_same b.log (mover event) (moved b.time k.move (b.log (mover event)))))
        (subst (PhaseHolds (suc b.time) (filled k.noted.deed r.slot) (mover event) (moved b.time k.move (b.log (mover event)))) (sym (put_same r.phase (mover event) k.phase')) l.holds)))
        (λ (ne : d ≢ mover event).
        subst (λ (x : Log). PhaseHolds (suc b.time) (filled k.noted.deed r.slot) d x (put r.phase (mover event) k.phase' d)) (sym (put_other b.log (mover event) d (moved b.time k.move (b.log (mover event))) ne))
        (subst (PhaseHolds (suc b.time) (filled k.noted.deed r.slot) d (b.log d)) (sym (put_other r.phase (mover event) d k.phase' ne))
        (phase_kept step T r.slot (filled k.noted.deed r.slot) d (b.log d) (r.phase d) r.books (l.others d ne) (r.phases d))))
        (cases_eq d (mover event));
    knows = λ d y there.
        each_set (λ i (z : SourceCaller). Knows k.s' T' (put b.notes (mover event) k.noted.notes i) (put r.phase (mover event) k.phase' i) i z) b.machine.callers (mover event) k.after
        (subst (λ (n : Notes). Knows k.s' T' n (put r.phase (mover event) k.phase' (mover event)) (mover event) k.after) (sym (put_same b.notes (mover event) k.noted.notes))
        (subst (λ (p : Phase). Knows k.s' T' k.noted.notes p (mover event) k.after) (sym (put_same r.phase (mover event) k.phase')) k.knows))
        (λ i z ne was.
        subst (λ (n : Notes). Knows k.s' T' n (put r.phase (mover event) k.phase' i) i z) (sym (put_other b.notes (mover event) i k.noted.notes ne))
        (subst (λ (p : Phase). Knows k.s' T' (b.notes i) p i z) (sym (put_other r.phase (mover event) i k.phase' ne))
        (stable (mover event) i (accesses event caller.running) r.s k.s' T (b.notes i) (r.phase i) z k.goes r.fine ne (r.knows i z was))))
        d y (ap (λ (m : SourceMachine). slice_get m.callers d) (sym stepped) ∙ there);
    replied = λ d y there.
        each_set (λ i (z : SourceCaller). z.replies ≡ map replied_with (put b.log (mover event) (moved b.time k.move (b.log (mover event))) i).done) b.machine.callers (mover event) k.after
        (k.said ∙ (ap (said_by k.move) (r.replied (mover event) caller at)
        ∙ (sym (replies_moved step T r.slot (mover event) (accesses event caller.running) (object k.s') (b.log (mover event)) (r.phase (mover event)) k.noted.deed k.move k.phase' (r.phases (mover event)) k.deal)
        ∙ ap (λ (l : Log). map replied_with l.done) (sym (put_same b.log (mover event) (moved b.time k.move (b.log (mover event))))))))
        (λ i z ne was. r.replied i z was ∙ ap (λ (l : Log). map replied_with l.done) (sym (put_other b.log (mover event) i (moved b.time k.move (b.log (mover event))) ne)))
        d y (ap (λ (m : SourceMachine). slice_get m.callers d) (sym stepped) ∙ there);
  } where
    T : Times A
    T = record { time = b.time; past = r.past; by = b.by }

    T' : Times A
    T' = ticked (record { time = b.time; past = r.past; by = b.by }) (accesses event caller.running) (object k.s')

    turn : caller_turn text event b.machine.memory caller ≡ record { memory = memory_of k.s'; caller = k.after }
    turn = ap (λ (m : Memory). caller_turn text event m caller) r.memory ∙ k.turn

    stepped : source_step text b.machine event ≡ record { memory = memory_of k.s'; callers = slice_set b.machine.callers (mover event) k.after }
    stepped = step_is text event b.machine caller (record { memory = memory_of k.s'; caller = k.after }) at turn

    l : Left A step (record { time = b.time; past = r.past; by = b.by }) r.slot (filled k.noted.deed r.slot) (mover event) (accesses event caller.running) (object k.s') (moved b.time k.move (b.log (mover event))) k.phase'
    l = dealt step (record { time = b.time; past = r.past; by = b.by }) r.slot (mover event) (accesses event caller.running) (object k.s') (b.log (mover event)) (r.phase (mover event)) k.noted.deed k.move k.phase' r.books (r.phases (mover event)) k.deal

  by_caller : ((c d : ℕ) (who : Option ℕ) (s s' : S) (T : Times A) (notes : Notes) (phase : Phase) (caller : SourceCaller) → Goes c s s' → Fine s → d ≢ c → Knows s T notes phase d caller → Knows s' (ticked T who (object s')) notes phase d caller)
      → (event : SourceEvent) (b : Book) (caller : SourceCaller) → slice_get b.machine.callers (mover event) ≡ Some caller → (r : Recorded A S first step memory_of Fine object Knows b)
      → (k : Dealt text rules A S step memory_of Fine object Knows Goes event (mover event) r.s (record { time = b.time; past = r.past; by = b.by }) (b.notes (mover event)) (r.phase (mover event)) caller)
      → Recorded A S first step memory_of Fine object Knows (book_turned text rules b event caller (caller_turn text event b.machine.memory caller).caller)
  by_caller stable event b caller at r k =
      subst (λ (y : SourceCaller). Recorded A S first step memory_of Fine object Knows (book_turned text rules b event caller y)) (sym after)
      (subst (λ (n : Noted). Recorded A S first step memory_of Fine object Knows (book_left text b event (accesses event caller.running) n (logged event b.time caller.running k.after (b.log (mover event))))) (sym k.tells)
      (subst (λ (l : Log). Recorded A S first step memory_of Fine object Knows (book_left text b event (accesses event caller.running) k.noted l)) (sym (k.logs (b.log (mover event))))
      (left stable event b caller at r k))) where
        after : (caller_turn text event b.machine.memory caller).caller ≡ k.after
        after = ap (λ (t : Turn). t.caller) (ap (λ (m : Memory). caller_turn text event m caller) r.memory ∙ k.turn)

  pub stepped : ((c d : ℕ) (who : Option ℕ) (s s' : S) (T : Times A) (notes : Notes) (phase : Phase) (caller : SourceCaller) → Goes c s s' → Fine s → d ≢ c → Knows s T notes phase d caller → Knows s' (ticked T who (object s')) notes phase d caller)
      → ((event : SourceEvent) (s : S) (T : Times A) (notes : Notes) (phase : Phase) (caller : SourceCaller) → Fine s → object s ≡ T.past T.time → Knows s T notes phase (mover event) caller
      → is_enabled_by text event (performed text caller) (memory_of s) caller ≡ true
      → Dealt text rules A S step memory_of Fine object Knows Goes event (mover event) s T notes phase caller)
      → (event : SourceEvent) (b : Book) (found : Option SourceCaller) → slice_get b.machine.callers (mover event) ≡ found → is_enabled_for text event found b.machine.memory ≡ true
      → Recorded A S first step memory_of Fine object Knows b → Recorded A S first step memory_of Fine object Knows (book_by text rules b event found)
  stepped stable deals event b None at e r = absurd (let z : false ≡ true = e in cc)
  stepped stable deals event b (Some caller) at e r =
      by_caller stable event b caller at r
      (deals event r.s (record { time = b.time; past = r.past; by = b.by }) (b.notes (mover event)) (r.phase (mover event)) caller r.fine r.now (r.knows (mover event) caller at)
      (subst (λ (m : Memory). is_enabled_by text event (performed text caller) m caller ≡ true) r.memory e))

goes_on : (b : Bool) (a : Option SourceMachine) (state : SourceMachine) → cond b a None ≡ Some state → (b ≡ true) × (a ≡ Some state)
goes_on true a state e = (refl, e)
goes_on false a state e = absurd (let z : None ≡ Some state = e in cc)

-- the book's machine is the run's
book_machine : (text : Text) (rules : Rules) (b : Book) (event : SourceEvent) (found : Option SourceCaller) → slice_get b.machine.callers (mover event) ≡ found → is_enabled_for text event found b.machine.memory ≡ true
    → (book_by text rules b event found).machine ≡ source_step text b.machine event
book_machine text rules b event None at e = absurd (let z : false ≡ true = e in cc)
book_machine text rules b event (Some caller) at e = refl

pub along_books : (text : Text) (rules : Rules) (P : Book → Type 0) → ((b : Book) (event : SourceEvent) → is_enabled text b.machine event ≡ true → P b → P (book_step text rules b event))
    → (events : List SourceEvent) (b : Book) (state : SourceMachine) → source_run text events b.machine ≡ Some state → P b → P (book_run text rules events b) × ((book_run text rules events b).machine ≡ state)
along_books text rules P keeps [] b state runs here = (here, let z : Some b.machine ≡ Some state = runs in cc)
along_books text rules P keeps (event ∷ events) b state runs here =
    let k = goes_on (is_enabled text b.machine event) (source_run text events (source_step text b.machine event)) state runs in
    let m : (book_step text rules b event).machine ≡ source_step text b.machine event = book_machine text rules b event (slice_get b.machine.callers (mover event)) refl k.0 in
    along_books text rules P keeps events (book_step text rules b event) state (ap (λ x. source_run text events x) m ∙ k.1) (keeps b event k.0 here)

all_idle : (n c : ℕ) (caller : SourceCaller) → slice_get (replicate n idle_caller) c ≡ Some caller → idle_caller ≡ caller
all_idle zero c caller e = absurd (let z : None ≡ Some caller = e in cc)
all_idle (suc n) zero caller e = let z : Some idle_caller ≡ Some caller = e in cc
all_idle (suc n) (suc c) caller e = all_idle n c caller e

answers : (A S : Type 0) (first : A) (step : Deed → A → Option A) (memory_of : S → Memory) (Fine : S → Type 0) (object : S → A) (Knows : S → Times A → Notes → Phase → ℕ → SourceCaller → Type 0)
    → ((s : S) (T : Times A) (notes : Notes) (phase : Phase) (c : ℕ) (caller : SourceCaller) → Knows s T notes phase c caller → is_some caller.running ≡ phase_runs phase)
    → (b : Book) (state : SourceMachine) → b.machine ≡ state → Recorded A S first step memory_of Fine object Knows b → AnswersAs A step first state b
answers A S first step memory_of Fine object Knows runs b state same r = record {
  machine = same;
  legal = subst (λ ds. AreLegal step first ds) (sym same_deeds) (r.past b.time, ap (λ (a : A). after_deeds step (deeds_to r.slot b.time) (Some a)) (sym r.start) ∙ books_legal step (record { time = b.time; past = r.past; by = b.by }) r.slot r.books b.time (omega arith));
  rise = subst (RiseFrom 0 b.time) (sym same_deeds) (books_rise step (record { time = b.time; past = r.past; by = b.by }) r.slot r.books b.time);
  own = subst (AreOwn b.by) (sym same_deeds) (books_own step (record { time = b.time; past = r.past; by = b.by }) r.slot r.books b.time);
  told = λ c. subst (λ ds. Tell (of_caller c ds) (b.log c).done (b.log c).now) (sym same_deeds) (phase_tells b.time r.slot c (b.log c) (r.phase c) (r.phases c));
  replied = λ c caller at. r.replied c caller (ap (λ (m : SourceMachine). slice_get m.callers c) same ∙ at);
  running = λ c caller at.
      runs r.s (record { time = b.time; past = r.past; by = b.by }) (b.notes c) (r.phase c) c caller (r.knows c caller (ap (λ (m : SourceMachine). slice_get m.callers c) same ∙ at))
      ∙ phase_now b.time r.slot c (b.log c) (r.phase c) (r.phases c);
} where
  same_deeds : deeds_in b.slots ≡ deeds_to r.slot b.time
  same_deeds = ap deeds_in r.slots ∙ deeds_of_slots r.slot b.time

pub starts : (text : Text) (A S : Type 0) (step : Deed → A → Option A) (memory_of : S → Memory) (Fine : S → Type 0) (object : S → A) (Knows : S → Times A → Notes → Phase → ℕ → SourceCaller → Type 0)
    (s : S) → first_memory text ≡ memory_of s → Fine s → ((T : Times A) (c : ℕ) → Knows s T no_notes Resting c idle_caller) → (callers : ℕ) → Recorded A S (object s) step memory_of Fine object Knows (book_start text callers)
starts text A S step memory_of Fine object Knows s memory fine idle callers = record {
  s = s;
  past = λ t. object s;
  slot = λ t. None;
  slots = refl;
  phase = λ c. Resting;
  memory = memory;
  fine = fine;
  start = refl;
  now = refl;
  books = record {
    fits = λ t lt. absurd (let no : ⊥ = omega (arith, lt) in no);
    later = λ t le. refl;
    moment = λ t d is. absurd (let z : None ≡ Some d = is in cc);
    caller = λ t d is. absurd (let z : None ≡ Some d = is in cc);
  };
  phases = λ c. (refl, tt);
  replied = λ c caller at. ap (λ (y : SourceCaller). y.replies) (sym (all_idle callers c caller at));
  knows = λ c caller at. subst (λ (y : SourceCaller). Knows s (record { time = 0; past = λ t. object s; by = λ t. None }) no_notes Resting c y) (all_idle callers c caller at) (idle (record { time = 0; past = λ t. object s; by = λ t. None }) c);
}

-- if each event of a text deals so, the deeds of each run are those of the object, and tell the calls
pub books_answer : (text : Text) (rules : Rules) (A S : Type 0) (step : Deed → A → Option A) (memory_of : S → Memory) (Fine : S → Type 0) (object : S → A) (Knows : S → Times A → Notes → Phase → ℕ → SourceCaller → Type 0)
    (Goes : ℕ → S → S → Type 0)
    → ((c d : ℕ) (who : Option ℕ) (s s' : S) (T : Times A) (notes : Notes) (phase : Phase) (caller : SourceCaller) → Goes c s s' → Fine s → d ≢ c → Knows s T notes phase d caller → Knows s' (ticked T who (object s')) notes phase d caller)
    → ((event : SourceEvent) (s : S) (T : Times A) (notes : Notes) (phase : Phase) (caller : SourceCaller) → Fine s → object s ≡ T.past T.time → Knows s T notes phase (mover event) caller
    → is_enabled_by text event (performed text caller) (memory_of s) caller ≡ true
    → Dealt text rules A S step memory_of Fine object Knows Goes event (mover event) s T notes phase caller)
    → ((s : S) (T : Times A) (notes : Notes) (phase : Phase) (c : ℕ) (caller : SourceCaller) → Knows s T notes phase c caller → is_some caller.running ≡ phase_runs phase)
    → (s : S) → first_memory text ≡ memory_of s → Fine s → ((T : Times A) (c : ℕ) → Knows s T no_notes Resting c idle_caller)
    → (callers : ℕ) (events : List SourceEvent) (state : SourceMachine) → IsSourceRun text callers events state
    → AnswersAs A step (object s) state (book_of text rules callers events)
books_answer text rules A S step memory_of Fine object Knows Goes stable deals runs s memory fine idle callers events state run =
    let k = along_books text rules (λ b. Recorded A S (object s) step memory_of Fine object Knows b)
    (λ b event e r. stepped text rules A S (object s) step memory_of Fine object Knows Goes stable deals event b (slice_get b.machine.callers (mover event)) refl e r)
    events (book_start text callers) state run.runs (starts text A S step memory_of Fine object Knows s memory fine idle callers) in
    answers A S (object s) step memory_of Fine object Knows runs (book_of text rules callers events) state k.1 k.0
