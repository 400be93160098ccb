-- What is written down along the events of a run is the run's book.
use Rattle.std.proofs.Common.{ℕ, zero, suc, ◌+◌, ◌≡◌, ◌≢◌, ◌≤◌, ◌<◌, ◌∙◌, ◌++◌, true, false, List, [], ◌∷◌, length, take, set, replicate, get_or, Option, Some, None, Ok, sym, ap, subst, refl, ⊎_elim, arith}
use Rattle.std.specs.Prelude.{slice_get, slice_index_or}
use Rattle.std.proofs.lemmas.Bool.{cases_eq}
use Rattle.std.proofs.lemmas.List.{length-set}
use Rattle.std.proofs.lemmas.Option.{slice_get-get_or}
use Rattle.norm_lang.specs.declared.text.Text.{Text}
use Rattle.source_machine.specs.declared.event.SourceEvent.{SourceEvent}
use Rattle.source_machine.specs.declared.event.SourceEvent.TheVariants.{Access}
use Rattle.source_machine.specs.declared.state.Running.{Running}
use Rattle.source_machine.specs.declared.state.SourceCaller.{SourceCaller}
use Rattle.source_machine.specs.declared.state.SourceMachine.{SourceMachine}
use Rattle.source_machine.specs.Step.{caller_turn}
use Rattle.source_machine.specs.Run.{mover, step_of, is_enabled, is_enabled_for, source_step, IsSourceRun}
use Rattle.source_machine.specs.MethodRuns.{put}
use Rattle.source_machine.specs.Calls.{Steps}
use Rattle.source_machine.proofs.Places.{put_same, put_other}
use Rattle.source_machine.proofs.Along.{source_run_more}
use Rattle.source_machine.proofs.Calling.{one_taken}
use Rattle.source_histories.specs.declared.deed.Deed.{Deed}
use Rattle.source_histories.specs.declared.deed.Notes.{Notes}
use Rattle.source_histories.specs.declared.deed.Noted.{Noted}
use Rattle.source_histories.specs.Books.{no_notes, Rules, noted_of, written, Book, book_start, book_by, book_step, book_run, book_of}
use Rattle.source_histories.specs.Reading.{before_in, notes_before, noted_from, filled_in, IsWritten}

pub record Following (text : Text) (rules : Rules) (callers : ℕ) (events : List SourceEvent) (state : SourceMachine) (slots : List (Option Deed)) (notes : List Notes) : Type 0 where
  pub run : IsSourceRun text callers events state
  pub machine : (book_of text rules callers events).machine ≡ state
  pub time : (book_of text rules callers events).time ≡ length events
  pub kept : (book_of text rules callers events).slots ≡ slots
  pub remembered : (c : ℕ) → c < callers → slice_index_or notes c no_notes ≡ (book_of text rules callers events).notes c
  pub long : length notes ≡ callers

all_blank : (n c : ℕ) → slice_index_or (replicate n no_notes) c no_notes ≡ no_notes
all_blank (suc n) (suc c) = all_blank n c
all_blank _ _ = refl

book_more : (text : Text) (rules : Rules) (events : List SourceEvent) (event : SourceEvent) (b : Book) → book_run text rules (events ++ event ∷ []) b ≡ book_step text rules (book_run text rules events b) event
book_more text rules [] event b = refl
book_more text rules (first ∷ events) event b = book_more text rules events event (book_step text rules b first)

-- what is seen is what the event tells
same_noted : (rules : Rules) (event : SourceEvent) (t : ℕ) (notes : Notes) (caller after : SourceCaller) → noted_of rules event t notes caller.running after ≡ noted_from rules t (mover event) (notes_before event t notes) (before_in event (Some caller)) (Some after)
same_noted rules event t notes caller after = of event caller.running refl where
  of : (e : SourceEvent) (r : Option Running) → caller.running ≡ r → noted_of rules e t notes r after ≡ noted_from rules t (mover e) (notes_before e t notes) (before_in e (Some (record { replies = caller.replies; running = r }))) (Some after)
  of (Access c name) (Some running) is = seen after.running refl where
    seen : (x : Option Running) → after.running ≡ x → noted_of rules (Access c name) t notes (Some running) (record { replies = after.replies; running = x }) ≡ noted_from rules t c notes (before_in (Access c name) (Some (record { replies = caller.replies; running = Some running }))) (Some (record { replies = after.replies; running = x }))
    seen None e = refl
    seen (Some x) e = refl
  of _ _ is = refl

-- the callers after a step
set_get : {A : Type 0} (xs : List A) (c : ℕ) (x y : A) → slice_get xs c ≡ Some y → slice_get (set xs c x) c ≡ Some x
set_get [] c x y e = absurd (let z : None ≡ Some y = e in cc)
set_get (a ∷ xs) zero x y e = refl
set_get (a ∷ xs) (suc c) x y e = set_get xs c x y e

index_set : (ns : List Notes) (c d : ℕ) (n : Notes) → c < length ns → slice_index_or (set ns c n) d no_notes ≡ put (λ i. slice_index_or ns i no_notes) c n d
index_set ns c d n lt = ⊎_elim
    (λ (e : d ≡ c). ap (λ i. slice_index_or (set ns c n) i no_notes) e ∙ (here ns c lt ∙ sym (ap (put (λ i. slice_index_or ns i no_notes) c n) e ∙ put_same (λ i. slice_index_or ns i no_notes) c n)))
    (λ (ne : d ≢ c). there ns c d ne ∙ sym (put_other (λ i. slice_index_or ns i no_notes) c d n ne))
    (cases_eq d c) where
      here : (ns : List Notes) (c : ℕ) → c < length ns → slice_index_or (set ns c n) c no_notes ≡ n
      here [] c lt = absurd (let no : ⊥ = omega (arith, lt) in no)
      here (x ∷ ns) zero lt = refl
      here (x ∷ ns) (suc c) lt = here ns c (omega (arith, lt))

      there : (ns : List Notes) (c d : ℕ) → d ≢ c → slice_index_or (set ns c n) d no_notes ≡ slice_index_or ns d no_notes
      there (x ∷ ns) zero zero ne = absurd (ne refl)
      there (x ∷ ns) (suc c) (suc d) ne = there ns c d (λ e. ne (ap (λ i. suc i) e))
      there _ _ _ ne = refl

get_lt : {A : Type 0} (xs : List A) (c : ℕ) (y : A) → slice_get xs c ≡ Some y → c < length xs
get_lt [] c y e = absurd (let z : None ≡ Some y = e in cc)
get_lt (x ∷ xs) zero y e = omega arith
get_lt (x ∷ xs) (suc c) y e = let lt = get_lt xs c y e in omega (arith, lt)

-- an enabled event is of a caller
pub mover_there : (text : Text) (state : SourceMachine) (event : SourceEvent) → is_enabled text state event ≡ true → (caller : SourceCaller) × (slice_get state.callers (mover event) ≡ Some caller)
mover_there text state event e = of (slice_get state.callers (mover event)) refl where
  of : (o : Option SourceCaller) → slice_get state.callers (mover event) ≡ o → (caller : SourceCaller) × (slice_get state.callers (mover event) ≡ Some caller)
  of None at = absurd (let z : false ≡ true = sym (ap (λ o. is_enabled_for text event o state.memory) at) ∙ e in cc)
  of (Some caller) at = (caller, at)

pub following_more : (text : Text) (rules : Rules) (callers at : ℕ) (events : List SourceEvent) (event : SourceEvent) (old new : SourceMachine) (slots slots' : List (Option Deed)) (notes notes' : List Notes) (u : Unit {0})
    → Following text rules callers events old slots notes → length old.callers ≡ callers → at ≡ length events → Steps text old event new (Ok u) → (mover event < callers → IsWritten rules at event old new slots slots' notes notes')
    → Following text rules callers (events ++ event ∷ []) new slots' notes'
following_more text rules callers at events event old new slots slots' notes notes' u f many time h writes = record {
  run = subst (IsSourceRun text callers (events ++ event ∷ [])) (sym h.1) (source_run_more text callers events event old f.run h.0);
  machine = ap (λ (x : Book). x.machine) stepped ∙ (ap (λ (m : SourceMachine). source_step text m event) f.machine ∙ sym h.1);
  time = ap (λ (x : Book). x.time) stepped ∙ (ap (λ k. suc k) f.time ∙ sym (long_push events event));
  kept = ap (λ (x : Book). x.slots) stepped ∙ (ap (λ (n : Noted). written n.deed b.slots) noted ∙ (ap (written seen.deed) f.kept ∙ (as_filled seen.deed slots ∙ sym w.deeds)));
  remembered = λ d less.
      ap (λ ns. slice_index_or ns d no_notes) w.remembered
      ∙ (index_set notes c d seen.notes (omega (arith, lt, long))
      ∙ (each d less ∙ (ap (λ (n : Noted). put b.notes c n.notes d) (sym noted) ∙ ap (λ (x : Book). x.notes d) (sym stepped))));
  long = ap length w.remembered ∙ (length-set notes c seen.notes ∙ f.long);
} where
  c : ℕ
  c = mover event

  b : Book
  b = book_of text rules callers events

  found : (caller : SourceCaller) × (slice_get old.callers (mover event) ≡ Some caller)
  found = mover_there text old event h.0

  lt : mover event < callers
  lt = let l = get_lt old.callers (mover event) found.0 found.1 in omega (arith, l, many)

  long : length notes ≡ callers
  long = f.long

  w : IsWritten rules at event old new slots slots' notes notes'
  w = writes lt

  after : SourceCaller
  after = (caller_turn text event old.memory found.0).caller

  seen : Noted
  seen = noted_from rules at (mover event) (notes_before event at (slice_index_or notes (mover event) no_notes)) (before_in event (slice_get old.callers (mover event))) (slice_get new.callers (mover event))

  there : slice_get new.callers (mover event) ≡ Some after
  there =
      ap (λ (m : SourceMachine). slice_get m.callers (mover event)) (h.1 ∙ ap (λ o. step_of text event o old) found.1)
      ∙ set_get old.callers (mover event) after found.0 found.1

  found_b : slice_get b.machine.callers (mover event) ≡ Some found.0
  found_b = ap (λ (m : SourceMachine). slice_get m.callers (mover event)) f.machine ∙ found.1

  stepped : book_of text rules callers (events ++ event ∷ []) ≡ book_by text rules b event (Some found.0)
  stepped = book_more text rules events event (book_start text callers) ∙ ap (book_by text rules b event) found_b

  noted : noted_of rules event b.time (b.notes (mover event)) found.0.running (caller_turn text event b.machine.memory found.0).caller ≡ seen
  noted =
      ap (λ (m : SourceMachine). noted_of rules event b.time (b.notes (mover event)) found.0.running (caller_turn text event m.memory found.0).caller) f.machine
      ∙ (ap (λ k. noted_of rules event k (b.notes (mover event)) found.0.running after) (f.time ∙ sym time)
      ∙ (ap (λ (n : Notes). noted_of rules event at n found.0.running after) (sym (f.remembered (mover event) lt))
      ∙ (same_noted rules event at (slice_index_or notes (mover event) no_notes) found.0 after
      ∙ (ap (λ o. noted_from rules at (mover event) (notes_before event at (slice_index_or notes (mover event) no_notes)) (before_in event o) (Some after)) (sym found.1)
      ∙ ap (λ o. noted_from rules at (mover event) (notes_before event at (slice_index_or notes (mover event) no_notes)) (before_in event (slice_get old.callers (mover event))) o) (sym there)))))

  as_filled : (o : Option Deed) (xs : List (Option Deed)) → written o xs ≡ filled_in o (xs ++ None ∷ [])
  as_filled None xs = refl
  as_filled (Some d) xs = refl

  long_push : (xs : List SourceEvent) (x : SourceEvent) → length (xs ++ x ∷ []) ≡ suc (length xs)
  long_push [] x = refl
  long_push (y ∷ xs) x = ap (λ k. suc k) (long_push xs x)

  each : (d : ℕ) → d < callers → put (λ i. slice_index_or notes i no_notes) (mover event) seen.notes d ≡ put b.notes (mover event) seen.notes d
  each d less = ⊎_elim
      (λ (e : d ≡ mover event). ap (put (λ i. slice_index_or notes i no_notes) (mover event) seen.notes) e ∙ (put_same (λ i. slice_index_or notes i no_notes) (mover event) seen.notes ∙ sym (ap (put b.notes (mover event) seen.notes) e ∙ put_same b.notes (mover event) seen.notes)))
      (λ (ne : d ≢ mover event). put_other (λ i. slice_index_or notes i no_notes) (mover event) d seen.notes ne ∙ (f.remembered d less ∙ sym (put_other b.notes (mover event) d seen.notes ne)))
      (cases_eq d (mover event))

length_taken : {A : Type 0} (xs : List A) (n : ℕ) → n ≤ length xs → length (take n xs) ≡ n
length_taken xs zero le = refl
length_taken [] (suc n) le = absurd (let no : ⊥ = omega (arith, le) in no)
length_taken (x ∷ xs) (suc n) le = ap (λ k. suc k) (length_taken xs n (omega (arith, le)))

-- the event at a place leads on
pub following_next : (text : Text) (rules : Rules) (callers at : ℕ) (events : List SourceEvent) (d : SourceEvent) (old new : SourceMachine) (slots slots' : List (Option Deed)) (notes notes' : List Notes) (u : Unit {0}) → at < length events
    → Following text rules callers (take at events) old slots notes → length old.callers ≡ callers → Steps text old (get_or events at d) new (Ok u)
    → (mover (get_or events at d) < callers → IsWritten rules at (get_or events at d) old new slots slots' notes notes')
    → Following text rules callers (take (at + 1) events) new slots' notes'
following_next text rules callers at events d old new slots slots' notes notes' u lt f many h writes =
    let more : suc at ≡ at + 1 = omega arith in
    let before : at ≡ length (take at events) = sym (length_taken events at (omega (arith, lt))) in
    subst (λ es. Following text rules callers es new slots' notes') (sym (one_taken events at (get_or events at d) (slice_get-get_or events at d lt)) ∙ ap (λ n. take n events) more)
    (following_more text rules callers at (take at events) (get_or events at d) old new slots slots' notes notes' u f many before h writes)
