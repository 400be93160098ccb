-- The core seen by names and numbers.
use Rattle.std.proofs.Common.{◌≡◌, ◌≢◌, ℕ, zero, suc, ◌<◌, Bool, true, false, ◌==◌, ◌&&◌, List, [], ◌∷◌, set, length, Option, Some, None, refl, sym, ◌∙◌, ap, subst, arith, ⊎_elim, if◌then◌else◌, get_or-set_other, get_or-set_same}
use Rattle.std.specs.Prelude.{slice_get, slice_index, unwrap_or}
use Rattle.std.proofs.Math.Path.{fun_ext}
use Rattle.std.proofs.lemmas.Bool.Decides.{eqb_tells}
use Rattle.std.proofs.lemmas.Option.{slice_get_within}
use Rattle.std.proofs.lemmas.Bool.{and_from}
use Rattle.target_code.specs.declared.target.Target.{Target}
use Rattle.oa_words.specs.Words.{Word, Sizes, address_of, in_row, word_count}
use Rattle.oa_words.proofs.Places.{within, apart}
use Rattle.phase_pools.specs.Accesses.{WordAccess, word_of, word_after}
use Rattle.caller_parts.specs.declared.call.Call.{Call}
use Rattle.caller_parts.specs.Settings.{Setting}
use Rattle.caller_steps.specs.Entries.{Entry, idle_entry, is_idle}
use Rattle.caller_parts.specs.Calls.{is_call}
use Rattle.caller_steps.specs.Wants.{wants}
use Rattle.caller_steps.specs.After.{after, taken, signs}
use Rattle.core_runs.specs.Machine.{CoreState, CoreEvent, Takes, Steps, found_by, made, stepped, event_by, core_event, OfAll}
use Rattle.oa_words.specs.Memories.{same_word, seen, store}
use Rattle.oa_words.proofs.Names.{same_is, same_itself}
use Rattle.core_runs.specs.RunSigns.{event_signs, entry_signs, wanted_signs, signed}
use Rattle.core_runs.specs.Views.{view, put, IsShaped, Moves, EventsAreSeen}
use Rattle.core_runs.proofs.Reaching.{some_is}

-- a store to the list of words is one to the words by name
pub seen_set : (n : Sizes) (words : List ℕ) (v : Word) (x : ℕ) → length words ≡ word_count n → in_row n v ≡ true → seen n (set words (address_of n v) x) ≡ store (seen n words) v x
seen_set n words v x count row = fun_ext (λ w. of w (same_word w v) refl (in_row n w) refl) where
  other : (w : Word) → same_word w v ≡ false → in_row n w ≡ true → slice_index (set words (address_of n v) x) (address_of n w) ≡ slice_index words (address_of n w)
  other w isnt there = get_or-set_other words (address_of n v) (address_of n w) x 0 (λ e.
      (let is : w ≡ v = apart n w v there row e in let no : true ≡ false = sym (same_itself v) ∙ (ap (λ (u : Word). same_word u v) (sym is) ∙ isnt) in cc))

  of : (w : Word) (s : Bool) → same_word w v ≡ s → (i : Bool) → in_row n w ≡ i → (if i then slice_index (set words (address_of n v) x) (address_of n w) else 0) ≡ (if s then x else (if i then slice_index words (address_of n w) else 0))
  of w true is true there =
      ap (λ (u : Word). slice_index (set words (address_of n v) x) (address_of n u)) (same_is w v is) ∙ get_or-set_same words (address_of n v) x 0 (let lt = within n v row in omega (arith, lt, count))
  of w true is false there = absurd (let no : true ≡ false = sym row ∙ (ap (in_row n) (sym (same_is w v is)) ∙ there) in cc)
  of w false isnt true there = other w isnt there
  of w false isnt false there = refl

-- one entry changes
same_entry : (es : List Entry) (c : ℕ) (e f : Entry) → c < length es → unwrap_or (slice_get (set es c e) c) f ≡ e
same_entry [] c e f lt = absurd (omega (arith, lt))
same_entry (x ∷ xs) zero e f lt = refl
same_entry (x ∷ xs) (suc c) e f lt = same_entry xs c e f (omega (arith, lt))

other_entry : (es : List Entry) (c d : ℕ) (e f : Entry) → d ≢ c → unwrap_or (slice_get (set es c e) d) f ≡ unwrap_or (slice_get es d) f
other_entry (x ∷ xs) zero zero e f isnt = absurd (isnt refl)
other_entry (x ∷ xs) (suc c) (suc d) e f isnt = other_entry xs c d e f (λ is. isnt (ap suc is))
other_entry _ _ _ e f isnt = refl

abbrev pub who_of : List Entry → ℕ → Entry
who_of es c = unwrap_or (slice_get es c) (idle_entry c)

pub who_set : (es : List Entry) (c : ℕ) (e : Entry) → c < length es → who_of (set es c e) ≡ put (who_of es) c e
who_set es c e lt = fun_ext (λ d. ⊎_elim
    (λ (t : ((d == c) ≡ true) × (d ≡ c)). ap (λ (k : ℕ). unwrap_or (slice_get (set es c e) k) (idle_entry d)) t.1 ∙ same_entry es c e (idle_entry d) lt
    ∙ ap (λ (b : Bool). if b then e else who_of es d) (sym t.0))
    (λ (t : ((d == c) ≡ false) × (d ≢ c)). other_entry es c d e (idle_entry d) t.1 ∙ ap (λ (b : Bool). if b then e else who_of es d) (sym t.0))
    (eqb_tells d c))

there_is : (es : List Entry) (c : ℕ) → c < length es → (e : Entry) × (slice_get es c ≡ Some e)
there_is [] c lt = absurd (omega (arith, lt))
there_is (e ∷ es) zero lt = (e, refl)
there_is (e ∷ es) (suc c) lt = there_is es c (omega (arith, lt))

pub found_is : (setting : Setting) (state : CoreState) (a : WordAccess) → in_row setting.sizes (word_of a) ≡ true → seen setting.sizes state.words (word_of a) ≡ found_by setting state a
found_is setting state a row = ap (λ (b : Bool). if b then found_by setting state a else 0) row

module _ {target : Target} {setting : Setting} where
  take_moves : (state : CoreState) (c : ℕ) (call : Call) (e : Entry) → IsShaped target setting state → slice_get state.entries c ≡ Some e → is_idle e.routine ≡ true → is_call target call ≡ true
      → Moves target setting (view setting state) (Takes c call) (view setting (record state { entries = set state.entries c (taken setting.reclamation call e) }))
  take_moves state c call e s there idle is =
      let lt = slice_get_within state.entries c e there in
      let callers = s.callers in
      let me : (view setting state).who c ≡ e = ap (λ (o : Option Entry). unwrap_or o (idle_entry c)) there in (
        omega (arith, lt, callers),
        ap (λ (e : Entry). is_idle e.routine) me ∙ idle,
        is,
        refl,
        who_set state.entries c (taken setting.reclamation call e) lt ∙ ap (λ (e : Entry). put (view setting state).who c (taken setting.reclamation call e)) (sym me),
      )

  step_moves : (state : CoreState) (c : ℕ) (e : Entry) (a : WordAccess) → IsShaped target setting state → slice_get state.entries c ≡ Some e → wants target e ≡ Some a
      → Moves target setting (view setting state) (Steps c) (view setting (record { words = made setting state a; entries = set state.entries c (after target setting e (found_by setting state a)) }))
  step_moves state c e a s there want =
      let lt = slice_get_within state.entries c e there in
      let callers = s.callers in
      let me : (view setting state).who c ≡ e = ap (λ (o : Option Entry). unwrap_or o (idle_entry c)) there in
      let row : in_row setting.sizes (word_of a) ≡ true = s.wanted c e a there want in
      let found : seen setting.sizes state.words (word_of a) ≡ found_by setting state a = found_is setting state a row in (
        a,
        omega (arith, lt, callers),
        ap (wants target) me ∙ want,
        row,
        seen_set setting.sizes state.words (word_of a) (word_after a (found_by setting state a)) s.words row ∙ ap (λ (k : ℕ). store (seen setting.sizes state.words) (word_of a) (word_after a k)) (sym found),
        who_set state.entries c (after target setting e (found_by setting state a)) lt
            ∙ (ap (λ (k : ℕ). put (view setting state).who c (after target setting e k)) (sym found)
            ∙ ap (λ (e : Entry). put (view setting state).who c (after target setting e (seen setting.sizes state.words (word_of a)))) (sym me)),
      )

  event_moves : (state later : CoreState) (event : CoreEvent) → IsShaped target setting state → core_event target setting state event ≡ Some later
      → Moves target setting (view setting state) event (view setting later)
  event_moves state later (Takes c call) s is = of (slice_get state.entries c) refl is where
    by : (e : Entry) → slice_get state.entries c ≡ Some e → (i : Bool) → is_idle e.routine ≡ i → (k : Bool) → is_call target call ≡ k
        → (if i && k then Some (record state { entries = set state.entries c (taken setting.reclamation call e) }) else None) ≡ Some later → Moves target setting (view setting state) (Takes c call) (view setting later)
    by e at true idle true call_is became =
        subst (λ (x : CoreState). Moves target setting (view setting state) (Takes c call) (view setting x)) (some_is (record state { entries = set state.entries c (taken setting.reclamation call e) }) later became) (take_moves state c call e s at idle call_is)
    by e at _ idle _ call_is became = absurd cc

    of : (o : Option Entry) → slice_get state.entries c ≡ o → event_by target setting state (Takes c call) o ≡ Some later → Moves target setting (view setting state) (Takes c call) (view setting later)
    of None at became = absurd cc
    of (Some e) at became = by e at (is_idle e.routine) refl (is_call target call) refl became
  event_moves state later (Steps c) s is = of (slice_get state.entries c) refl is where
    by : (e : Entry) → slice_get state.entries c ≡ Some e → (o : Option WordAccess) → wants target e ≡ o
        → stepped target setting state c e o ≡ Some later → Moves target setting (view setting state) (Steps c) (view setting later)
    by e at None want became = absurd cc
    by e at (Some a) want became =
        subst (λ (x : CoreState). Moves target setting (view setting state) (Steps c) (view setting x))
        (some_is (record { words = made setting state a; entries = set state.entries c (after target setting e (found_by setting state a)) }) later became) (step_moves state c e a s at want)

    of : (o : Option Entry) → slice_get state.entries c ≡ o → event_by target setting state (Steps c) o ≡ Some later → Moves target setting (view setting state) (Steps c) (view setting later)
    of None at became = absurd cc
    of (Some e) at became = by e at (wants target e) refl became

  pub caller_there : (state : CoreState) (c : ℕ) → IsShaped target setting state → c < setting.sizes.callers → slice_get state.entries c ≡ Some (who_of state.entries c)
  caller_there state c s lt =
      let count = s.callers in
      let there = there_is state.entries c (omega (arith, lt, count)) in
      there.1 ∙ ap (λ (o : Option Entry). Some (unwrap_or o (idle_entry c))) (sym there.1)

  can_take : (state : CoreState) (c : ℕ) (call : Call) → IsShaped target setting state → c < setting.sizes.callers → is_idle (who_of state.entries c).routine ≡ true → is_call target call ≡ true
      → (later : CoreState) × (core_event target setting state (Takes c call) ≡ Some later)
  can_take state c call s lt idle is =
      let e = who_of state.entries c in
      let later : CoreState = record state { entries = set state.entries c (taken setting.reclamation call e) } in
      (later, ap (event_by target setting state (Takes c call)) (caller_there state c s lt) ∙ ap (λ (b : Bool). if b then Some later else None) (and_from (is_idle e.routine) (is_call target call) idle is))

  can_step : (state : CoreState) (c : ℕ) (a : WordAccess) → IsShaped target setting state → c < setting.sizes.callers → wants target (who_of state.entries c) ≡ Some a
      → (later : CoreState) × (core_event target setting state (Steps c) ≡ Some later)
  can_step state c a s lt want =
      let e = who_of state.entries c in (
        record { words = made setting state a; entries = set state.entries c (after target setting e (found_by setting state a)) },
        ap (event_by target setting state (Steps c)) (caller_there state c s lt) ∙ ap (stepped target setting state c e) want,
      )

  step_signs : (state : CoreState) (c : ℕ) (a : WordAccess) → IsShaped target setting state → c < setting.sizes.callers → wants target (who_of state.entries c) ≡ Some a
      → event_signs target setting state (Steps c) ≡ signed c (signs target setting (who_of state.entries c) (seen setting.sizes state.words (word_of a)))
  step_signs state c a s lt want =
      let e = who_of state.entries c in
      let there = caller_there state c s lt in
      ap (λ (o : Option Entry). signed c (entry_signs target setting state o)) there
      ∙ (ap (λ (o : Option WordAccess). signed c (wanted_signs target setting state e o)) want
      ∙ ap (λ (k : ℕ). signed c (signs target setting e k)) (sym (found_is setting state a (s.wanted c e a there want))))

pub events_are_seen : OfAll EventsAreSeen
events_are_seen target setting = record {
  moves = λ state later event s is. event_moves state later event s is;
  signs = λ state c a s lt want. step_signs state c a s lt want;
  takes = λ state c call s lt idle is. can_take state c call s lt idle is;
  steps = λ state c a s lt want. can_step state c a s lt want;
}
