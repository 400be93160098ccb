-- Each enabled event keeps words lawful and entries that belong.
use Rattle.std.proofs.Common.{ℕ, zero, suc, ◌≡◌, ◌≢◌, ◌⊎◌, ◌∙◌, ◌==◌, ◌&&◌, Bool, true, false, arith, refl, set, length, length-set, List, ◌∷◌, Option, Some, None, inl, inr, ⊎_elim, get_or-set_other, get_or-set_same, sym, ap, subst, if◌then◌else◌}
use Rattle.std.specs.Prelude.{slice_get, slice_index}
use Rattle.std.proofs.lemmas.Bool.Decides.{eqb_tells}
use Rattle.target_code.specs.declared.target.Target.{Target}
use Rattle.oa_words.specs.Words.{Word, address_of, in_row, word_count}
use Rattle.phase_pools.specs.Accesses.{WordAccess, Loads, Stores, Exchanges, Raises, word_of, word_after}
use Rattle.caller_parts.specs.declared.call.Call.{Call}
use Rattle.caller_parts.specs.Calls.{is_call}
use Rattle.caller_parts.specs.Settings.{Fits, Setting}
use Rattle.caller_steps.specs.Entries.{Entry, is_idle}
use Rattle.caller_steps.specs.Wants.{wants}
use Rattle.caller_steps.specs.After.{after, taken}
use Rattle.caller_steps.specs.Lawful.{Accepts, AsksSafely, IsLawful, IsSafe, MayBeTold}
use Rattle.caller_steps.specs.Belongs.{Belongs}
use Rattle.core_runs.specs.Machine.{CoreEvent, CoreState, Steps, Takes, core_event, event_by, found_by, made, stepped}
use Rattle.core_runs.proofs.caller_laws.Methods.{Methods, SettingSane}
use Rattle.core_runs.specs.core_sound.Sound.{AreLawful, AllBelong, IsSound}
use Rattle.oa_words.proofs.Places.{apart, within}
use Rattle.core_runs.proofs.caller_laws.Safety.{wants_safe}
use Rattle.core_runs.proofs.caller_laws.Steps.{after_belongs}
use Rattle.core_runs.proofs.Turning.{after_number}
use Rattle.core_runs.proofs.caller_laws.Beginning.{taken_belongs}
use Rattle.core_runs.proofs.caller_laws.Together.{idle_wants}

-- a lawful word is stored
pub store_lawful : (target : Target) (setting : Setting) (words : List ℕ) (v : Word) (x : ℕ) → length words ≡ word_count setting.sizes → in_row setting.sizes v ≡ true
    → IsLawful target setting v x → AreLawful target setting words → AreLawful target setting (set words (address_of setting.sizes v) x)
store_lawful target setting words v x count row lawful all w there = ⊎_elim
    (λ (t : ((address_of setting.sizes w == address_of setting.sizes v) ≡ true) × (address_of setting.sizes w ≡ address_of setting.sizes v)).
    let same : w ≡ v = apart setting.sizes w v there row t.1 in
    subst (λ (u : Word). IsLawful target setting u (slice_index (set words (address_of setting.sizes v) x) (address_of setting.sizes u))) (sym same)
    (subst (λ (n : ℕ). IsLawful target setting v n) (sym (get_or-set_same words (address_of setting.sizes v) x 0 (let lt = within setting.sizes v row in omega (arith, lt, count)))) lawful))
    (λ (t : ((address_of setting.sizes w == address_of setting.sizes v) ≡ false) × (address_of setting.sizes w ≢ address_of setting.sizes v)).
    subst (λ (n : ℕ). IsLawful target setting w n) (sym (get_or-set_other words (address_of setting.sizes v) (address_of setting.sizes w) x 0 t.1)) (all w there))
    (eqb_tells (address_of setting.sizes w) (address_of setting.sizes v))

-- one entry changes
pub set_got : (es : List Entry) (k d : ℕ) (e f : Entry) → slice_get (set es k e) d ≡ Some f → ((d ≡ k) × (f ≡ e)) ⊎ (slice_get es d ≡ Some f)
set_got (x ∷ xs) zero zero e f is = inl (refl, cc)
set_got (x ∷ xs) (suc k) (suc d) e f is = ⊎_elim (λ (t : (d ≡ k) × (f ≡ e)). inl (ap suc t.0, t.1)) (λ (t : slice_get xs d ≡ Some f). inr t) (set_got xs k d e f is)
set_got _ _ _ e f is = inr is

set_belong : (target : Target) (setting : Setting) (entries : List Entry) (c : ℕ) (e : Entry) → Belongs target setting e → e.number ≡ c → AllBelong target setting entries → AllBelong target setting (set entries c e)
set_belong target setting entries c e b number all d f there = ⊎_elim
    (λ (t : (d ≡ c) × (f ≡ e)). (subst (λ (x : Entry). Belongs target setting x) (sym t.1) b, ap (λ (x : Entry). x.number) t.1 ∙ number ∙ sym t.0))
    (λ (t : slice_get entries d ≡ Some f). all d f t)
    (set_got entries c d e f there)

-- what a wanted access finds is lawful
pub found_told : (target : Target) (setting : Setting) (state : CoreState) (a : WordAccess) → IsSound target setting state → IsSafe target setting a → Accepts target setting a (found_by setting state a)
found_told target setting state (Loads w) s safe = s.lawful w safe.row
found_told target setting state (Stores w x) s safe = tt
found_told target setting state (Exchanges w expected x) s safe = s.lawful w safe.row
found_told target setting state (Raises w x) s safe = s.lawful w safe.row

-- a step of a caller
pub step_sound : (target : Target) (setting : Setting) (state : CoreState) (c : ℕ) (e : Entry) (a : WordAccess) → Methods target → SettingSane setting → Fits target setting → IsSound target setting state
    → slice_get state.entries c ≡ Some e → is_idle e.routine ≡ false → wants target e ≡ Some a
    → IsSound target setting (record { words = made setting state a; entries = set state.entries c (after target setting e (found_by setting state a)) })
step_sound target setting state c e a sane some fits s there busy is = record {
  count = length-set state.words (address_of setting.sizes (word_of a)) (word_after a (found_by setting state a)) ∙ s.count;
  callers = length-set state.entries c (after target setting e (found_by setting state a)) ∙ s.callers;
  lawful = store_lawful target setting state.words (word_of a) (word_after a (found_by setting state a)) s.count safe.row (safe.lawful (found_by setting state a) (s.lawful (word_of a) safe.row)) s.lawful;
  belong = set_belong target setting state.entries c (after target setting e (found_by setting state a)) (after_belongs target setting e (found_by setting state a) sane some fits own.0 told) (after_number target setting e (found_by setting state a) ∙ own.1) s.belong;
} where
  own : Belongs target setting e × (e.number ≡ c)
  own = s.belong c e there

  safe : IsSafe target setting a
  safe = subst (λ (o : Option WordAccess). AsksSafely target setting o) is (wants_safe target setting e sane some fits own.0 busy)

  told : MayBeTold target setting (wants target e) (found_by setting state a)
  told = subst (λ (o : Option WordAccess). MayBeTold target setting o (found_by setting state a)) (sym is) (found_told target setting state a s safe)

some_is : (a b : CoreState) → Some a ≡ Some b → a ≡ b
some_is a b e = cc

-- a Take
pub take_sound : (target : Target) (setting : Setting) (state : CoreState) (c : ℕ) (call : Call) (e : Entry) → Methods target → IsSound target setting state
    → slice_get state.entries c ≡ Some e → is_call target call ≡ true → IsSound target setting (record state { entries = set state.entries c (taken setting.reclamation call e) })
take_sound target setting state c call e sane s there is = record {
  count = s.count;
  callers = length-set state.entries c (taken setting.reclamation call e) ∙ s.callers;
  lawful = s.lawful;
  belong = set_belong target setting state.entries c (taken setting.reclamation call e) (taken_belongs target setting setting.reclamation call e sane refl is own.0) own.1 s.belong;
} where
  own : Belongs target setting e × (e.number ≡ c)
  own = s.belong c e there

-- every event that is enabled
pub event_sound : (target : Target) (setting : Setting) (state later : CoreState) (event : CoreEvent) → Methods target → SettingSane setting → Fits target setting → IsSound target setting state
    → core_event target setting state event ≡ Some later → IsSound target setting later
event_sound target setting state later (Takes c call) sane some fits s is = of (slice_get state.entries c) refl is where
  by : (e : Entry) → slice_get state.entries c ≡ Some e → (i : Bool) → is_idle e.routine ≡ i → (k : Bool) → is_call target call ≡ k
      → (if i && k then Some (record state { entries = set state.entries c (taken setting.reclamation call e) }) else None) ≡ Some later → IsSound target setting later
  by e at true idle true call_is became = subst (λ (x : CoreState). IsSound target setting x) (some_is (record state { entries = set state.entries c (taken setting.reclamation call e) }) later became) (take_sound target setting state c call e sane s at call_is)
  by e at _ idle _ call_is became = absurd cc

  of : (o : Option Entry) → slice_get state.entries c ≡ o → event_by target setting state (Takes c call) o ≡ Some later → IsSound target setting later
  of None at became = absurd cc
  of (Some e) at became = by e at (is_idle e.routine) refl (is_call target call) refl became
event_sound target setting state later (Steps c) sane some fits s is = of (slice_get state.entries c) refl is where
  by : (e : Entry) → slice_get state.entries c ≡ Some e → (o : Option WordAccess) → wants target e ≡ o → (i : Bool) → is_idle e.routine ≡ i
      → stepped target setting state c e o ≡ Some later → IsSound target setting later
  by e at None want i idle became = absurd cc
  by e at (Some a) want false idle became = subst (λ (x : CoreState). IsSound target setting x) (some_is (record { words = made setting state a; entries = set state.entries c (after target setting e (found_by setting state a)) }) later became) (step_sound target setting state c e a sane some fits s at idle want)
  by e at (Some a) want true idle became = absurd (let no : None ≡ Some a = sym (idle_wants target e idle) ∙ want in cc)

  of : (o : Option Entry) → slice_get state.entries c ≡ o → event_by target setting state (Steps c) o ≡ Some later → IsSound target setting later
  of None at became = absurd cc
  of (Some e) at became = by e at (wants target e) refl (is_idle e.routine) refl became
