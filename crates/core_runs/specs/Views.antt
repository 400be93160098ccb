-- The core seen: its words by their names, and its callers by their numbers.
use Rattle.std.specs.Prelude.{◌≡◌, ℕ, ◌<◌, true, length, unwrap_or, ◌==◌, if◌then◌else◌, Some, slice_get}
use Rattle.target_code.specs.declared.target.Target.{Target}
use Rattle.oa_words.specs.Words.{Word, in_row, word_count}
use Rattle.oa_words.specs.Starts.{Suits, start_word}
use Rattle.phase_pools.specs.Accesses.{WordAccess, word_of, word_after}
use Rattle.caller_parts.specs.declared.call.Call.{Call}
use Rattle.caller_parts.specs.Settings.{Setting}
use Rattle.caller_steps.specs.Entries.{Entry, idle_entry, is_idle}
use Rattle.caller_parts.specs.Calls.{is_call}
use Rattle.caller_steps.specs.Wants.{wants}
use Rattle.caller_steps.specs.After.{after, taken, signs}
use Rattle.core_runs.specs.Machine.{CoreState, CoreEvent, Takes, Steps, core_event, core_start, beginning_of}
use Rattle.oa_words.specs.Memories.{store, seen}
use Rattle.core_runs.specs.RunSigns.{event_signs, signed}

pub record CoreView : Type 0 where
  pub memory : Word → ℕ
  pub who : ℕ → Entry

-- past the callers there are idle ones
abbrev pub view : Setting → CoreState → CoreView
view setting state = record { memory = seen setting.sizes state.words; who = λ c. unwrap_or (slice_get state.entries c) (idle_entry c) }

-- a function changed at one place
abbrev pub put : {A : Type 0} → (ℕ → A) → ℕ → A → ℕ → A
put f k x i = if i == k then x else f i

-- as many words as the row has, an entry for each caller, and each caller wants a word of the row
pub record IsShaped (target : Target) (setting : Setting) (state : CoreState) : Type 0 where
  pub words : length state.words ≡ word_count setting.sizes
  pub callers : length state.entries ≡ setting.sizes.callers
  pub wanted : (c : ℕ) (e : Entry) (a : WordAccess) → slice_get state.entries c ≡ Some e → wants target e ≡ Some a → in_row setting.sizes (word_of a) ≡ true

-- one event: a caller takes a call, or makes the access that it wants and goes on with the word found
abbrev pub Moves : Target → Setting → CoreView → CoreEvent → CoreView → Type 0
Moves target setting before (Takes c call) later =
    (c < setting.sizes.callers) × (is_idle (before.who c).routine ≡ true) × (is_call target call ≡ true)
    × (later.memory ≡ before.memory) × (later.who ≡ put before.who c (taken setting.reclamation call (before.who c)))
Moves target setting before (Steps c) later =
    (a : WordAccess) × (c < setting.sizes.callers) × (wants target (before.who c) ≡ Some a) × (in_row setting.sizes (word_of a) ≡ true)
    × (later.memory ≡ store before.memory (word_of a) (word_after a (before.memory (word_of a))))
    × (later.who ≡ put before.who c (after target setting (before.who c) (before.memory (word_of a))))

-- ---- laws

-- each event of a shaped state is one of these, and its signs are those of the word found. An idle caller may take each call
-- of the target, and one that wants an access may make it
pub record EventsAreSeen (target : Target) (setting : Setting) : Type 0 where
  pub moves : (state later : CoreState) (event : CoreEvent) → IsShaped target setting state → core_event target setting state event ≡ Some later
      → Moves target setting (view setting state) event (view setting later)
  pub signs : (state : CoreState) (c : ℕ) (a : WordAccess) → IsShaped target setting state → c < setting.sizes.callers → wants target ((view setting state).who c) ≡ Some a
      → event_signs target setting state (Steps c) ≡ signed c (signs target setting ((view setting state).who c) ((view setting state).memory (word_of a)))
  pub takes : (state : CoreState) (c : ℕ) (call : Call) → IsShaped target setting state → c < setting.sizes.callers → is_idle ((view setting state).who c).routine ≡ true → is_call target call ≡ true
      → (later : CoreState) × (core_event target setting state (Takes c call) ≡ Some later)
  pub steps : (state : CoreState) (c : ℕ) (a : WordAccess) → IsShaped target setting state → c < setting.sizes.callers → wants target ((view setting state).who c) ≡ Some a
      → (later : CoreState) × (core_event target setting state (Steps c) ≡ Some later)

-- the start: each caller is idle, and if the initial nodes have their fields, each word says what its name does
pub record StartIsSeen (target : Target) (setting : Setting) : Type 0 where
  pub memory : Suits setting.sizes (beginning_of target setting) → (w : Word) → in_row setting.sizes w ≡ true → (view setting (core_start target setting)).memory w ≡ start_word setting.sizes (beginning_of target setting) w
  pub who : (c : ℕ) → (view setting (core_start target setting)).who c ≡ idle_entry c
