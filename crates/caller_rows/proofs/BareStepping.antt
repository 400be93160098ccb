-- One step on a list of words of a caller that runs a text as it is.
use Rattle.std.proofs.Common.{◌≡◌, ◌≢◌, ℕ, Bool, true, false, List, length-set, Option, Some, None, refl, sym, ◌∙◌, subst}
use Rattle.std.specs.Prelude.{slice_index, slice_set}
use Rattle.norm_lang.specs.declared.text.Text.{Text}
use Rattle.target_code.specs.Bare.{bare}
use Rattle.oa_words.specs.Words.{address_of}
use Rattle.phase_pools.specs.declared.access.Access.{Access}
use Rattle.phase_pools.specs.Accesses.{WordAccess, Loads, Stores, Exchanges, Raises, word_of, word_after, located}
use Rattle.caller_parts.specs.Settings.{Setting, IsSetting}
use Rattle.caller_steps.specs.Entries.{Entry, is_idle}
use Rattle.caller_steps.specs.Wants.{wants}
use Rattle.caller_steps.specs.Lawful.{Accepts, MayBeTold, IsSafe, AsksSafely}
use Rattle.caller_steps.specs.Asking.{located_option}
use Rattle.core_runs.specs.caller_laws.Laws.{EntriesAskSafely}
use Rattle.core_runs.proofs.caller_laws.Together.{safe}
use Rattle.core_runs.proofs.core_sound.Machine.{store_lawful}
use Rattle.barrier_check.specs.Paired.{Paired}
use Rattle.core_ground.specs.Ports.{at_of, left_by, answer_to}
use Rattle.core_ground.specs.Running.{bare_pair, MayRun}
use Rattle.core_entries.specs.Callers.{BelongsTo}
use Rattle.core_entries.specs.Steps.{WordsSound}
use Rattle.core_entries.proofs.Stepping.{Pends, pends}

at_located : (setting : Setting) (a : WordAccess) → at_of (located setting.sizes a) ≡ address_of setting.sizes (word_of a)
at_located setting (Loads w) = refl
at_located setting _ = refl

module _ (pair : Paired) (setting : Setting) (e : Entry) (words : List ℕ) (access : Access) (may : MayRun pair) (own : IsSetting setting) (b : BelongsTo pair setting e)
    (lawful : WordsSound pair.target setting words) (pending : Some access ≡ located_option setting.sizes (wants pair.target e)) where
  it : Pends pair setting e access
  it = pends pair setting e access pending

  law : EntriesAskSafely pair.target setting
  law = safe pair.target pair.source setting may own b.fits

  busy : (i : Bool) → is_idle e.routine ≡ i → is_idle e.routine ≡ false
  busy true idle = absurd (let no : Some it.0 ≡ None = sym it.1 ∙ law.idle e idle in cc)
  busy false idle = idle

  its_safe : IsSafe pair.target setting it.0
  its_safe = subst (λ (o : Option WordAccess). AsksSafely pair.target setting o) it.1 (law.busy e b.belongs (busy (is_idle e.routine) refl))

  told_by : (a : WordAccess) → IsSafe pair.target setting a → Accepts pair.target setting a (answer_to (located setting.sizes a) (slice_index words (at_of (located setting.sizes a))))
  told_by (Loads w) s = lawful.lawful w s.row
  told_by (Stores w x) s = tt
  told_by (Exchanges w expected x) s = lawful.lawful w s.row
  told_by (Raises w x) s = lawful.lawful w s.row

  -- what it answers may be told
  pub bare_told : MayBeTold pair.target setting (wants pair.target e) (answer_to access (slice_index words (at_of access)))
  bare_told =
      subst (λ (o : Option WordAccess). MayBeTold pair.target setting o (answer_to access (slice_index words (at_of access)))) (sym it.1)
      (subst (λ (x : Access). Accepts pair.target setting it.0 (answer_to x (slice_index words (at_of x)))) (sym it.2) (told_by it.0 its_safe))

  pub bare_wants : wants pair.target e ≢ None
  bare_wants none = let no : None ≡ Some it.0 = sym none ∙ it.1 in cc

  same_left : (a : WordAccess)
      → slice_set words (at_of (located setting.sizes a)) (left_by (located setting.sizes a) (slice_index words (at_of (located setting.sizes a))))
      ≡ slice_set words (address_of setting.sizes (word_of a)) (word_after a (slice_index words (address_of setting.sizes (word_of a))))
  same_left (Loads w) = refl
  same_left _ = refl

  found : ℕ
  found = slice_index words (address_of setting.sizes (word_of it.0))

  step_left : slice_set words (at_of access) (left_by access (slice_index words (at_of access))) ≡ slice_set words (address_of setting.sizes (word_of it.0)) (word_after it.0 found)
  unfolding found
  step_left = subst (λ (x : Access). slice_set words (at_of x) (left_by x (slice_index words (at_of x))) ≡ slice_set words (address_of setting.sizes (word_of it.0)) (word_after it.0 (slice_index words (address_of setting.sizes (word_of it.0))))) (sym it.2) (same_left it.0)

  -- the words are lawful again
  pub bare_lawful : (later : List ℕ) → later ≡ slice_set words (at_of access) (left_by access (slice_index words (at_of access))) → WordsSound pair.target setting later
  unfolding found
  bare_lawful later is = subst (λ (l : List ℕ). WordsSound pair.target setting l) (sym (is ∙ step_left)) (record {
    count = length-set words (address_of setting.sizes (word_of it.0)) (word_after it.0 found) ∙ lawful.count;
    lawful = store_lawful pair.target setting words (word_of it.0) (word_after it.0 found) lawful.count its_safe.row (its_safe.lawful found (lawful.lawful (word_of it.0) its_safe.row)) lawful.lawful;
  })

-- ---- the same where a row is seen as its text and its setting

pub told_at : (row : Text × Setting) (text : Text) (setting : Setting) (e : Entry) (words : List ℕ) (access : Access) → row ≡ (text, setting) → MayRun (bare_pair row.0) → IsSetting row.1
    → BelongsTo (bare_pair row.0) row.1 e → WordsSound (bare row.0) row.1 words → Some access ≡ located_option setting.sizes (wants (bare text) e)
    → MayBeTold (bare text) setting (wants (bare text) e) (answer_to access (slice_index words (at_of access)))
told_at row text setting e words access is =
    subst
    (λ (r : Text × Setting). MayRun (bare_pair r.0) → IsSetting r.1 → BelongsTo (bare_pair r.0) r.1 e → WordsSound (bare r.0) r.1 words → Some access ≡ located_option setting.sizes (wants (bare text) e)
    → MayBeTold (bare text) setting (wants (bare text) e) (answer_to access (slice_index words (at_of access))))
    (sym is)
    (λ may own b lawful pending. bare_told (bare_pair text) setting e words access may own b lawful pending)

pub lawful_at : (row : Text × Setting) (text : Text) (setting : Setting) (e : Entry) (words later : List ℕ) (access : Access) → row ≡ (text, setting) → MayRun (bare_pair row.0) → IsSetting row.1
    → BelongsTo (bare_pair row.0) row.1 e → WordsSound (bare row.0) row.1 words → Some access ≡ located_option setting.sizes (wants (bare text) e)
    → later ≡ slice_set words (at_of access) (left_by access (slice_index words (at_of access))) → WordsSound (bare row.0) row.1 later
lawful_at row text setting e words later access is =
    subst
    (λ (r : Text × Setting). MayRun (bare_pair r.0) → IsSetting r.1 → BelongsTo (bare_pair r.0) r.1 e → WordsSound (bare r.0) r.1 words → Some access ≡ located_option setting.sizes (wants (bare text) e)
    → later ≡ slice_set words (at_of access) (left_by access (slice_index words (at_of access))) → WordsSound (bare r.0) r.1 later)
    (sym is)
    (λ may own b lawful pending left. bare_lawful (bare_pair text) setting e words access may own b lawful pending later left)
