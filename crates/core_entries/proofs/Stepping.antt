-- One step on a list of words.
use Rattle.std.proofs.Common.{◌≡◌, ◌≢◌, ℕ, ◌<◌, Bool, true, false, List, length, length-set, Option, Some, None, refl, sym, ◌∙◌, ap, subst, [], arith}
use Rattle.std.specs.Prelude.{slice_index, slice_set}
use Rattle.oa_words.specs.Words.{address_of}
use Rattle.oa_words.proofs.Places.{within}
use Rattle.phase_pools.specs.declared.access.Access.{Access}
use Rattle.phase_pools.specs.Accesses.{WordAccess, Loads, Stores, Exchanges, Raises, word_of, word_after, located}
use Rattle.caller_parts.specs.Settings.{Setting, IsSetting}
use Rattle.caller_steps.specs.Entries.{Entry, RoomyEntry, is_idle}
use Rattle.caller_steps.specs.Wants.{wants}
use Rattle.caller_steps.specs.After.{after}
use Rattle.caller_steps.specs.Lawful.{Accepts, MayBeTold, IsSafe, AsksSafely}
use Rattle.caller_steps.specs.Asking.{located_option}
use Rattle.core_runs.specs.caller_laws.Laws.{EntriesAskSafely}
use Rattle.core_runs.proofs.caller_laws.Together.{safe}
use Rattle.core_runs.proofs.caller_laws.Stored.{after_store}
use Rattle.core_runs.proofs.core_sound.Machine.{store_lawful}
use Rattle.barrier_check.specs.Paired.{Paired, IsSound}
use Rattle.core_ground.specs.Ports.{at_of, left_by, answer_to}
use Rattle.core_runs.specs.RunSigns.{wanted_signs}
use Rattle.core_entries.specs.StepSigns.{is_of_text, all_named, step_signs, signs_told}
use Rattle.core_entries.specs.Callers.{BelongsTo}
use Rattle.core_entries.specs.Steps.{WordsSound, StepIs}
use Rattle.core_ground.proofs.Runnable.{runnable}
use Rattle.core_entries.proofs.Calling.{at_located}

-- the access that is pending, by its name
abbrev pub Pends : Paired → Setting → Entry → Access → Type 0
Pends pair setting e access = (a : WordAccess) × (wants pair.target e ≡ Some a) × (access ≡ located setting.sizes a)

pub pends : (pair : Paired) (setting : Setting) (e : Entry) (access : Access) → Some access ≡ located_option setting.sizes (wants pair.target e) → Pends pair setting e access
pends pair setting e access is = of (wants pair.target e) refl is where
  of : (o : Option WordAccess) → wants pair.target e ≡ o → Some access ≡ located_option setting.sizes o → Pends pair setting e access
  of None want is = absurd (let no : Some access ≡ None = is in cc)
  of (Some a) want is = (a, want, cc)

module _ (pair : Paired) (setting : Setting) (e : Entry) (words : List ℕ) (access : Access) (sound : IsSound pair) (own : IsSetting setting) (b : BelongsTo pair setting e)
    (lawful : WordsSound pair.target setting words) (pending : Some access ≡ located_option setting.sizes (wants pair.target e)) where
  pub it : Pends pair setting e access
  it = pends pair setting e access pending

  law : EntriesAskSafely pair.target setting
  law = safe pair.target pair.source setting (runnable pair sound) own b.fits

  busy : (i : Bool) → is_idle e.routine ≡ i → is_idle e.routine ≡ false
  busy true idle = absurd (let no : Some it.0 ≡ None = sym it.1 ∙ law.idle e idle in cc)
  busy false idle = idle

  its_safe : IsSafe pair.target setting it.0
  its_safe = subst (λ (o : Option WordAccess). AsksSafely pair.target setting o) it.1 (law.busy e b.belongs (busy (is_idle e.routine) refl))

  at_is : at_of access ≡ address_of setting.sizes (word_of it.0)
  at_is = ap at_of it.2 ∙ at_located setting it.0

  -- it is to one of the words
  pub step_within : at_of access < length words
  step_within = let lt = within setting.sizes (word_of it.0) its_safe.row in let count = lawful.count in let at = at_is in omega (arith, lt, count, at)

  pub found : ℕ
  found = slice_index words (address_of setting.sizes (word_of it.0))

  told_by : (a : WordAccess) → IsSafe pair.target setting a → Accepts pair.target setting a (answer_to (located setting.sizes a) (slice_index words (at_of (located setting.sizes a))))
  told_by (Loads w) s = lawful.lawful w s.row
  told_by (Stores w x) s = tt
  told_by (Exchanges w expected x) s = lawful.lawful w s.row
  told_by (Raises w x) s = lawful.lawful w s.row

  -- what it answers may be told
  pub step_told : MayBeTold pair.target setting (wants pair.target e) (answer_to access (slice_index words (at_of access)))
  step_told =
      subst (λ (o : Option WordAccess). MayBeTold pair.target setting o (answer_to access (slice_index words (at_of access)))) (sym it.1)
      (subst (λ (x : Access). Accepts pair.target setting it.0 (answer_to x (slice_index words (at_of x)))) (sym it.2) (told_by it.0 its_safe))

  told_found : (a : WordAccess) → IsSafe pair.target setting a → Accepts pair.target setting a (slice_index words (at_of (located setting.sizes a)))
  told_found (Loads w) s = lawful.lawful w s.row
  told_found (Stores w x) s = tt
  told_found (Exchanges w expected x) s = lawful.lawful w s.row
  told_found (Raises w x) s = lawful.lawful w s.row

  -- the word that stands there may be told
  pub step_found : MayBeTold pair.target setting (wants pair.target e) (slice_index words (at_of access))
  step_found =
      subst (λ (o : Option WordAccess). MayBeTold pair.target setting o (slice_index words (at_of access))) (sym it.1)
      (subst (λ (x : Access). Accepts pair.target setting it.0 (slice_index words (at_of x))) (sym it.2) (told_found it.0 its_safe))

  -- and gives the signs of the step
  pub step_tells : step_signs pair.target setting e (slice_index words (at_of access)) ≡ signs_told pair.target setting words e
  step_tells =
      ap (λ (at : ℕ). step_signs pair.target setting e (slice_index words at)) at_is
      ∙ sym (ap (λ (o : Option WordAccess). all_named (is_of_text pair.target e e.routine) (wanted_signs pair.target setting (record { words = words; entries = [] }) e o)) it.1)

  pub step_wants : wants pair.target e ≢ None
  step_wants none = let no : None ≡ Some it.0 = sym none ∙ it.1 in cc

  -- a store's answer is as good as the word that it found
  same_after : (a : WordAccess) → wants pair.target e ≡ Some a
      → after pair.target setting e (answer_to (located setting.sizes a) (slice_index words (at_of (located setting.sizes a)))) ≡ after pair.target setting e (slice_index words (address_of setting.sizes (word_of a)))
  same_after (Stores w x) want = (after_store pair.target setting e w x 0 (slice_index words (address_of setting.sizes w)) want).0
  same_after _ want = refl

  pub step_after : after pair.target setting e (answer_to access (slice_index words (at_of access))) ≡ after pair.target setting e (slice_index words (address_of setting.sizes (word_of it.0)))
  step_after = subst (λ (x : Access). after pair.target setting e (answer_to x (slice_index words (at_of x))) ≡ after pair.target setting e (slice_index words (address_of setting.sizes (word_of it.0)))) (sym it.2) (same_after it.0 it.1)

  same_left : (a : WordAccess)
      → slice_set words (at_of (located setting.sizes a)) (left_by (located setting.sizes a) (slice_index words (at_of (located setting.sizes a))))
      ≡ slice_set words (address_of setting.sizes (word_of a)) (word_after a (slice_index words (address_of setting.sizes (word_of a))))
  same_left (Loads w) = refl
  same_left _ = refl

  pub step_left : slice_set words (at_of access) (left_by access (slice_index words (at_of access))) ≡ slice_set words (address_of setting.sizes (word_of it.0)) (word_after it.0 found)
  unfolding found
  step_left = subst (λ (x : Access). slice_set words (at_of x) (left_by x (slice_index words (at_of x))) ≡ slice_set words (address_of setting.sizes (word_of it.0)) (word_after it.0 (slice_index words (address_of setting.sizes (word_of it.0))))) (sym it.2) (same_left it.0)

  -- the words are lawful again
  pub step_lawful : (later : List ℕ) → later ≡ slice_set words (at_of access) (left_by access (slice_index words (at_of access))) → WordsSound pair.target setting later
  unfolding found
  step_lawful later is = subst (λ (l : List ℕ). WordsSound pair.target setting l) (sym (is ∙ step_left)) (record {
    count = length-set words (address_of setting.sizes (word_of it.0)) (word_after it.0 found) ∙ lawful.count;
    lawful = store_lawful pair.target setting words (word_of it.0) (word_after it.0 found) lawful.count its_safe.row (its_safe.lawful found (lawful.lawful (word_of it.0) its_safe.row)) lawful.lawful;
  })

pub step_is : (pair : Paired) (setting : Setting) (before : RoomyEntry) (words later : List ℕ) (e' : RoomyEntry) (access : Access) → IsSound pair → IsSetting setting → BelongsTo pair setting before.core
    → WordsSound pair.target setting words → Some access ≡ located_option setting.sizes (wants pair.target before.core)
    → later ≡ slice_set words (at_of access) (left_by access (slice_index words (at_of access)))
    → e' ≡ record before { core = after pair.target setting before.core (answer_to access (slice_index words (at_of access))) } → StepIs pair.target setting words later before e'
unfolding found
step_is pair setting before words later e' access sound own b lawful pending left is = record {
  access = (it pair setting before.core words access sound own b lawful pending).0;
  wanted = (it pair setting before.core words access sound own b lawful pending).1;
  left = left ∙ step_left pair setting before.core words access sound own b lawful pending;
  entry = is ∙ ap (λ (c : Entry). record before { core = c }) (step_after pair setting before.core words access sound own b lawful pending);
}

-- one that wants no access tells nothing
pub idle_tells : (pair : Paired) (setting : Setting) (e : Entry) (words : List ℕ) → None ≡ located_option setting.sizes (wants pair.target e) → [] ≡ signs_told pair.target setting words e
idle_tells pair setting e words is = of (wants pair.target e) is where
  of : (o : Option WordAccess) → None ≡ located_option setting.sizes o → [] ≡ all_named (is_of_text pair.target e e.routine) (wanted_signs pair.target setting (record { words = words; entries = [] }) e o)
  of None is = refl
  of (Some a) is = absurd (let no : None ≡ Some (located setting.sizes a) = is in cc)
