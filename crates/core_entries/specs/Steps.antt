-- Steps of one caller on a list of words.
use Rattle.std.specs.Prelude.{◌≡◌, ◌≤◌, ◌⊎◌, ℕ, zero, suc, ◌-◌, true, false, List, length, Some, slice_index, slice_set}
use Rattle.target_code.specs.declared.target.Target.{Target}
use Rattle.oa_words.specs.Words.{address_of, word_count}
use Rattle.phase_pools.specs.Accesses.{WordAccess, word_of, word_after}
use Rattle.caller_parts.specs.Settings.{Setting}
use Rattle.caller_steps.specs.Entries.{RoomyEntry, is_idle}
use Rattle.caller_steps.specs.Wants.{wants}
use Rattle.caller_steps.specs.After.{after}
use Rattle.core_runs.specs.core_sound.Sound.{AreLawful}

-- as many words as the row has, all of them lawful
pub record WordsSound (target : Target) (setting : Setting) (words : List ℕ) : Type 0 where
  pub count : length words ≡ word_count setting.sizes
  pub lawful : AreLawful target setting words

-- a caller makes the access that it wants, and goes on with the word found
pub record StepIs (target : Target) (setting : Setting) (words later : List ℕ) (e e' : RoomyEntry) : Type 0 where
  pub access : WordAccess
  pub wanted : wants target e.core ≡ Some access
  pub left : later ≡ slice_set words (address_of setting.sizes (word_of access)) (word_after access (slice_index words (address_of setting.sizes (word_of access))))
  pub entry : e' ≡ record e { core = after target setting e.core (slice_index words (address_of setting.sizes (word_of access))) }

-- so many steps, each of a call that runs
abbrev pub StepsAre : Target → Setting → ℕ → List ℕ → List ℕ → RoomyEntry → RoomyEntry → Type 0
StepsAre target setting zero words later e e' = (later ≡ words) × (e' ≡ e)
StepsAre target setting (suc n) words later e e' =
    (is_idle e.core.routine ≡ false) × (mid : List ℕ) × (moved : RoomyEntry) × StepIs target setting words mid e moved × StepsAre target setting n mid later moved e'

-- of so many steps at most some are left, since the call has ended, or none
pub record RunIs (target : Target) (setting : Setting) (most left : ℕ) (words later : List ℕ) (e e' : RoomyEntry) : Type 0 where
  pub fewer : left ≤ most
  pub steps : StepsAre target setting (most - left) words later e e'
  pub ended : (left ≡ 0) ⊎ (is_idle e'.core.routine ≡ true)
