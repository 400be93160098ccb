-- The conditions of the calls of an entry, and what they keep.
use Rattle.std.specs.Prelude.{◌≡◌, ◌<◌, false, length, Option, Some, None}
use Rattle.oa_words.specs.Words.{word_count}
use Rattle.phase_pools.specs.declared.access.Access.{Access}
use Rattle.caller_parts.specs.Settings.{Setting, Fits}
use Rattle.caller_parts.specs.declared.setting.Reclamation.{Reclamation}
use Rattle.caller_steps.specs.Entries.{Entry, RoomyEntry, is_idle}
use Rattle.caller_steps.specs.Belongs.{Belongs}
use Rattle.barrier_check.specs.Paired.{Paired, IsSound}
use Rattle.core_ground.specs.Ports.{at_of}
use Rattle.core_ground.specs.Running.{MayRun}

-- an entry that runs has room for one more reply
abbrev pub HasRoom : RoomyEntry → Type 0
HasRoom e = is_idle e.core.routine ≡ false → length e.core.replies < e.room

-- an entry belongs to a target and a setting that fits it
pub record BelongsTo (pair : Paired) (setting : Setting) (e : Entry) : Type 0 where
  pub fits : Fits pair.target setting
  pub belongs : Belongs pair.target setting e

-- to every fitting pair with more callers than its number, barred or run as it is
pub record BelongsToAll (e : Entry) : Type 0 where
  pub each : (pair : Paired) (setting : Setting) → IsSound pair → Fits pair.target setting → e.number < setting.sizes.callers → BelongsTo pair setting e
  pub any : (pair : Paired) (setting : Setting) → MayRun pair → Fits pair.target setting → e.number < setting.sizes.callers → BelongsTo pair setting e

-- for some fitting setting
abbrev pub BelongsToSome : Paired → Entry → Type 0
BelongsToSome pair e = (setting : Setting) × BelongsTo pair setting e

-- to whichever setting of the scheme the one belonged, the other does
pub record StaysWithAll (by : Reclamation) (pair : Paired) (before later : Entry) : Type 0 where
  pub each : (setting : Setting) → setting.reclamation ≡ by → BelongsTo pair setting before → BelongsTo pair setting later

-- the address is below the count of words
abbrev pub IsInRow : Setting → Option Access → Type 0
IsInRow setting None = Unit {0}
IsInRow setting (Some access) = at_of access < word_count setting.sizes
