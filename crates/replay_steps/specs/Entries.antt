-- The entries of a replay, one for each script.
use Rattle.std.specs.Prelude.{◌≡◌, ℕ, ◌+◌, ◌≤◌, List, [], ◌∷◌, length, Some, slice_get}
use Rattle.barrier_check.specs.Paired.{Paired}
use Rattle.documents.specs.DocumentLimits.{most_calls}
use Rattle.caller_parts.specs.declared.call.Call.{Call}
use Rattle.caller_parts.specs.Settings.{Setting}
use Rattle.caller_steps.specs.Entries.{Entry, RoomyEntry, idle_entry}
use Rattle.core_runs.specs.Scripts.{script_of}
use Rattle.core_entries.specs.Callers.{BelongsTo}

abbrev pub core_part : RoomyEntry → Entry
core_part e = e.core

-- no script has more calls
abbrev pub IsShort : List Call → Type 0
IsShort script = length script ≤ most_calls

-- an idle entry with room for a script's replies
abbrev pub fresh_entry : ℕ → List Call → RoomyEntry
fresh_entry c script = record { core = idle_entry c; room = length script }

-- an idle entry for each script, from a number on
abbrev pub fresh_entries : ℕ → List (List Call) → List RoomyEntry
fresh_entries c [] = []
fresh_entries c (script ∷ scripts) = fresh_entry c script ∷ fresh_entries (c + 1) scripts

-- each caller's entry has room for one reply to each call of its script
abbrev pub HasRooms : List (List Call) → List RoomyEntry → Type 0
HasRooms scripts entries = (c : ℕ) (e : RoomyEntry) → slice_get entries c ≡ Some e → e.room ≡ length (script_of scripts c)

-- each caller's entry belongs to the target and the setting
pub record AllBelongTo (pair : Paired) (setting : Setting) (entries : List RoomyEntry) : Type 0 where
  pub each : (c : ℕ) (e : RoomyEntry) → slice_get entries c ≡ Some e → BelongsTo pair setting e.core
