-- Calls in order, by one caller and by a list of callers.
use Rattle.std.specs.Prelude.{◌≡◌, true, false, ℕ, ◌+◌, ◌-◌, ◌≤◌, ◌<◌, ◌⊎◌, List, [], ◌∷◌, length, drop, All}
use Rattle.caller_parts.specs.declared.call.Call.{Call}
use Rattle.caller_steps.specs.Entries.{Entry, RoomyEntry, idle_entry, is_idle}
use Rattle.caller_parts.specs.Calls.{AreCalls}
use Rattle.caller_steps.specs.After.{taken}
use Rattle.core_runs.specs.Scripts.{script_of}
use Rattle.documents.specs.DocumentLimits.{most_calls}
use Rattle.word_runner.specs.table_rule.Seen.{Fixed}
use Rattle.word_runner.specs.Shown.{ArenaShown, CallerShown, CameFrom, Operated}

-- the room holds each script
abbrev pub IsRoomForEach : List (List Call) → ℕ → Type 0
IsRoomForEach scripts room = All (λ (s : List Call). length s ≤ room) scripts

-- no room that holds each script is less
abbrev pub IsLeastOfRooms : List (List Call) → ℕ → Type 0
IsLeastOfRooms scripts least = (room : ℕ) → IsRoomForEach scripts room → least ≤ room

-- the room is the length of the longest script: the least room that holds each
pub record IsLongest (scripts : List (List Call)) (room : ℕ) : Type 0 where
  pub rooms : IsRoomForEach scripts room
  pub least : IsLeastOfRooms scripts room

-- the calls were taken in order, up to one that hasn't ended
abbrev pub Took : Fixed → List Call → ℕ → Entry → Entry → Type 0
Took key [] fuel e e' = e' ≡ e
Took key (call ∷ calls) fuel e e' =
    (mid : Entry) × (accesses : ℕ) × Operated key (taken key.setting.reclamation call e) fuel mid accesses
    × (((is_idle mid.routine ≡ false) × (e' ≡ mid)) ⊎ ((is_idle mid.routine ≡ true) × Took key calls fuel mid e'))

-- a caller ran the script
pub record RanScript (arena : ArenaShown) (script : List Call) (fuel : ℕ) (c c' : CallerShown) : Type 0 where
  pub table : c'.table ≡ c.table
  pub fixed : c'.fixed ≡ c.fixed
  pub room : c'.entry.room ≡ c.entry.room
  pub took : Took arena.fixed script fuel c.entry.core c'.entry.core

-- an idle caller of the arena with room for the replies of a script
pub record Ready (arena : ArenaShown) (script : List Call) (c : CallerShown) : Type 0 where
  pub came : CameFrom arena c.table c.fixed
  pub idle : is_idle c.entry.core.routine ≡ true
  pub room : length c.entry.core.replies + length script ≤ c.entry.room
  pub short : length script ≤ most_calls
  pub calls : AreCalls arena.fixed.target.target script

-- a caller that has entered and made no call, with room for the longest script
pub record Fresh (arena : ArenaShown) (scripts : List (List Call)) (c : CallerShown) : Type 0 where
  pub came : CameFrom arena c.table c.fixed
  pub idle : c.entry.core ≡ idle_entry c.entry.core.number
  pub within : c.entry.core.number < length scripts
  pub room : length (script_of scripts c.entry.core.number) ≤ c.entry.room
  pub short : length (script_of scripts c.entry.core.number) ≤ most_calls
  pub calls : AreCalls arena.fixed.target.target (script_of scripts c.entry.core.number)
  pub longest : IsLongest scripts c.entry.room

-- the calls of the entry's own script were taken from the start, with room for the longest script
pub record Ended (key : Fixed) (scripts : List (List Call)) (fuel : ℕ) (r : RoomyEntry) : Type 0 where
  pub took : Took key (script_of scripts r.core.number) fuel (idle_entry r.core.number) r.core
  pub longest : IsLongest scripts r.room

pub record Finished (arena : ArenaShown) (scripts : List (List Call)) (fuel : ℕ) (c : CallerShown) : Type 0 where
  pub came : CameFrom arena c.table c.fixed
  pub ended : Ended arena.fixed scripts fuel c.entry

abbrev pub AllFresh : ArenaShown → List (List Call) → List CallerShown → Type 0
AllFresh arena scripts cs = All (Fresh arena scripts) cs

abbrev pub AllFinished : ArenaShown → List (List Call) → ℕ → List CallerShown → Type 0
AllFinished arena scripts fuel cs = All (Finished arena scripts fuel) cs

-- i calls have ended, and whatever goes on from here goes on from the start
pub record Going (arena : ArenaShown) (script : List Call) (fuel i : ℕ) (c c' : CallerShown) : Type 0 where
  pub came : CameFrom arena c'.table c'.fixed
  pub table : c'.table ≡ c.table
  pub fixed : c'.fixed ≡ c.fixed
  pub room : c'.entry.room ≡ c.entry.room
  pub idle : is_idle c'.entry.core.routine ≡ true
  pub spare : length c'.entry.core.replies + (length script - i) ≤ c'.entry.room
  pub within : i ≤ length script
  pub calls : AreCalls arena.fixed.target.target script
  pub rest : (x : Entry) → Took arena.fixed (drop i script) fuel c'.entry.core x → Took arena.fixed script fuel c.entry.core x
