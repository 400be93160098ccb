-- A whole run of scripts.
use Rattle.std.specs.Prelude.{◌≡◌, ℕ, List, length, slice_index, All}
use Rattle.caller_parts.specs.declared.call.Call.{Call}
use Rattle.caller_steps.specs.Entries.{RoomyEntry}
use Rattle.core_runs.specs.Machine.{CoreState, CoreEvent}
use Rattle.core_runs.specs.Scripts.{SuitScripts, IsCompleteRun}
use Rattle.core_runs.specs.core_sound.Sound.{IsSound}
use Rattle.word_runner.specs.table_rule.Seen.{Fixed}
use Rattle.word_runner.specs.table_rule.Seats.{cores}
use Rattle.word_runner.specs.Shown.{ArenaShown, BlankShown, CameFrom}
use Rattle.documents.specs.DocumentLimits.{most_calls}
use Rattle.thread_runs.specs.Scripts.{IsRoomForEach, IsLongest, Ended}

-- a blank of the arena, with this room
abbrev pub IsBlank : ArenaShown → ℕ → BlankShown → Type 0
IsBlank arena room b = CameFrom arena b.table b.fixed × (b.room ≡ room)

abbrev pub AllBlank : ArenaShown → ℕ → List BlankShown → Type 0
AllBlank arena room bs = All (IsBlank arena room) bs

-- each entry has taken its own script
abbrev pub AllEnded : Fixed → List (List Call) → ℕ → List RoomyEntry → Type 0
AllEnded key scripts fuel rs = All (Ended key scripts fuel) rs

-- each entry has room for the longest script, and no more
abbrev pub AllLongest : List (List Call) → List RoomyEntry → Type 0
AllLongest scripts rs = All (λ (r : RoomyEntry). IsLongest scripts r.room) rs

abbrev pub AreShort : List (List Call) → Type 0
AreShort scripts = IsRoomForEach scripts most_calls

-- so many callers that are ready to run, each with this room
pub record ReadyShown : Type 0 where
  pub fixed : Fixed
  pub count : ℕ
  pub room : ℕ

-- they are one for each script, with room for the longest
pub record IsReadyFor (scripts : List (List Call)) (r : ReadyShown) : Type 0 where
  pub suit : SuitScripts r.fixed.target.target r.fixed.setting scripts
  pub each : r.count ≡ length scripts
  pub longest : IsLongest scripts r.room
  pub short : AreShort scripts

-- the phase and the entries are those of one state of the core, in which a complete run of the scripts ends, and each entry has
-- room for the longest script
pub record IsFinalOf (key : Fixed) (scripts : List (List Call)) (fuel phase : ℕ) (entries : List RoomyEntry) : Type 0 where
  pub events : List CoreEvent
  pub core : CoreState
  pub complete : IsCompleteRun key.target.target key.setting scripts fuel events core
  pub sound : IsSound key.target.target key.setting core
  pub phase_is : phase ≡ slice_index core.words 0
  pub entries_are : cores entries ≡ core.entries
  pub rooms : AllLongest scripts entries
