-- A replay under way as the code holds it: without its events.
use Rattle.std.specs.Prelude.{◌≡◌, ℕ, ◌<◌, All, true, false, List, [], ◌∷◌, map, length, Option, Some, None, option_map, Result, Ok, Err, if◌then◌else◌, slice_get, slice_set}
use Rattle.target_code.specs.declared.target.Target.{Target}
use Rattle.caller_parts.specs.declared.call.Call.{Call}
use Rattle.caller_parts.specs.Settings.{Setting, Fits}
use Rattle.caller_parts.specs.declared.setting.Reclamation.{Reclamation}
use Rattle.caller_steps.specs.Entries.{Entry, RoomyEntry, is_idle}
use Rattle.caller_parts.specs.Calls.{is_call, AreCalls}
use Rattle.caller_steps.specs.After.{taken}
use Rattle.core_runs.specs.Machine.{CoreEvent, Takes, Steps}
use Rattle.core_runs.specs.Scripts.{script_of}
use Rattle.core_runs.specs.Replays.{Replay, Replaying, Refusal, StepOfNobody, LongReplay, is_spent}
use Rattle.barrier_check.specs.Paired.{Paired}
use Rattle.oa_core.specs.declared.progress.Move.{Move}
use Rattle.oa_core.specs.declared.progress.Move.TheVariants as moves
use Rattle.oa_core.specs.declared.progress.Stop.{Stop}
use Rattle.oa_core.specs.declared.progress.Stop.TheVariants as stops
use Rattle.core_entries.specs.Steps.{WordsSound, StepIs}
use Rattle.oa_core.specs.declared.replaying.ReplayError.{ReplayError}
use Rattle.oa_core.specs.declared.replaying.ReplayError.TheVariants as errors
use Rattle.replay_steps.specs.Entries.{core_part, IsShort, HasRooms, AllBelongTo}
pub use Rattle.oa_core.specs.Finals.{refusal_of}
use Rattle.oa_core.specs.Finals.{Final, replay_limit}

-- what is replayed
pub record Terms : Type 0 where
  pub pair : Paired
  pub setting : Setting
  pub scripts : List (List Call)
  pub fuel : ℕ
  pub limit : ℕ

abbrev pub replay_by : Terms → Replay
replay_by t = record { target = t.pair.target; setting = t.setting; scripts = t.scripts; fuel = t.fuel; limit = t.limit }

-- under the limit of every replay
abbrev pub terms_of : Paired → Setting → List (List Call) → ℕ → Terms
terms_of pair setting scripts fuel = record { pair = pair; setting = setting; scripts = scripts; fuel = fuel; limit = replay_limit }

-- the words, the entries, and how many steps were made
pub record Progress : Type 0 where
  pub words : List ℕ
  pub entries : List RoomyEntry
  pub steps : ℕ

abbrev pub shown : Progress → Replaying
shown now = record { state = record { words = now.words; entries = map core_part now.entries }; events = []; steps = now.steps }

-- a replay without its events, which say how it came there
abbrev pub bare : Replaying → Replaying
bare r = record r { events = [] }

abbrev pub bared : Result Replaying Refusal → Result Replaying Refusal
bared (Ok r) = Ok (bare r)
bared (Err refusal) = Err refusal

abbrev pub told : Result (Unit {0}) Stop → Progress → Result Replaying Refusal
told (Ok done) now = Ok (shown now)
told (Err stop) now = Err (refusal_of stop)

-- ---- one step of a caller

-- what a caller does next: it takes a call and makes a step, or it makes a step; nothing if it has no step to take
abbrev pub next_of : ℕ → List Call → Entry → Option Move
next_of fuel script e =
    if is_idle e.routine then option_map moves.Takes (slice_get script (length e.replies))
    else (if is_spent fuel e then None else Some moves.GoesOn)

abbrev pub next_for : Terms → ℕ → Option RoomyEntry → Option Move
next_for t c None = None
next_for t c (Some e) = next_of t.fuel (script_of t.scripts c) e.core

abbrev pub next_in : Terms → ℕ → Progress → Option Move
next_in t c now = next_for t c (slice_get now.entries c)

abbrev pub events_of : ℕ → Move → List CoreEvent
events_of c (moves.Takes call) = Takes c call ∷ Steps c ∷ []
events_of c moves.GoesOn = Steps c ∷ []

-- the entry before the step
abbrev pub begun : Reclamation → Move → RoomyEntry → RoomyEntry
begun by (moves.Takes call) e = record e { core = taken by call e.core }
begun by moves.GoesOn e = e

-- an idle entry with room takes a call of the target; one that runs goes on
abbrev pub CanMove : Target → Move → RoomyEntry → Type 0
CanMove target (moves.Takes call) e = (is_idle e.core.routine ≡ true) × (length e.core.replies < e.room) × (is_call target call ≡ true)
CanMove target moves.GoesOn e = is_idle e.core.routine ≡ false

abbrev pub CanMoveAt : Target → Move → Option RoomyEntry → Type 0
CanMoveAt target next None = ⊥
CanMoveAt target next (Some e) = CanMove target next e

-- one entry made a step, and all others stay
pub record EntryMoves (target : Target) (setting : Setting) (words later : List ℕ) (next : Move) (c : ℕ) (entries others : List RoomyEntry) (e : RoomyEntry) : Type 0 where
  pub moved : RoomyEntry
  pub step : StepIs target setting words later (begun setting.reclamation next e) moved
  pub left : others ≡ slice_set entries c moved

abbrev pub MovesAt : Target → Setting → List ℕ → List ℕ → Move → ℕ → List RoomyEntry → List RoomyEntry → Option RoomyEntry → Type 0
MovesAt target setting words later next c entries others None = ⊥
MovesAt target setting words later next c entries others (Some e) = EntryMoves target setting words later next c entries others e

-- ---- what holds all the while

pub record IsUnderWay (t : Terms) (now : Progress) : Type 0 where
  pub words : WordsSound t.pair.target t.setting now.words
  pub belong : AllBelongTo t.pair t.setting now.entries
  pub rooms : HasRooms t.scripts now.entries
  pub calls : (c k : ℕ) (call : Call) → slice_get (script_of t.scripts c) k ≡ Some call → is_call t.pair.target call ≡ true

-- ---- the start and the whole

-- what the start needs
pub record SuitsReplay (t : Terms) : Type 0 where
  pub fits : Fits t.pair.target t.setting
  pub count : length t.scripts ≡ t.setting.sizes.callers
  pub calls : All (AreCalls t.pair.target) t.scripts
  pub few : All IsShort t.scripts

abbrev pub error_of : Stop → ReplayError
error_of (stops.StepOfNobody steps) = errors.StepOfNobody steps
error_of (stops.LongReplay steps) = errors.LongReplay steps

-- the state in which a replay has ended
abbrev pub final_of : Progress → ℕ → Final
final_of now fuel = record { words = now.words; entries = now.entries; fuel = fuel }

-- how it has ended
abbrev pub end_of : Result (Unit {0}) Stop → Progress → ℕ → Result Final Stop
end_of (Ok done) now fuel = Ok (final_of now fuel)
end_of (Err stop) now fuel = Err stop

-- what is answered then
abbrev pub answer_of : Result Final Stop → Result Final ReplayError
answer_of (Ok final) = Ok final
answer_of (Err stop) = Err (error_of stop)
