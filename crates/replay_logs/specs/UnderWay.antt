-- A replay under way that is written down, beside the replay that the turns give.
use Rattle.std.specs.Prelude.{◌≡◌, ℕ, All, Bool, true, false, not, List, map, length, Option, Some, None, is_some, Result, Ok, Err, if◌then◌else◌, slice_get, slice_set}
use Rattle.norm_lang.specs.declared.text.Text.{Text}
use Rattle.barrier_check.specs.Paired.{Paired, IsSound}
use Rattle.norm_lang.specs.declared.reply.SourceReply.{SourceReply}
use Rattle.source_machine.specs.Calls.{IsOfSourceRun}
use Rattle.caller_parts.specs.declared.call.Call.{Call}
use Rattle.caller_parts.specs.Calls.{AreCalls}
use Rattle.caller_parts.specs.Settings.{Setting, IsSetting, Fits}
use Rattle.caller_parts.specs.declared.setting.Reclamation.{Reclamation}
use Rattle.caller_steps.specs.Entries.{Entry, RoomyEntry, is_idle}
use Rattle.caller_steps.specs.After.{taken}
use Rattle.core_runs.specs.Machine.{CoreState, core_start, core_run}
use Rattle.core_runs.specs.Scripts.{script_of}
use Rattle.core_runs.specs.Replays.{Replay, Replaying, Refusal, StepOfNobody, LongReplay, is_spent}
use Rattle.core_entries.specs.Callers.{BelongsTo}
use Rattle.core_entries.specs.Steps.{StepIs}
use Rattle.core_entries.specs.StepSigns.{signs_told}
use Rattle.oa_simulation.specs.sim_relation.Callers.{replies_of}
use Rattle.oa_simulation.specs.Shadow.{shadow}
use Rattle.run_logs.specs.Logged.{Recording, logged_all}
use Rattle.run_logs.specs.LogLaws.{recording}
use Rattle.replay_steps.specs.Entries.{core_part, IsShort, HasRooms}
use Rattle.replay_logs.specs.declared.error.LogError.{LogError}
use Rattle.replay_logs.specs.declared.error.LogError.TheVariants as errors

-- what is replayed: of a target and its text
pub record Terms : Type 0 where
  pub pair : Paired
  pub text : Text
  pub setting : Setting
  pub scripts : List (List Call)
  pub fuel : ℕ
  pub limit : ℕ

abbrev pub replay_by : Terms → Replay
replay_by t = record { target = t.pair.target; setting = t.setting; scripts = t.scripts; fuel = t.fuel; limit = t.limit }

-- the words, the entries, what was written down, and how many steps were made
pub record Progress : Type 0 where
  pub words : List ℕ
  pub entries : List RoomyEntry
  pub log : Recording
  pub steps : ℕ

abbrev pub cores_of : Progress → List Entry
cores_of now = map core_part now.entries

abbrev pub core_in : Progress → CoreState
core_in now = record { words = now.words; entries = cores_of now }

abbrev pub entry_replies : RoomyEntry → List SourceReply
entry_replies e = replies_of e.core

-- ---- one step of a caller

-- an idle caller has a step to take if its script has a further call, and one that runs if it isn't spent
abbrev pub has_next : ℕ → List Call → Entry → Bool
has_next fuel script e = if is_idle e.routine then is_some (slice_get script (length e.replies)) else not (is_spent fuel e)

abbrev pub has_next_for : Terms → ℕ → Option RoomyEntry → Bool
has_next_for t c None = false
has_next_for t c (Some e) = has_next t.fuel (script_of t.scripts c) e.core

abbrev pub has_next_in : Terms → ℕ → Progress → Bool
has_next_in t c now = has_next_for t c (slice_get now.entries c)

-- an idle entry takes the next call of its script before it makes a step
abbrev pub begun_by : Reclamation → Option Call → RoomyEntry → RoomyEntry
begun_by by None e = e
begun_by by (Some call) e = record e { core = taken by call e.core }

abbrev pub begun : Reclamation → List Call → RoomyEntry → RoomyEntry
begun by script e = if is_idle e.core.routine then begun_by by (slice_get script (length e.core.replies)) e else e

-- what is written down after a step of an entry that runs
abbrev pub log_after : Terms → List ℕ → Entry → Recording → Recording
log_after t words e log = logged_all t.text e.number e.running.call (signs_told t.pair.target t.setting words e) log

-- the entry belongs, and has a step to take and room for a reply to each call of its script
pub record CanMove (t : Terms) (script : List Call) (e : RoomyEntry) : Type 0 where
  pub belongs : BelongsTo t.pair t.setting e.core
  pub next : has_next t.fuel script e.core ≡ true
  pub room : e.room ≡ length script
  pub calls : AreCalls t.pair.target script

abbrev pub CanMoveAt : Terms → List Call → Option RoomyEntry → Type 0
CanMoveAt t script None = ⊥
CanMoveAt t script (Some e) = CanMove t script e

-- one entry made a step, which was written down, and all others stay
pub record EntryMoves (t : Terms) (words later : List ℕ) (log logged : Recording) (c : ℕ) (entries others : List RoomyEntry) (e : RoomyEntry) : Type 0 where
  pub moved : RoomyEntry
  pub step : StepIs t.pair.target t.setting words later (begun t.setting.reclamation (script_of t.scripts c) e) moved
  pub left : others ≡ slice_set entries c moved
  pub written : logged ≡ log_after t words (begun t.setting.reclamation (script_of t.scripts c) e).core log

abbrev pub MovesAt : Terms → List ℕ → List ℕ → Recording → Recording → ℕ → List RoomyEntry → List RoomyEntry → Option RoomyEntry → Type 0
MovesAt t words later log logged c entries others None = ⊥
MovesAt t words later log logged c entries others (Some e) = EntryMoves t words later log logged c entries others e

-- a caller made a step, which isn't counted yet
pub record Moves (t : Terms) (c : ℕ) (old new : Progress) : Type 0 where
  pub at : MovesAt t old.words new.words old.log new.log c old.entries new.entries (slice_get old.entries c)
  pub source : IsOfSourceRun t.text new.log.machine
  pub steps : new.steps ≡ old.steps

-- ---- what holds all the while

pub record Suits (t : Terms) : Type 0 where
  pub sound : IsSound t.pair
  pub own : IsSetting t.setting
  pub fits : Fits t.pair.target t.setting
  pub calls : All (AreCalls t.pair.target) t.scripts

-- the replay has come as far, and what its events give the source machine is written down
pub record Shows (t : Terms) (now : Progress) (r : Replaying) : Type 0 where
  pub state : core_in now ≡ r.state
  pub steps : now.steps ≡ r.steps
  pub runs : core_run t.pair.target t.setting r.events (core_start t.pair.target t.setting) ≡ Some r.state
  pub written : now.log ≡ recording (shadow t.pair.target t.text t.setting r.events)
  pub rooms : HasRooms t.scripts now.entries
  pub source : IsOfSourceRun t.text now.log.machine

pub record IsUnderWay (t : Terms) (now : Progress) : Type 0 where
  pub suits : Suits t
  pub replaying : Replaying
  pub shows : Shows t now replaying

-- what the code tells of a part of the replay, against what that part gives; if memory ran out, nothing is told
abbrev pub Tells : Terms → Result (Unit {0}) LogError → Progress → Result Replaying Refusal → Type 0
Tells t (Ok done) now (Ok r) = Shows t now r
Tells t (Ok done) now (Err refusal) = ⊥
Tells t (Err errors.Memory) now given = Unit {0}
Tells t (Err (errors.StepOfNobody steps)) now given = given ≡ Err (StepOfNobody steps)
Tells t (Err (errors.LongReplay steps)) now given = given ≡ Err (LongReplay steps)

-- from each replay that has come as far
pub record Follows (t : Terms) (old : Progress) (result : Result (Unit {0}) LogError) (new : Progress) (next : Replaying → Result Replaying Refusal) : Type 0 where
  pub each : (r : Replaying) → Shows t old r → Tells t result new (next r)

-- ---- the start

-- a caller for each script, none of which is too long
pub record Starts (t : Terms) : Type 0 where
  pub count : length t.scripts ≡ t.setting.sizes.callers
  pub few : All IsShort t.scripts
