-- The end of a run of scripts, and what a replay answers.
use Rattle.std.specs.Prelude.{◌≡◌, ℕ, Bool, false, List, map, Option, Some, None, Result, Ok, Err, slice_get, slice_index}
use Rattle.schedule_turns.specs.declared.turn.Turn.{Turn}
use Rattle.norm_lang.specs.declared.text.Text.{Text}
use Rattle.target_code.specs.declared.target.Target.{Target}
use Rattle.source_machine.specs.Proper.{IsProperFor}
use Rattle.caller_parts.specs.declared.call.Call.{Call}
use Rattle.caller_parts.specs.Settings.{Setting}
use Rattle.caller_parts.specs.declared.setting.Reclamation.TheVariants.{Optimistic}
use Rattle.caller_steps.specs.Entries.{RoomyEntry}
use Rattle.core_runs.specs.Machine.{CoreState}
use Rattle.core_runs.specs.Scripts.{IsCompleteRun}
use Rattle.core_runs.specs.Replays.{Replay, Replaying, Refusal, StepOfNobody, LongReplay, is_spent, replayed}
use Rattle.core_runs.specs.core_sound.Sound.{IsSound, StaysInRow}
use Rattle.run_laws.specs.Source.{FollowsSource}
pub use Rattle.replay_steps.specs.Entries.{core_part}
use Rattle.oa_core.specs.declared.limits.TheConstants.{MOST_STEPS}
use Rattle.oa_core.specs.declared.progress.Stop.{Stop}
use Rattle.oa_core.specs.declared.progress.Stop.TheVariants as stops
use Rattle.oa_core.specs.declared.replaying.ReplayError.{ReplayError}
use Rattle.oa_core.specs.declared.replaying.ReplayError.TheVariants as errors

-- the words and the entries in which a run of scripts ended, and the steps that each call could get
pub record Final : Type 0 where
  pub words : List ℕ
  pub entries : List RoomyEntry
  pub fuel : ℕ

abbrev pub core_of : Final → CoreState
core_of final = record { words = final.words; entries = map core_part final.entries }

-- the phase is the first word
abbrev pub phase_of : Final → ℕ
phase_of final = slice_index final.words 0

-- whether a caller has an operation that was spent
abbrev pub entry_spent : ℕ → Option RoomyEntry → Bool
entry_spent fuel None = false
entry_spent fuel (Some e) = is_spent fuel e.core

abbrev pub is_spent_in : Final → ℕ → Bool
is_spent_in final c = entry_spent final.fuel (slice_get final.entries c)

-- ---- replays

-- the most steps of a replay
unfoldable pub replay_limit : ℕ
replay_limit = MOST_STEPS

abbrev pub replay_of : Target → Setting → List (List Call) → ℕ → Replay
replay_of target setting scripts fuel = record { target = target; setting = setting; scripts = scripts; fuel = fuel; limit = replay_limit }

-- the turns lead to this end
abbrev pub LeadsTo : Final → ℕ → Result Replaying Refusal → Type 0
LeadsTo final fuel (Ok r) = (core_of final ≡ r.state) × (final.fuel ≡ fuel)
LeadsTo final fuel (Err refusal) = ⊥

-- they are refused so
abbrev pub IsReplayRefused : Refusal → Result Replaying Refusal → Type 0
IsReplayRefused refusal (Ok r) = ⊥
IsReplayRefused refusal (Err other) = other ≡ refusal

-- why it stopped, as it is refused
abbrev pub refusal_of : Stop → Refusal
refusal_of (stops.StepOfNobody steps) = StepOfNobody steps
refusal_of (stops.LongReplay steps) = LongReplay steps

-- a replay that is ready answers what its turns give
abbrev pub AnswersTurns : Result Final Stop → ℕ → Result Replaying Refusal → Type 0
AnswersTurns (Ok final) fuel given = LeadsTo final fuel given
AnswersTurns (Err stop) fuel given = IsReplayRefused (refusal_of stop) given

-- a replay answers what its turns give; that memory ran out says nothing of them
abbrev pub AnswersReplay : Result Final ReplayError → ℕ → Result Replaying Refusal → Type 0
AnswersReplay (Ok final) fuel given = LeadsTo final fuel given
AnswersReplay (Err errors.Memory) fuel given = Unit {0}
AnswersReplay (Err (errors.StepOfNobody steps)) fuel given = IsReplayRefused (StepOfNobody steps) given
AnswersReplay (Err (errors.LongReplay steps)) fuel given = IsReplayRefused (LongReplay steps) given

-- ---- runs of scripts

-- the turns give a complete run of the scripts, which ends so: each caller's entry belongs, each word is lawful, and nothing leads out of
-- the row. If the text is proper for the setting's callers, under optimistic access, the run is one of the text on memory that is never recycled
pub record EndsRun (target : Target) (text : Text) (setting : Setting) (scripts : List (List Call)) (fuel : ℕ) (schedule : List Turn) (final : Final) : Type 0 where
  pub replaying : Replaying
  pub given : replayed (replay_of target setting scripts fuel) schedule ≡ Ok replaying
  pub state : core_of final ≡ replaying.state
  pub complete : IsCompleteRun target setting scripts fuel replaying.events (core_of final)
  pub sound : IsSound target setting (core_of final)
  pub stays : StaysInRow target setting (core_of final)
  pub source : setting.reclamation ≡ Optimistic → IsProperFor setting.sizes.callers text → FollowsSource target text setting scripts replaying.events (core_of final)
