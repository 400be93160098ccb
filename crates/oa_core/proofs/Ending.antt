-- The end of a replay is that of a complete run of its scripts; and what holds in every state of a run.
use Rattle.std.proofs.Common.{◌≡◌, ◌≤◌, ℕ, List, length, refl, sym, ap, subst}
use Rattle.std.specs.Prelude.{Result, Ok, Err, IfOk, All}
use Rattle.schedule_turns.specs.declared.turn.Turn.{Turn}
use Rattle.caller_parts.specs.declared.call.Call.{Call}
use Rattle.caller_parts.specs.Calls.{AreCalls}
use Rattle.caller_parts.specs.Settings.{Setting, Fits, IsSetting}
use Rattle.core_runs.specs.Machine.{CoreState, Reachable}
use Rattle.core_runs.specs.Scripts.{IsCompleteRun, SuitScripts}
use Rattle.core_runs.specs.Replays.{Replaying, Refusal, StepOfNobody, LongReplay, replayed}
use Rattle.core_runs.proofs.Replaying.{replays_reach}
use Rattle.core_runs.proofs.core_sound.Reached.{states_are_sound, states_stay}
use Rattle.barrier_check.specs.Paired.{Paired, IsSound}
use Rattle.run_laws.proofs.Following.{follows}
use Rattle.oa_core.specs.States.{RunsInRow}
use Rattle.oa_core.specs.declared.progress.Stop.{Stop}
use Rattle.oa_core.specs.declared.progress.Stop.TheVariants as stops
use Rattle.oa_core.specs.Finals.{Final, core_of, replay_of, refusal_of, LeadsTo, IsReplayRefused, AnswersTurns, AnswersReplay, EndsRun}
use Rattle.replay_steps.specs.Entries.{HasRooms}
use Rattle.replay_steps.specs.Turns.{made_to, refused}
use Rattle.oa_core.specs.declared.replaying.ReplayError.{ReplayError}
use Rattle.oa_core.specs.Shown.{Progress, shown, bare, bared, told, final_of, end_of, answer_of}
use Rattle.core_ground.proofs.Runnable.{runnable}

complete_end : (pair : Paired) (setting : Setting) (scripts : List (List Call)) (fuel : ℕ) (schedule : List Turn) (r : Replaying) (final : Final) → IsSound pair → IsSetting setting → Fits pair.target setting
    → 1 ≤ fuel → replayed (replay_of pair.target setting scripts fuel) schedule ≡ Ok r → IsCompleteRun pair.target setting scripts fuel r.events r.state → core_of final ≡ r.state
    → EndsRun pair.target pair.source setting scripts fuel schedule final
complete_end pair setting scripts fuel schedule r final sound own fits some given complete same = record {
  replaying = r;
  given = given;
  state = same;
  complete = ended;
  sound = states_are_sound pair.target pair.source setting (core_of final) (runnable pair sound) own fits reached;
  stays = states_stay pair.target pair.source setting (core_of final) (runnable pair sound) own fits reached;
  source = λ optimistic proper. follows pair setting sound own fits optimistic proper scripts fuel r.events (core_of final) some ended;
} where
  ended : IsCompleteRun pair.target setting scripts fuel r.events (core_of final)
  ended = subst (λ (s : CoreState). IsCompleteRun pair.target setting scripts fuel r.events s) (sym same) complete

  reached : Reachable pair.target setting (core_of final)
  reached = record { events = r.events; runs = ended.run.runs }

ends_by : (pair : Paired) (setting : Setting) (scripts : List (List Call)) (fuel : ℕ) (schedule : List Turn) (final : Final) → IsSound pair → IsSetting setting → Fits pair.target setting
    → SuitScripts pair.target setting scripts → 1 ≤ fuel → (given : Result Replaying Refusal) → replayed (replay_of pair.target setting scripts fuel) schedule ≡ given → LeadsTo final fuel given
    → EndsRun pair.target pair.source setting scripts fuel schedule final
ends_by pair setting scripts fuel schedule final sound own fits suit some (Err refusal) is leads = absurd leads
ends_by pair setting scripts fuel schedule final sound own fits suit some (Ok r) is leads =
    complete_end pair setting scripts fuel schedule r final sound own fits some is ((replays_reach (replay_of pair.target setting scripts fuel)).each schedule r suit some is).0 leads.0

-- what is answered ends a run
pub ends_run : (pair : Paired) (setting : Setting) (scripts : List (List Call)) (fuel : ℕ) (schedule : List Turn) (o : Result Final ReplayError) → IsSound pair → IsSetting setting → Fits pair.target setting
    → length scripts ≡ setting.sizes.callers → All (AreCalls pair.target) scripts → 1 ≤ fuel → AnswersReplay o fuel (replayed (replay_of pair.target setting scripts fuel) schedule)
    → IfOk o (λ s. EndsRun pair.target pair.source setting scripts fuel schedule s)
ends_run pair setting scripts fuel schedule (Err error) sound own fits count calls some given = tt
ends_run pair setting scripts fuel schedule (Ok final) sound own fits count calls some given =
    ends_by pair setting scripts fuel schedule final sound own fits (record { count = count; calls = calls }) some (replayed (replay_of pair.target setting scripts fuel) schedule) refl given

-- ---- what is answered

same_end : (now : Progress) (r : Replaying) → made_to (shown now) ≡ made_to (bare r) → shown now ≡ bare r
same_end now r is = cc

leads_there : (now : Progress) (fuel : ℕ) (given : Result Replaying Refusal) → made_to (shown now) ≡ bared given → LeadsTo (final_of now fuel) fuel given
leads_there now fuel (Ok r) is = (ap (λ (x : Replaying). x.state) (same_end now r is), refl)
leads_there now fuel (Err refusal) is = absurd (let no : made_to (shown now) ≡ refused refusal = is in cc)

refused_there : (refusal : Refusal) (given : Result Replaying Refusal) → refused refusal ≡ bared given → IsReplayRefused refusal given
refused_there refusal (Ok r) is = absurd (let no : refused refusal ≡ made_to (bare r) = is in cc)
refused_there refusal (Err other) is = let same : refused refusal ≡ refused other = is in cc

-- what was made is how it ends
pub ends_so : (made : Result (Unit {0}) Stop) (now : Progress) (fuel : ℕ) (given : Result Replaying Refusal) → told made now ≡ bared given → AnswersTurns (end_of made now fuel) fuel given
ends_so (Ok done) now fuel given is = leads_there now fuel given is
ends_so (Err stop) now fuel given is = refused_there (refusal_of stop) given is

pub rooms_so : (made : Result (Unit {0}) Stop) (now : Progress) (fuel : ℕ) (scripts : List (List Call)) → HasRooms scripts now.entries → IfOk (end_of made now fuel) (λ s. HasRooms scripts s.entries)
rooms_so (Ok done) now fuel scripts rooms = rooms
rooms_so (Err stop) now fuel scripts rooms = tt

-- and what is answered
pub answers_so : (ended : Result Final Stop) (fuel : ℕ) (given : Result Replaying Refusal) → AnswersTurns ended fuel given → AnswersReplay (answer_of ended) fuel given
answers_so (Ok final) fuel given leads = leads
answers_so (Err (stops.StepOfNobody steps)) fuel given stopped = stopped
answers_so (Err (stops.LongReplay steps)) fuel given stopped = stopped

pub rooms_stay : (ended : Result Final Stop) (scripts : List (List Call)) → IfOk ended (λ s. HasRooms scripts s.entries) → IfOk (answer_of ended) (λ s. HasRooms scripts s.entries)
rooms_stay (Ok final) scripts rooms = rooms
rooms_stay (Err stop) scripts rooms = tt

-- ---- every state

pub runs_in_row : (pair : Paired) (setting : Setting) → IsSound pair → IsSetting setting → Fits pair.target setting → RunsInRow pair.target setting
runs_in_row pair setting sound own fits = record {
  sound = λ state reached. states_are_sound pair.target pair.source setting state (runnable pair sound) own fits reached;
  stays = λ state reached. states_stay pair.target pair.source setting state (runnable pair sound) own fits reached;
}
