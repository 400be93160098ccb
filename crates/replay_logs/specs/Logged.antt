-- What is answered: a run written down, or why there is none.
use Rattle.std.specs.Prelude.{◌≡◌, ℕ, true, List, map, Result, Ok, Err}
use Rattle.std.specs.List.{list_all}
use Rattle.norm_lang.specs.declared.text.Text.{Text}
use Rattle.norm_lang.specs.Limits.{is_reply}
use Rattle.schedule_turns.specs.declared.turn.Turn.{Turn}
use Rattle.target_code.specs.declared.target.Target.{Target}
use Rattle.caller_parts.specs.declared.call.Call.{Call}
use Rattle.caller_parts.specs.Settings.{Setting}
use Rattle.core_runs.specs.Replays.{Replay, Replaying, Refusal, StepOfNobody, LongReplay, replayed}
use Rattle.run_logs.specs.Logged.{is_sized}
use Rattle.oa_simulation.specs.sim_relation.Callers.{replies_of}
use Rattle.oa_simulation.specs.Shadow.{image}
use Rattle.replay_logs.specs.declared.error.LogError.{LogError}
use Rattle.replay_logs.specs.declared.error.LogError.TheVariants as errors
use Rattle.replay_logs.specs.declared.replaying.LoggedRun.{LoggedRun}
use Rattle.replay_logs.specs.UnderWay.{Terms, Progress, replay_by, Shows}

abbrev pub replay_for : Target → Setting → List (List Call) → ℕ → ℕ → Replay
replay_for target setting scripts fuel limit = record { target = target; setting = setting; scripts = scripts; fuel = fuel; limit = limit }

-- the run that is given: its image, and the replies in which it ends
pub record TellsRun (p : Replay) (text : Text) (given : Result Replaying Refusal) (run : LoggedRun) : Type 0 where
  pub replaying : Replaying
  pub is : given ≡ Ok replaying
  pub events : run.events ≡ image p.target text p.setting replaying.events
  pub replies : run.replies ≡ map replies_of replaying.state.entries
  pub sized : list_all is_sized run.events ≡ true
  pub numbers : list_all (list_all is_reply) run.replies ≡ true

-- what is answered, by what is given; that memory ran out says nothing of it
abbrev pub IsLogged : Replay → Text → Result Replaying Refusal → Result LoggedRun LogError → Type 0
IsLogged p text given (Ok run) = TellsRun p text given run
IsLogged p text given (Err errors.Memory) = Unit {0}
IsLogged p text given (Err (errors.StepOfNobody steps)) = given ≡ Err (StepOfNobody steps)
IsLogged p text given (Err (errors.LongReplay steps)) = given ≡ Err (LongReplay steps)

-- by what the turns of a schedule give
abbrev pub IsLoggedBy : Replay → Text → List Turn → Result LoggedRun LogError → Type 0
IsLoggedBy p text schedule result = IsLogged p text (replayed p schedule) result

-- from each replay that has come as far as a state
pub record LogsFrom (t : Terms) (now : Progress) (next : Replaying → Result Replaying Refusal) (result : Result LoggedRun LogError) : Type 0 where
  pub each : (r : Replaying) → Shows t now r → IsLogged (replay_by t) t.text (next r) result
