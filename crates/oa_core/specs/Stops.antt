-- The turn at which a replay stops.
use Rattle.std.specs.Prelude.{◌≡◌, ℕ, ◌+◌, ◌<◌, ◌≤◌, List, take, length, Ok, Err}
use Rattle.schedule_turns.specs.declared.turn.Turn.{Turn}
use Rattle.core_runs.specs.Replays.{Replay, Replaying, Refusal, StepOfNobody, turns_made}

-- from a state on, the first so many turns are made whole, and if there is a further one, it is refused, and with it all of them: a replay
-- stops there
pub record StopsAfter (p : Replay) (schedule : List Turn) (r : Replaying) (whole : ℕ) : Type 0 where
  pub within : whole ≤ length schedule
  pub made : (later : Replaying) × (turns_made p (take whole schedule) r ≡ Ok later)
  pub stopped : whole < length schedule → (refusal : Refusal) × (turns_made p (take (whole + 1) schedule) r ≡ Err refusal) × (turns_made p schedule r ≡ Err refusal)

-- if a step of nobody is needed, a replay under a longer limit stops at the same turn
pub record LongerStopsAlike : Type 0 where
  pub each : (p : Replay) (limit : ℕ) (schedule : List Turn) (r : Replaying) (whole steps : ℕ) → p.limit ≤ limit → StopsAfter p schedule r whole → turns_made p schedule r ≡ Err (StepOfNobody steps)
      → StopsAfter (record p { limit = limit }) schedule r whole
