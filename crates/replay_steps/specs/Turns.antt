-- What turns count, and what they give from a state on.
use Rattle.std.specs.Prelude.{ℕ, ◌-◌, Bool, List, Option, Some, None, Result, Ok, Err, nat_le, if◌then◌else◌}
use Rattle.schedule_turns.specs.declared.turn.Turn.{Turn}
use Rattle.core_runs.specs.Replays.{Replay, Replaying, Refusal, go_further, turns_made, callers_ended}

-- how many accesses of the kind are left after a look at whether one is wanted; none if it is the last
abbrev pub left_after : Bool → ℕ → Option ℕ
left_after wanted left = if wanted then (if nat_le left 1 then None else Some (left - 1)) else Some left

-- the turns and then each caller to its end, from a state on
abbrev pub replayed_from : Replay → List Turn → Replaying → Result Replaying Refusal
replayed_from p schedule r = go_further (turns_made p schedule r) (callers_ended p 0 p.setting.sizes.callers)

-- a part of a replay that was made, and one that was refused
abbrev pub made_to : Replaying → Result Replaying Refusal
made_to r = Ok r

abbrev pub refused : Refusal → Result Replaying Refusal
refused refusal = Err refusal
