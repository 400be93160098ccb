-- The parts of a replay, step by step.
use Rattle.std.specs.Prelude.{ℕ, zero, suc, ◌+◌, Bool, true, false, not, List, Option, Some, None, is_some, Result, nat_le, slice_get}
use Rattle.schedule_turns.specs.declared.turn.StepKind.{StepKind}
use Rattle.schedule_turns.specs.declared.turn.Turn.{Turn}
use Rattle.schedule_turns.specs.declared.turn.Turn.TheVariants as turns
use Rattle.caller_steps.specs.Entries.{Entry}
use Rattle.core_runs.specs.Replays.{Replay, Replaying, Refusal, caller_events, most_steps, entry_wants_kind, calls_ended_of, steps_made, upto_made, ops_made, caller_ended}
use Rattle.replay_steps.specs.Turns.{left_after}
use Rattle.replay_logs.specs.declared.parts.Part.{Part}
use Rattle.replay_logs.specs.declared.parts.Part.TheVariants.{Steps, Upto, Ops, End}

abbrev pub caller_of : Part → ℕ
caller_of (Steps c n) = c
caller_of (Upto c kind n) = c
caller_of (Ops c goal) = c
caller_of (End c) = c

-- what a part gives
abbrev pub part_made : Replay → Part → Replaying → Result Replaying Refusal
part_made p (Steps c n) r = steps_made p c n r
part_made p (Upto c kind n) r = upto_made p c kind (most_steps p r) n r
part_made p (Ops c goal) r = ops_made p c (most_steps p r) goal r
part_made p (End c) r = caller_ended p c (most_steps p r) r

-- a turn, as it begins
abbrev pub part_of : Turn → List Entry → Part
part_of (turns.Step c n) entries = Steps c n
part_of (turns.Upto c kind n) entries = Upto c kind n
part_of (turns.Ops c n) entries = Ops c (calls_ended_of (slice_get entries c) + n)

-- ---- what is left of a part after a further step; none if it is over

abbrev pub steps_rest : ℕ → ℕ → Option Part
steps_rest c zero = None
steps_rest c (suc n) = Some (Steps c n)

abbrev pub upto_rest : ℕ → StepKind → Option ℕ → Option Part
upto_rest c kind None = None
upto_rest c kind (Some left) = Some (Upto c kind left)

abbrev pub rest_if : Bool → Part → Option Part
rest_if false part = None
rest_if true part = Some part

abbrev pub part_rest : Replay → Part → List Entry → Option Part
part_rest p (Steps c n) entries = steps_rest c n
part_rest p (Upto c kind left) entries = upto_rest c kind (left_after (entry_wants_kind p.target kind (slice_get entries c)) left)
part_rest p (Ops c goal) entries = rest_if (not (nat_le goal (calls_ended_of (slice_get entries c)))) (Ops c goal)
part_rest p (End c) entries = rest_if (is_some (caller_events p c (slice_get entries c))) (End c)
