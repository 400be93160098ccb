-- Replays: the run of scripts that the turns of a schedule give.
use Rattle.std.specs.Prelude.{◌≡◌, ℕ, zero, suc, ◌+◌, ◌-◌, ◌≤◌, Bool, true, false, ◌&&◌, not, List, [], ◌∷◌, ◌++◌, length, Option, Some, None, Result, Ok, Err, nat_le, if◌then◌else◌, slice_get}
use Rattle.schedule_turns.specs.declared.turn.Turn.{Turn}
use Rattle.schedule_turns.specs.declared.turn.Turn.TheVariants as turns
use Rattle.schedule_turns.specs.declared.turn.StepKind.{StepKind}
use Rattle.schedule_turns.specs.declared.turn.StepKind.TheVariants as kinds
use Rattle.target_code.specs.declared.target.Target.{Target}
use Rattle.oa_words.specs.Words.{FieldOf, Cell}
use Rattle.phase_pools.specs.Accesses.{WordAccess, Loads, Exchanges}
use Rattle.caller_parts.specs.declared.call.Call.{Call}
use Rattle.caller_parts.specs.declared.routine.Routine.{Routine}
use Rattle.caller_parts.specs.declared.routine.Routine.TheVariants.{At}
use Rattle.caller_parts.specs.Settings.{Setting}
use Rattle.caller_steps.specs.Entries.{Entry, is_idle, instr_in}
use Rattle.caller_steps.specs.Wants.{wants}
use Rattle.caller_steps.specs.Belongs.{is_check_at}
use Rattle.core_runs.specs.Machine.{CoreState, CoreEvent, Takes, Steps, core_run, core_start}
use Rattle.core_runs.specs.Scripts.{script_of, IsCompleteRun, SuitScripts}

-- what is replayed: `fuel` steps at most for each call, and `limit` steps at most in all
pub record Replay : Type 0 where
  pub target : Target
  pub setting : Setting
  pub scripts : List (List Call)
  pub fuel : ℕ
  pub limit : ℕ

-- a replay under way: the core, the events that led there, and how many of them are steps
pub record Replaying : Type 0 where
  pub state : CoreState
  pub events : List CoreEvent
  pub steps : ℕ

-- why a replay is refused, with the number of steps made before
pub data Refusal : Type 0 where
  -- a turn needs a step of a caller that has none to take, or that doesn't exist
  StepOfNobody : (steps : ℕ) → Refusal
  -- the limit of steps is reached, and another is wanted
  LongReplay : (steps : ℕ) → Refusal

abbrev pub replay_start : Replay → Replaying
replay_start p = record { state = core_start p.target p.setting; events = []; steps = 0 }

-- ---- one step of a caller

-- so many steps were made for the call that it takes no more
abbrev pub is_spent : ℕ → Entry → Bool
is_spent fuel e = not (is_idle e.routine) && nat_le fuel e.running.steps

-- an idle caller takes the next call of its script before it makes a step
abbrev pub take_events : ℕ → Option Call → Option (List CoreEvent)
take_events c None = None
take_events c (Some call) = Some (Takes c call ∷ Steps c ∷ [])

-- the events of a caller's next step; none if it has no step to take. An idle caller has had a reply for each call that it took
abbrev pub entry_events : Replay → ℕ → Entry → Option (List CoreEvent)
entry_events p c e =
    if is_idle e.routine then take_events c (slice_get (script_of p.scripts c) (length e.replies))
    else (if is_spent p.fuel e then None else Some (Steps c ∷ []))

abbrev pub caller_events : Replay → ℕ → Option Entry → Option (List CoreEvent)
caller_events p c None = None
caller_events p c (Some e) = entry_events p c e

abbrev pub next_events : Replay → ℕ → Replaying → Option (List CoreEvent)
next_events p c r = caller_events p c (slice_get r.state.entries c)

-- after events that hold one step
abbrev pub stepped_to : Replaying → List CoreEvent → Option CoreState → Result Replaying Refusal
stepped_to r events None = Err (StepOfNobody r.steps)
stepped_to r events (Some state) = Ok (record { state = state; events = r.events ++ events; steps = r.steps + 1 })

-- that there is no step to take is told before that the limit is reached
abbrev pub step_by : Replay → Replaying → Option (List CoreEvent) → Result Replaying Refusal
step_by p r None = Err (StepOfNobody r.steps)
step_by p r (Some events) =
    if nat_le p.limit r.steps then Err (LongReplay r.steps) else stepped_to r events (core_run p.target p.setting events r.state)

abbrev pub one_step : Replay → ℕ → Replaying → Result Replaying Refusal
one_step p c r = step_by p r (next_events p c r)

-- and then more, if it was made
abbrev pub go_further : Result Replaying Refusal → (Replaying → Result Replaying Refusal) → Result Replaying Refusal
go_further (Err refusal) next = Err refusal
go_further (Ok r) next = next r

-- more steps than these can't be made
abbrev pub most_steps : Replay → Replaying → ℕ
most_steps p r = (p.limit - r.steps) + 1

-- ---- the kinds of access that turns count

-- a load of a root or a field is a Load, also if an exchange on null makes it; an exchange of a root or a field is an Exchange
abbrev pub kind_of_access : WordAccess → Option StepKind
kind_of_access (Loads (FieldOf j g)) = Some kinds.Load
kind_of_access (Loads (Cell x)) = Some kinds.Load
kind_of_access (Exchanges (FieldOf j g) expected replacement) = Some kinds.Exchange
kind_of_access (Exchanges (Cell x) expected replacement) = Some kinds.Exchange
kind_of_access _ = None

-- the load of the warning is a Check if the caller stands at a check, and of no kind if a method begins with it; announcements are of none
abbrev pub stands_at_check : Target → Entry → Routine → Bool
stands_at_check target e At = is_check_at (instr_in target e)
stands_at_check target e _ = false

abbrev pub kind_by : Bool → Option WordAccess → Option StepKind
kind_by true a = Some kinds.Check
kind_by false None = None
kind_by false (Some a) = kind_of_access a

abbrev pub kind_wanted : Target → Entry → Option StepKind
kind_wanted target e = kind_by (stands_at_check target e e.routine) (wants target e)

abbrev pub same_kind : StepKind → StepKind → Bool
same_kind kinds.Load kinds.Load = true
same_kind kinds.Check kinds.Check = true
same_kind kinds.Exchange kinds.Exchange = true
same_kind _ _ = false

abbrev pub is_of_kind : StepKind → Option StepKind → Bool
is_of_kind kind None = false
is_of_kind kind (Some other) = same_kind kind other

abbrev pub entry_wants_kind : Target → StepKind → Option Entry → Bool
entry_wants_kind target kind None = false
entry_wants_kind target kind (Some e) = is_of_kind kind (kind_wanted target e)

-- the caller's next access is of the kind; that of an idle one, with which a call begins, is of none
abbrev pub wants_kind : Replay → ℕ → StepKind → Replaying → Bool
wants_kind p c kind r = entry_wants_kind p.target kind (slice_get r.state.entries c)

-- ---- turns

-- so many steps
abbrev pub steps_made : Replay → ℕ → ℕ → Replaying → Result Replaying Refusal
steps_made p c zero r = Ok r
steps_made p c (suc n) r = go_further (one_step p c r) (steps_made p c n)

-- steps until the next access is the last of so many of the kind that were to come; that one isn't made. So a turn whose access
-- is wanted has ended, also if its caller has no step left
abbrev pub upto_made : Replay → ℕ → StepKind → ℕ → ℕ → Replaying → Result Replaying Refusal
upto_made p c kind zero left r = Err (LongReplay r.steps)
upto_made p c kind (suc most) left r =
    if wants_kind p c kind r then (if nat_le left 1 then Ok r else go_further (one_step p c r) (upto_made p c kind most (left - 1)))
    else go_further (one_step p c r) (upto_made p c kind most left)

-- how many of its calls have ended
abbrev pub calls_ended_of : Option Entry → ℕ
calls_ended_of None = 0
calls_ended_of (Some e) = length e.replies

abbrev pub ended_calls : ℕ → Replaying → ℕ
ended_calls c r = calls_ended_of (slice_get r.state.entries c)

-- steps until so many calls of the caller have ended
abbrev pub ops_made : Replay → ℕ → ℕ → ℕ → Replaying → Result Replaying Refusal
ops_made p c zero goal r = Err (LongReplay r.steps)
ops_made p c (suc most) goal r =
    if nat_le goal (ended_calls c r) then Ok r else go_further (one_step p c r) (ops_made p c most goal)

abbrev pub turn_made : Replay → Turn → Replaying → Result Replaying Refusal
turn_made p (turns.Step c n) r = steps_made p c n r
turn_made p (turns.Upto c kind n) r = upto_made p c kind (most_steps p r) n r
turn_made p (turns.Ops c n) r = ops_made p c (most_steps p r) (ended_calls c r + n) r

abbrev pub turns_made : Replay → List Turn → Replaying → Result Replaying Refusal
turns_made p [] r = Ok r
turns_made p (turn ∷ rest) r = go_further (turn_made p turn r) (turns_made p rest)

-- ---- to the end

-- a caller that has no step to take has ended, else it goes further
abbrev pub ended_or : Replaying → Option (List CoreEvent) → Result Replaying Refusal → Result Replaying Refusal
ended_or r None further = Ok r
ended_or r (Some events) further = further

-- the caller makes all the steps that it has
abbrev pub caller_ended : Replay → ℕ → ℕ → Replaying → Result Replaying Refusal
caller_ended p c zero r = Err (LongReplay r.steps)
caller_ended p c (suc most) r = ended_or r (next_events p c r) (go_further (one_step p c r) (caller_ended p c most))

-- so many callers, from one on, one after another
abbrev pub callers_ended : Replay → ℕ → ℕ → Replaying → Result Replaying Refusal
callers_ended p c zero r = Ok r
callers_ended p c (suc n) r = go_further (caller_ended p c (most_steps p r) r) (callers_ended p (c + 1) n)

-- the turns in order, and then each caller to its end, in the order of their numbers
abbrev pub replayed : Replay → List Turn → Result Replaying Refusal
replayed p turns = go_further (turns_made p turns (replay_start p)) (callers_ended p 0 p.setting.sizes.callers)

-- ---- laws

-- how many of the events are steps
abbrev pub steps_in : List CoreEvent → ℕ
steps_in [] = 0
steps_in (Takes c call ∷ events) = steps_in events
steps_in (Steps c ∷ events) = steps_in events + 1

-- what a replay answers is a complete run of its scripts
pub record ReplaysReach (p : Replay) : Type 0 where
  pub each : (turns : List Turn) (r : Replaying) → SuitScripts p.target p.setting p.scripts → 1 ≤ p.fuel → replayed p turns ≡ Ok r
      → IsCompleteRun p.target p.setting p.scripts p.fuel r.events r.state × (steps_in r.events ≡ r.steps) × (r.steps ≤ p.limit)
