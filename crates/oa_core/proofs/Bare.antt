-- What a replay does next doesn't hang on its events.
use Rattle.std.proofs.Common.{◌≡◌, ◌-◌, ℕ, zero, suc, ◌+◌, Bool, true, false, List, [], ◌∷◌, Option, Some, None, refl, sym, ap, ◌∙◌, if◌then◌else◌}
use Rattle.std.specs.Prelude.{Result, Ok, Err, nat_le}
use Rattle.schedule_turns.specs.declared.turn.Turn.{Turn}
use Rattle.schedule_turns.specs.declared.turn.Turn.TheVariants as turns
use Rattle.schedule_turns.specs.declared.turn.StepKind.{StepKind}
use Rattle.core_runs.specs.Machine.{CoreState, CoreEvent, core_run}
use Rattle.core_runs.specs.Replays.{Replay, Replaying, Refusal, LongReplay, next_events, stepped_to, step_by, one_step, go_further, most_steps, wants_kind, steps_made, upto_made, ended_calls, ops_made, turn_made, turns_made, ended_or, caller_ended, callers_ended}
use Rattle.replay_steps.specs.Turns.{made_to, refused}
use Rattle.oa_core.specs.Shown.{bare, bared}

-- what follows is the same without the events that led there
pub record Blind (next : Replaying → Result Replaying Refusal) : Type 0 where
  pub each : (r : Replaying) → bared (next r) ≡ bared (next (bare r))

same_ok : (x y : Replaying) → made_to x ≡ made_to y → x ≡ y
same_ok x y is = cc

-- of two that are the same but for their events, so is what follows
pub goes_alike : (next : Replaying → Result Replaying Refusal) → Blind next → (a b : Result Replaying Refusal) → bared a ≡ bared b → bared (go_further a next) ≡ bared (go_further b next)
goes_alike next blind (Err x) (Err y) same = same
goes_alike next blind (Err x) (Ok s) same = absurd (let no : refused x ≡ made_to (bare s) = same in cc)
goes_alike next blind (Ok r) (Err y) same = absurd (let no : made_to (bare r) ≡ refused y = same in cc)
goes_alike next blind (Ok r) (Ok s) same =
    blind.each r ∙ (ap (λ (x : Replaying). bared (next x)) (same_ok (bare r) (bare s) same) ∙ sym (blind.each s))

-- ---- one step

stepped_blind : (r : Replaying) (events : List CoreEvent) (o : Option CoreState) → bared (stepped_to r events o) ≡ bared (stepped_to (bare r) events o)
stepped_blind r events None = refl
stepped_blind r events (Some state) = refl

step_blind : (p : Replay) (c : ℕ) → Blind (one_step p c)
step_blind p c = record { each = λ r. of r (next_events p c r) } where
  by : (r : Replaying) (events : List CoreEvent) (b : Bool)
      → bared (if b then Err (LongReplay r.steps) else stepped_to r events (core_run p.target p.setting events r.state))
      ≡ bared (if b then Err (LongReplay r.steps) else stepped_to (bare r) events (core_run p.target p.setting events r.state))
  by r events true = refl
  by r events false = stepped_blind r events (core_run p.target p.setting events r.state)

  of : (r : Replaying) (o : Option (List CoreEvent)) → bared (step_by p r o) ≡ bared (step_by p (bare r) o)
  of r None = refl
  of r (Some events) = by r events (nat_le p.limit r.steps)

-- a step, and what follows
step_then : (p : Replay) (c : ℕ) (next : Replaying → Result Replaying Refusal) → Blind next → (r : Replaying)
    → bared (go_further (one_step p c r) next) ≡ bared (go_further (one_step p c (bare r)) next)
step_then p c next blind r = goes_alike next blind (one_step p c r) (one_step p c (bare r)) ((step_blind p c).each r)

-- ---- turns

pub steps_blind : (p : Replay) (c n : ℕ) → Blind (steps_made p c n)
steps_blind p c zero = record { each = λ r. refl }
steps_blind p c (suc n) = record { each = λ r. step_then p c (steps_made p c n) (steps_blind p c n) r }

upto_by : (p : Replay) (c : ℕ) (kind : StepKind) (most left : ℕ) → ((less : ℕ) → Blind (upto_made p c kind most less)) → (r : Replaying) (last wanted : Bool)
    → bared (if wanted then (if last then Ok r else go_further (one_step p c r) (upto_made p c kind most (left - 1))) else go_further (one_step p c r) (upto_made p c kind most left))
    ≡ bared (if wanted then (if last then Ok (bare r) else go_further (one_step p c (bare r)) (upto_made p c kind most (left - 1))) else go_further (one_step p c (bare r)) (upto_made p c kind most left))
upto_by p c kind most left on r true true = refl
upto_by p c kind most left on r false true = step_then p c (upto_made p c kind most (left - 1)) (on (left - 1)) r
upto_by p c kind most left on r true false = step_then p c (upto_made p c kind most left) (on left) r
upto_by p c kind most left on r false false = step_then p c (upto_made p c kind most left) (on left) r

pub upto_blind : (p : Replay) (c : ℕ) (kind : StepKind) (most left : ℕ) → Blind (upto_made p c kind most left)
upto_blind p c kind zero left = record { each = λ r. refl }
upto_blind p c kind (suc most) left =
    record { each = λ r. upto_by p c kind most left (λ less. upto_blind p c kind most less) r (nat_le left 1) (wants_kind p c kind r) }

ops_by : (p : Replay) (c most goal : ℕ) → Blind (ops_made p c most goal) → (r : Replaying) (ended : Bool)
    → bared (if ended then Ok r else go_further (one_step p c r) (ops_made p c most goal)) ≡ bared (if ended then Ok (bare r) else go_further (one_step p c (bare r)) (ops_made p c most goal))
ops_by p c most goal on r true = refl
ops_by p c most goal on r false = step_then p c (ops_made p c most goal) on r

pub ops_blind : (p : Replay) (c most goal : ℕ) → Blind (ops_made p c most goal)
ops_blind p c zero goal = record { each = λ r. refl }
ops_blind p c (suc most) goal = record { each = λ r. ops_by p c most goal (ops_blind p c most goal) r (nat_le goal (ended_calls c r)) }

pub turn_blind : (p : Replay) (turn : Turn) → Blind (turn_made p turn)
turn_blind p (turns.Step c n) = steps_blind p c n
turn_blind p (turns.Upto c kind n) = record { each = λ r. (upto_blind p c kind (most_steps p r) n).each r }
turn_blind p (turns.Ops c n) = record { each = λ r. (ops_blind p c (most_steps p r) (ended_calls c r + n)).each r }

pub turns_blind : (p : Replay) (schedule : List Turn) → Blind (turns_made p schedule)
turns_blind p [] = record { each = λ r. refl }
turns_blind p (turn ∷ rest) = record { each = λ r. goes_alike (turns_made p rest) (turns_blind p rest) (turn_made p turn r) (turn_made p turn (bare r)) ((turn_blind p turn).each r) }

-- ---- to the end

caller_by : (p : Replay) (c most : ℕ) → Blind (caller_ended p c most) → (r : Replaying) (o : Option (List CoreEvent))
    → bared (ended_or r o (go_further (one_step p c r) (caller_ended p c most))) ≡ bared (ended_or (bare r) o (go_further (one_step p c (bare r)) (caller_ended p c most)))
caller_by p c most on r None = refl
caller_by p c most on r (Some events) = step_then p c (caller_ended p c most) on r

pub caller_blind : (p : Replay) (c most : ℕ) → Blind (caller_ended p c most)
caller_blind p c zero = record { each = λ r. refl }
caller_blind p c (suc most) = record { each = λ r. caller_by p c most (caller_blind p c most) r (next_events p c r) }

-- the bound is by the steps made, so it is one for both
caller_whole : (p : Replay) (c : ℕ) → Blind (λ (r : Replaying). caller_ended p c (most_steps p r) r)
caller_whole p c = record { each = λ r. (caller_blind p c (most_steps p r)).each r }

pub callers_blind : (p : Replay) (c n : ℕ) → Blind (callers_ended p c n)
callers_blind p c zero = record { each = λ r. refl }
callers_blind p c (suc n) = record {
  each = λ r.
      goes_alike (callers_ended p (c + 1) n) (callers_blind p (c + 1) n) (caller_ended p c (most_steps p r) r) (caller_ended p c (most_steps p (bare r)) (bare r)) ((caller_whole p c).each r);
}
