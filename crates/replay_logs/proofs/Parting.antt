-- A part of a replay is its next step, and then what is left of it.
use Rattle.std.proofs.Common.{◌≡◌, ◌<◌, ◌-◌, ℕ, zero, suc, ◌+◌, Bool, true, false, List, Option, Some, None, refl, sym, ap, ◌∙◌, arith, if◌then◌else◌}
use Rattle.std.specs.Prelude.{Result, Ok, Err, nat_le, not, is_some, slice_get}
use Rattle.std.proofs.lemmas.Bool.Decides.{nat_tests}
use Rattle.schedule_turns.specs.declared.turn.StepKind.{StepKind}
use Rattle.schedule_turns.specs.declared.turn.Turn.{Turn}
use Rattle.schedule_turns.specs.declared.turn.Turn.TheVariants as turns
use Rattle.core_runs.specs.Machine.{CoreState, CoreEvent, core_run}
use Rattle.core_runs.specs.Replays.{Replay, Replaying, Refusal, StepOfNobody, LongReplay, next_events, caller_events, stepped_to, step_by, one_step, go_further, most_steps, entry_wants_kind, calls_ended_of, upto_made, ops_made, turn_made, ended_or, caller_ended}
use Rattle.replay_steps.specs.Turns.{made_to, refused}
use Rattle.replay_logs.specs.declared.parts.Part.{Part}
use Rattle.replay_logs.specs.declared.parts.Part.TheVariants.{Steps, Upto, Ops, End}
use Rattle.replay_logs.specs.Parts.{caller_of, part_made, part_of, upto_rest, rest_if, part_rest}

no_step : {A : Type 0} (refusal : Refusal) (r : Replaying) → refused refusal ≡ made_to r → A
no_step refusal r is = absurd (cc)

le_false : (a b : ℕ) → nat_le a b ≡ false → b < a
le_false a b is = grind (arith, nat_tests)

plus_one : (n : ℕ) → n + 1 ≡ suc n
plus_one n = omega arith

-- ---- a step that was made is counted, and the limit wasn't reached

pub record Counted (p : Replay) (r later : Replaying) : Type 0 where
  pub counted : later.steps ≡ r.steps + 1
  pub below : r.steps < p.limit

pub step_counted : (p : Replay) (c : ℕ) (r later : Replaying) → one_step p c r ≡ made_to later → Counted p r later
step_counted p c r later made = of (next_events p c r) made where
  ran : (events : List CoreEvent) → r.steps < p.limit → (o : Option CoreState) → stepped_to r events o ≡ made_to later → Counted p r later
  ran events lt None made = no_step (StepOfNobody r.steps) later made
  ran events lt (Some state) made = record { counted = ap (λ (x : Result Replaying Refusal). steps_in x) (sym made); below = lt } where
    steps_in : Result Replaying Refusal → ℕ
    steps_in (Ok x) = x.steps
    steps_in (Err refusal) = 0

  by : (events : List CoreEvent) (b : Bool) → nat_le p.limit r.steps ≡ b
      → (if b then Err (LongReplay r.steps) else stepped_to r events (core_run p.target p.setting events r.state)) ≡ made_to later → Counted p r later
  by events true is made = no_step (LongReplay r.steps) later made
  by events false is made = ran events (le_false p.limit r.steps is) (core_run p.target p.setting events r.state) made

  of : (o : Option (List CoreEvent)) → step_by p r o ≡ made_to later → Counted p r later
  of None made = no_step (StepOfNobody r.steps) later made
  of (Some events) made = by events (nat_le p.limit r.steps) refl made

-- one step less is left then
fewer : (p : Replay) (r later : Replaying) → Counted p r later → p.limit - r.steps ≡ most_steps p later
fewer p r later is = let counted = is.counted in let below = is.below in omega (arith, counted, below)

-- two that go on alike from each replay to which a step leads
alike : (o : Result Replaying Refusal) (f g : Replaying → Result Replaying Refusal) → ((r : Replaying) → o ≡ made_to r → f r ≡ g r) → go_further o f ≡ go_further o g
alike (Err refusal) f g same = refl
alike (Ok r) f g same = same r refl

-- ---- a part

abbrev pub unrolled : Replay → Part → Replaying → Option Part → Result Replaying Refusal
unrolled p part r None = Ok r
unrolled p part r (Some rest) = go_further (one_step p (caller_of part) r) (part_made p rest)

upto_goes : (p : Replay) (c : ℕ) (kind : StepKind) (left : ℕ) (r : Replaying)
    → go_further (one_step p c r) (upto_made p c kind (p.limit - r.steps) left) ≡ go_further (one_step p c r) (part_made p (Upto c kind left))
upto_goes p c kind left r = alike (one_step p c r) (upto_made p c kind (p.limit - r.steps) left) (part_made p (Upto c kind left))
    (λ (later : Replaying) (made : one_step p c r ≡ made_to later). ap (λ (m : ℕ). upto_made p c kind m left later) (fewer p r later (step_counted p c r later made)))

upto_unrolls : (p : Replay) (c : ℕ) (kind : StepKind) (left : ℕ) (r : Replaying) (wanted last : Bool)
    → (if wanted then (if last then Ok r else go_further (one_step p c r) (upto_made p c kind (p.limit - r.steps) (left - 1))) else go_further (one_step p c r) (upto_made p c kind (p.limit - r.steps) left))
    ≡ unrolled p (Upto c kind left) r (upto_rest c kind (if wanted then (if last then None else Some (left - 1)) else Some left))
upto_unrolls p c kind left r true true = refl
upto_unrolls p c kind left r true false = upto_goes p c kind (left - 1) r
upto_unrolls p c kind left r false last = upto_goes p c kind left r

ops_unrolls : (p : Replay) (c goal : ℕ) (r : Replaying) (reached : Bool)
    → (if reached then Ok r else go_further (one_step p c r) (ops_made p c (p.limit - r.steps) goal)) ≡ unrolled p (Ops c goal) r (rest_if (not reached) (Ops c goal))
ops_unrolls p c goal r true = refl
ops_unrolls p c goal r false = alike (one_step p c r) (ops_made p c (p.limit - r.steps) goal) (part_made p (Ops c goal))
    (λ (later : Replaying) (made : one_step p c r ≡ made_to later). ap (λ (m : ℕ). ops_made p c m goal later) (fewer p r later (step_counted p c r later made)))

end_unrolls : (p : Replay) (c : ℕ) (r : Replaying) (next : Option (List CoreEvent))
    → ended_or r next (go_further (one_step p c r) (caller_ended p c (p.limit - r.steps))) ≡ unrolled p (End c) r (rest_if (is_some next) (End c))
end_unrolls p c r None = refl
end_unrolls p c r (Some events) = alike (one_step p c r) (caller_ended p c (p.limit - r.steps)) (part_made p (End c))
    (λ (later : Replaying) (made : one_step p c r ≡ made_to later). ap (λ (m : ℕ). caller_ended p c m later) (fewer p r later (step_counted p c r later made)))

-- what a part gives is what its next step and the rest give
pub unrolls : (p : Replay) (part : Part) (r : Replaying) → part_made p part r ≡ unrolled p part r (part_rest p part r.state.entries)
unrolls p (Steps c zero) r = refl
unrolls p (Steps c (suc n)) r = refl
unrolls p (Upto c kind left) r =
    ap (λ (m : ℕ). upto_made p c kind m left r) (plus_one (p.limit - r.steps))
    ∙ upto_unrolls p c kind left r (entry_wants_kind p.target kind (slice_get r.state.entries c)) (nat_le left 1)
unrolls p (Ops c goal) r =
    ap (λ (m : ℕ). ops_made p c m goal r) (plus_one (p.limit - r.steps)) ∙ ops_unrolls p c goal r (nat_le goal (calls_ended_of (slice_get r.state.entries c)))
unrolls p (End c) r =
    ap (λ (m : ℕ). caller_ended p c m r) (plus_one (p.limit - r.steps)) ∙ end_unrolls p c r (caller_events p c (slice_get r.state.entries c))

-- a turn is the part with which it begins
pub turn_is : (p : Replay) (turn : Turn) (r : Replaying) → turn_made p turn r ≡ part_made p (part_of turn r.state.entries) r
turn_is p (turns.Step c n) r = refl
turn_is p (turns.Upto c kind n) r = refl
turn_is p (turns.Ops c n) r = refl
