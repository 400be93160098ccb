-- A replay that ends within a limit of steps ends so within each greater one.
use Rattle.std.proofs.Common.{◌≡◌, ◌≤◌, ◌<◌, ◌-◌, ℕ, zero, suc, ◌+◌, Bool, true, false, List, [], ◌∷◌, Option, Some, None, refl, ap, ◌∙◌, arith, if◌then◌else◌}
use Rattle.std.specs.Prelude.{Result, Ok, Err, nat_le}
use Rattle.std.proofs.lemmas.Bool.Decides.{nat_tests}
use Rattle.schedule_turns.specs.declared.turn.StepKind.{StepKind}
use Rattle.schedule_turns.specs.declared.turn.Turn.{Turn}
use Rattle.schedule_turns.specs.declared.turn.Turn.TheVariants as turns
use Rattle.core_runs.specs.Machine.{CoreEvent, core_run}
use Rattle.core_runs.specs.Replays.{Replay, Replaying, Refusal, StepOfNobody, LongReplay, replay_start, next_events, stepped_to, step_by, one_step, go_further, most_steps, wants_kind, steps_made, upto_made, ended_calls, ops_made, turn_made, turns_made, ended_or, caller_ended, callers_ended, replayed}

-- with another limit
abbrev pub longer : Replay → ℕ → Replay
longer p limit = record p { limit = limit }

abbrev Way : Type 0
Way = Replaying → Result Replaying Refusal

abbrev made_to : Replaying → Result Replaying Refusal
made_to r = Ok r

no_end : {A : Type 0} (refusal : Refusal) (r : Replaying) → (let failed : Result Replaying Refusal = Err refusal in failed) ≡ made_to r → A
no_end refusal r is = absurd (cc)

-- wherever the one ends, the other does
record Lasts (one other : Way) : Type 0 where
  each : (r later : Replaying) → one r ≡ made_to later → other r ≡ made_to later

further : (o : Result Replaying Refusal) (next : Way) (later : Replaying) → go_further o next ≡ made_to later → (mid : Replaying) × (o ≡ made_to mid) × (next mid ≡ made_to later)
further (Err refusal) next later is = no_end refusal later is
further (Ok mid) next later is = (mid, refl, is)

both_last : (one other next more : Way) → Lasts one other → Lasts next more → Lasts (λ r. go_further (one r) next) (λ r. go_further (other r) more)
both_last one other next more first after = record {
  each = λ r later is.
      let mid = further (one r) next later is in
      ap (λ (o : Result Replaying Refusal). go_further o more) (first.each r mid.0 mid.1) ∙ after.each mid.0 later mid.2;
}

le_false : (a b : ℕ) → nat_le a b ≡ false → b < a
le_false a b is = grind (arith, nat_tests)

lt_false : (a b : ℕ) → b < a → nat_le a b ≡ false
lt_false a b lt = grind (arith, nat_tests)

module _ (p : Replay) (limit : ℕ) (more : p.limit ≤ limit) where
  step_lasts : (c : ℕ) → Lasts (one_step p c) (one_step (longer p limit) c)
  step_lasts c = record { each = λ r later is. of r later (next_events p c r) is } where
    by : (r later : Replaying) (events : List CoreEvent) (b : Bool) → nat_le p.limit r.steps ≡ b
        → (if b then Err (LongReplay r.steps) else stepped_to r events (core_run p.target p.setting events r.state)) ≡ made_to later
        → (if nat_le limit r.steps then Err (LongReplay r.steps) else stepped_to r events (core_run p.target p.setting events r.state)) ≡ made_to later
    by r later events true past is = no_end (LongReplay r.steps) later is
    by r later events false below is =
        let lt = le_false p.limit r.steps below in
        ap (λ (b : Bool). if b then Err (LongReplay r.steps) else stepped_to r events (core_run p.target p.setting events r.state)) (lt_false limit r.steps (omega (arith, lt, more))) ∙ is

    of : (r later : Replaying) (o : Option (List CoreEvent)) → step_by p r o ≡ made_to later → step_by (longer p limit) r o ≡ made_to later
    of r later None is = no_end (StepOfNobody r.steps) later is
    of r later (Some events) is = by r later events (nat_le p.limit r.steps) refl is

  steps_last : (c n : ℕ) → Lasts (steps_made p c n) (steps_made (longer p limit) c n)
  steps_last c zero = record { each = λ r later is. is }
  steps_last c (suc n) = both_last (one_step p c) (one_step (longer p limit) c) (steps_made p c n) (steps_made (longer p limit) c n) (step_lasts c) (steps_last c n)

  upto_by : (c : ℕ) (kind : StepKind) (most most' : ℕ)
      → ((left : ℕ) → Lasts (λ r. go_further (one_step p c r) (upto_made p c kind most left)) (λ r. go_further (one_step (longer p limit) c r) (upto_made (longer p limit) c kind most' left)))
      → (left : ℕ) (r later : Replaying) (wanted last : Bool)
      → (if wanted then (if last then Ok r else go_further (one_step p c r) (upto_made p c kind most (left - 1))) else go_further (one_step p c r) (upto_made p c kind most left)) ≡ made_to later
      → (if wanted then (if last then Ok r else go_further (one_step (longer p limit) c r) (upto_made (longer p limit) c kind most' (left - 1))) else go_further (one_step (longer p limit) c r) (upto_made (longer p limit) c kind most' left))
      ≡ made_to later
  upto_by c kind most most' goes left r later true true is = is
  upto_by c kind most most' goes left r later true false is = (goes (left - 1)).each r later is
  upto_by c kind most most' goes left r later false last is = (goes left).each r later is

  upto_lasts : (c : ℕ) (kind : StepKind) (most most' left : ℕ) → most ≤ most' → Lasts (upto_made p c kind most left) (upto_made (longer p limit) c kind most' left)
  upto_lasts c kind zero most' left le = record { each = λ r later is. no_end (LongReplay r.steps) later is }
  upto_lasts c kind (suc most) zero left le = record { each = λ r later is. absurd (let none : ⊥ = omega (arith, le) in none) }
  upto_lasts c kind (suc most) (suc most') left le = record {
    each = λ r later is.
        upto_by c kind most most'
        (λ l. both_last (one_step p c) (one_step (longer p limit) c) (upto_made p c kind most l) (upto_made (longer p limit) c kind most' l) (step_lasts c) (upto_lasts c kind most most' l (omega (arith, le))))
        left r later (wants_kind p c kind r) (nat_le left 1) is;
  }

  ops_by : (c most most' goal : ℕ) → Lasts (λ r. go_further (one_step p c r) (ops_made p c most goal)) (λ r. go_further (one_step (longer p limit) c r) (ops_made (longer p limit) c most' goal))
      → (r later : Replaying) (reached : Bool) → (if reached then Ok r else go_further (one_step p c r) (ops_made p c most goal)) ≡ made_to later
      → (if reached then Ok r else go_further (one_step (longer p limit) c r) (ops_made (longer p limit) c most' goal)) ≡ made_to later
  ops_by c most most' goal goes r later true is = is
  ops_by c most most' goal goes r later false is = goes.each r later is

  ops_last : (c most most' goal : ℕ) → most ≤ most' → Lasts (ops_made p c most goal) (ops_made (longer p limit) c most' goal)
  ops_last c zero most' goal le = record { each = λ r later is. no_end (LongReplay r.steps) later is }
  ops_last c (suc most) zero goal le = record { each = λ r later is. absurd (let none : ⊥ = omega (arith, le) in none) }
  ops_last c (suc most) (suc most') goal le = record {
    each = λ r later is.
        ops_by c most most' goal
        (both_last (one_step p c) (one_step (longer p limit) c) (ops_made p c most goal) (ops_made (longer p limit) c most' goal) (step_lasts c) (ops_last c most most' goal (omega (arith, le))))
        r later (nat_le goal (ended_calls c r)) is;
  }

  end_by : (c most most' : ℕ) → Lasts (λ r. go_further (one_step p c r) (caller_ended p c most)) (λ r. go_further (one_step (longer p limit) c r) (caller_ended (longer p limit) c most'))
      → (r later : Replaying) (o : Option (List CoreEvent)) → ended_or r o (go_further (one_step p c r) (caller_ended p c most)) ≡ made_to later
      → ended_or r o (go_further (one_step (longer p limit) c r) (caller_ended (longer p limit) c most')) ≡ made_to later
  end_by c most most' goes r later None is = is
  end_by c most most' goes r later (Some events) is = goes.each r later is

  caller_lasts : (c most most' : ℕ) → most ≤ most' → Lasts (caller_ended p c most) (caller_ended (longer p limit) c most')
  caller_lasts c zero most' le = record { each = λ r later is. no_end (LongReplay r.steps) later is }
  caller_lasts c (suc most) zero le = record { each = λ r later is. absurd (let none : ⊥ = omega (arith, le) in none) }
  caller_lasts c (suc most) (suc most') le = record {
    each = λ r later is.
        end_by c most most'
        (both_last (one_step p c) (one_step (longer p limit) c) (caller_ended p c most) (caller_ended (longer p limit) c most') (step_lasts c) (caller_lasts c most most' (omega (arith, le))))
        r later (next_events p c r) is;
  }

  most_last : (steps : ℕ) → (p.limit - steps) + 1 ≤ (limit - steps) + 1
  most_last steps = omega (arith, more)

  turn_lasts : (turn : Turn) → Lasts (turn_made p turn) (turn_made (longer p limit) turn)
  turn_lasts (turns.Step c n) = record { each = λ r later is. (steps_last c n).each r later is }
  turn_lasts (turns.Upto c kind n) = record { each = λ r later is. (upto_lasts c kind (most_steps p r) (most_steps (longer p limit) r) n (most_last r.steps)).each r later is }
  turn_lasts (turns.Ops c n) = record {
    each = λ r later is. (ops_last c (most_steps p r) (most_steps (longer p limit) r) (ended_calls c r + n) (most_last r.steps)).each r later is;
  }

  turns_last : (schedule : List Turn) → Lasts (turns_made p schedule) (turns_made (longer p limit) schedule)
  turns_last [] = record { each = λ r later is. is }
  turns_last (turn ∷ rest) =
      both_last (turn_made p turn) (turn_made (longer p limit) turn) (turns_made p rest) (turns_made (longer p limit) rest) (turn_lasts turn) (turns_last rest)

  callers_last : (c n : ℕ) → Lasts (callers_ended p c n) (callers_ended (longer p limit) c n)
  callers_last c zero = record { each = λ r later is. is }
  callers_last c (suc n) =
      both_last (λ r. caller_ended p c (most_steps p r) r) (λ r. caller_ended (longer p limit) c (most_steps (longer p limit) r) r) (callers_ended p (c + 1) n) (callers_ended (longer p limit) (c + 1) n)
      (record { each = λ r later is. (caller_lasts c (most_steps p r) (most_steps (longer p limit) r) (most_last r.steps)).each r later is }) (callers_last (c + 1) n)

  pub replay_lasts : (schedule : List Turn) (r : Replaying) → replayed p schedule ≡ Ok r → replayed (longer p limit) schedule ≡ Ok r
  replay_lasts schedule r is =
      (both_last (turns_made p schedule) (turns_made (longer p limit) schedule) (callers_ended p 0 p.setting.sizes.callers) (callers_ended (longer p limit) 0 p.setting.sizes.callers)
      (turns_last schedule) (callers_last 0 p.setting.sizes.callers)).each (replay_start p) r is
