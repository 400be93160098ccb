-- A replay under a longer limit.
use Rattle.std.proofs.Common.{◌≡◌, ◌<◌, ◌≤◌, ℕ, zero, suc, ◌+◌, ◌-◌, Bool, true, false, List, [], ◌∷◌, length, take, Option, Some, None, refl, sym, ap, subst, ◌∙◌, arith, if◌then◌else◌}
use Rattle.std.specs.Prelude.{Result, Ok, Err, nat_le}
use Rattle.std.proofs.lemmas.Bool.Decides.{nat_tests}
use Rattle.schedule_turns.specs.declared.turn.Turn.{Turn}
use Rattle.schedule_turns.specs.declared.turn.Turn.TheVariants as turns
use Rattle.schedule_turns.specs.declared.turn.StepKind.{StepKind}
use Rattle.core_runs.specs.Machine.{CoreEvent, core_run}
use Rattle.core_runs.specs.Replays.{Replay, Replaying, Refusal, StepOfNobody, LongReplay, next_events, stepped_to, step_by, one_step, go_further, most_steps, wants_kind, steps_made, upto_made, ended_calls, ops_made, turn_made, turns_made}
use Rattle.oa_core.specs.Stops.{StopsAfter, LongerStopsAlike}

-- the same, unless the first stops at its limit
abbrev Alike : Result Replaying Refusal → Result Replaying Refusal → Type 0
Alike (Err (LongReplay steps)) other = Unit {0}
Alike (Err (StepOfNobody steps)) other = other ≡ Err (StepOfNobody steps)
Alike (Ok r) other = other ≡ Ok r

one_alike : (o : Result Replaying Refusal) → Alike o o
one_alike (Err (LongReplay steps)) = tt
one_alike (Err (StepOfNobody steps)) = refl
one_alike (Ok r) = refl

go_alike : (o other : Result Replaying Refusal) (next after : Replaying → Result Replaying Refusal) → Alike o other → ((r : Replaying) → Alike (next r) (after r)) → Alike (go_further o next) (go_further other after)
go_alike (Err (LongReplay steps)) other next after same on = tt
go_alike (Err (StepOfNobody steps)) other next after same on = ap (λ (x : Result Replaying Refusal). go_further x after) same
go_alike (Ok r) other next after same on = subst (λ (x : Result Replaying Refusal). Alike (next r) (go_further x after)) (sym same) (on r)

module _ (p : Replay) (limit : ℕ) (more : p.limit ≤ limit) where
  abbrev longer : Replay
  longer = record p { limit = limit }

  below : (n : ℕ) → nat_le p.limit n ≡ false → nat_le limit n ≡ false
  below n is = grind (arith, nat_tests)

  stepped_alike : (r : Replaying) (events : List CoreEvent) (b : Bool) → nat_le p.limit r.steps ≡ b
      → Alike (if b then Err (LongReplay r.steps) else stepped_to r events (core_run p.target p.setting events r.state)) (step_by longer r (Some events))
  stepped_alike r events true is = tt
  stepped_alike r events false is =
      subst (λ (b : Bool). Alike (stepped_to r events (core_run p.target p.setting events r.state)) (if b then Err (LongReplay r.steps) else stepped_to r events (core_run p.target p.setting events r.state)))
      (sym (below r.steps is)) (one_alike (stepped_to r events (core_run p.target p.setting events r.state)))

  by_alike : (r : Replaying) (o : Option (List CoreEvent)) → Alike (step_by p r o) (step_by longer r o)
  by_alike r None = refl
  by_alike r (Some events) = stepped_alike r events (nat_le p.limit r.steps) refl

  step_alike : (c : ℕ) (r : Replaying) → Alike (one_step p c r) (one_step longer c r)
  step_alike c r = by_alike r (next_events p c r)

  then_alike : (c : ℕ) (r : Replaying) (next after : Replaying → Result Replaying Refusal) → ((later : Replaying) → Alike (next later) (after later))
      → Alike (go_further (one_step p c r) next) (go_further (one_step longer c r) after)
  then_alike c r next after on = go_alike (one_step p c r) (one_step longer c r) next after (step_alike c r) on

  steps_alike : (c n : ℕ) (r : Replaying) → Alike (steps_made p c n r) (steps_made longer c n r)
  steps_alike c zero r = refl
  steps_alike c (suc n) r = then_alike c r (steps_made p c n) (steps_made longer c n) (λ later. steps_alike c n later)

  upto_by : (c : ℕ) (kind : StepKind) (most other left : ℕ) → ((less : ℕ) (later : Replaying) → Alike (upto_made p c kind most less later) (upto_made longer c kind other less later)) → (r : Replaying) (wanted last : Bool)
      → Alike (if wanted then (if last then Ok r else go_further (one_step p c r) (upto_made p c kind most (left - 1))) else go_further (one_step p c r) (upto_made p c kind most left))
      (if wanted then (if last then Ok r else go_further (one_step longer c r) (upto_made longer c kind other (left - 1))) else go_further (one_step longer c r) (upto_made longer c kind other left))
  upto_by c kind most other left on r true true = refl
  upto_by c kind most other left on r true false = then_alike c r (upto_made p c kind most (left - 1)) (upto_made longer c kind other (left - 1)) (on (left - 1))
  upto_by c kind most other left on r false last = then_alike c r (upto_made p c kind most left) (upto_made longer c kind other left) (on left)

  upto_alike : (c : ℕ) (kind : StepKind) (most other left : ℕ) (r : Replaying) → most ≤ other → Alike (upto_made p c kind most left r) (upto_made longer c kind other left r)
  upto_alike c kind zero other left r le = tt
  upto_alike c kind (suc most) zero left r le = let no : ⊥ = omega (arith, le) in absurd no
  upto_alike c kind (suc most) (suc other) left r le =
      let less : most ≤ other = omega (arith, le) in
      upto_by c kind most other left (λ few later. upto_alike c kind most other few later less) r (wants_kind p c kind r) (nat_le left 1)

  ops_by : (c most other goal : ℕ) → ((later : Replaying) → Alike (ops_made p c most goal later) (ops_made longer c other goal later)) → (r : Replaying) (ended : Bool)
      → Alike (if ended then Ok r else go_further (one_step p c r) (ops_made p c most goal)) (if ended then Ok r else go_further (one_step longer c r) (ops_made longer c other goal))
  ops_by c most other goal on r true = refl
  ops_by c most other goal on r false = then_alike c r (ops_made p c most goal) (ops_made longer c other goal) on

  ops_alike : (c most other goal : ℕ) (r : Replaying) → most ≤ other → Alike (ops_made p c most goal r) (ops_made longer c other goal r)
  ops_alike c zero other goal r le = tt
  ops_alike c (suc most) zero goal r le = let no : ⊥ = omega (arith, le) in absurd no
  ops_alike c (suc most) (suc other) goal r le =
      let less : most ≤ other = omega (arith, le) in ops_by c most other goal (λ later. ops_alike c most other goal later less) r (nat_le goal (ended_calls c r))

  more_steps : (r : Replaying) → most_steps p r ≤ most_steps longer r
  more_steps r = omega (arith, more)

  turn_alike : (turn : Turn) (r : Replaying) → Alike (turn_made p turn r) (turn_made longer turn r)
  turn_alike (turns.Step c n) r = steps_alike c n r
  turn_alike (turns.Upto c kind n) r = upto_alike c kind (most_steps p r) (most_steps longer r) n r (more_steps r)
  turn_alike (turns.Ops c n) r = ops_alike c (most_steps p r) (most_steps longer r) (ended_calls c r + n) r (more_steps r)

  turns_alike : (schedule : List Turn) (r : Replaying) → Alike (turns_made p schedule r) (turns_made longer schedule r)
  turns_alike [] r = refl
  turns_alike (turn ∷ rest) r = go_alike (turn_made p turn r) (turn_made longer turn r) (turns_made p rest) (turns_made longer rest) (turn_alike turn r) (λ later. turns_alike rest later)

  -- what isn't stopped by the limit
  so_longer : (schedule : List Turn) (r : Replaying) (o : Result Replaying Refusal) → turns_made p schedule r ≡ o → Alike o (turns_made longer schedule r)
  so_longer schedule r o is = subst (λ (x : Result Replaying Refusal). Alike x (turns_made longer schedule r)) is (turns_alike schedule r)

  one_refusal : (one other : Refusal) (o : Result Replaying Refusal) → o ≡ Err one → o ≡ Err other → one ≡ other
  one_refusal one other o is also = let same : ◌≡◌ {A = Result Replaying Refusal} (Err one) (Err other) = sym is ∙ also in cc

  stops_longer : (schedule : List Turn) (r : Replaying) (whole steps : ℕ) → StopsAfter p schedule r whole → turns_made p schedule r ≡ Err (StepOfNobody steps) → StopsAfter longer schedule r whole
  stops_longer schedule r whole steps stops nobody = record {
    within = stops.within;
    made = (stops.made.0, so_longer (take whole schedule) r (Ok stops.made.0) stops.made.1);
    stopped = λ further.
        let at = stops.stopped further in
        let same : at.0 ≡ StepOfNobody steps = one_refusal at.0 (StepOfNobody steps) (turns_made p schedule r) at.2 nobody in (
          StepOfNobody steps,
          so_longer (take (whole + 1) schedule) r (Err (StepOfNobody steps)) (subst (λ (x : Refusal). turns_made p (take (whole + 1) schedule) r ≡ Err x) same at.1),
          so_longer schedule r (Err (StepOfNobody steps)) nobody,
        );
  }

pub longer_stops_alike : LongerStopsAlike
longer_stops_alike = record { each = λ p limit schedule r whole steps more stops nobody. stops_longer p limit more schedule r whole steps stops nobody }
