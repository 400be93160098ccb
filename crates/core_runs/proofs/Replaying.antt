-- What a replay answers is a complete run of its scripts.
use Rattle.std.proofs.Common.{◌≡◌, ◌≢◌, ◌<◌, ◌≤◌, ◌&&◌, ◌-◌, ℕ, zero, suc, ◌+◌, eq-eqb, ne_eqb, Bool, true, false, List, [], ◌∷◌, ◌++◌, map, length, Option, Some, None, refl, sym, ap, ◌∙◌, subst, arith, if◌then◌else◌}
use Rattle.std.specs.Prelude.{slice_get, slice_set, Result, Ok, Err, nat_le, not}
use Rattle.std.proofs.lemmas.List.{append-nil}
use Rattle.std.proofs.lemmas.Bool.Decides.{nat_tests}
use mathlib.Core.Logic.{dite}
use native.Mathlib.Decide.{ℕ_discrete}
use Rattle.schedule_turns.specs.declared.turn.Turn.{Turn}
use Rattle.schedule_turns.specs.declared.turn.Turn.TheVariants as turns
use Rattle.schedule_turns.specs.declared.turn.StepKind.{StepKind}
use Rattle.target_code.specs.declared.target.Target.{Target}
use Rattle.phase_pools.specs.Accesses.{WordAccess}
use Rattle.caller_parts.specs.declared.call.Call.{Call}
use Rattle.caller_parts.specs.declared.call.Replied.{Replied}
use Rattle.caller_parts.specs.declared.call.Running.{Running}
use Rattle.caller_parts.specs.Pairing.{run_of}
use Rattle.caller_parts.specs.Settings.{Setting}
use Rattle.caller_steps.specs.Entries.{Entry, one_more, is_idle}
use Rattle.caller_parts.specs.Calls.{is_call}
use Rattle.caller_steps.specs.Wants.{wants}
use Rattle.caller_steps.specs.After.{after, taken}
use Rattle.core_runs.specs.Machine.{CoreState, CoreEvent, Takes, Steps, core_mover, core_event, core_run, run_on, core_start, event_by, stepped, found_by}
use Rattle.core_runs.specs.Histories.{bumped, with_event, with_events, running_of, calls_of, calls_in}
use Rattle.core_runs.specs.Scripts.{script_of, AreOfScript, last_steps, HasEnded, IsCompleteRun, SuitScripts}
use Rattle.core_runs.specs.Replays.{Replay, Replaying, Refusal, StepOfNobody, LongReplay, replay_start, is_spent, take_events, caller_events, next_events, stepped_to, step_by, one_step, go_further, most_steps, wants_kind, steps_made, upto_made, ended_calls, ops_made, turn_made, turns_made, ended_or, caller_ended, callers_ended, replayed, steps_in, ReplaysReach}
use Rattle.core_runs.proofs.Reaching.{some_is, run_both}
use Rattle.core_runs.proofs.Keeping.{bumped_last, got_other, kept_calls, idle_within, run_count}

-- ---- scripts

-- the next call of the script was taken
of_script_more : (fuel : ℕ) (script : List Call) (calls : List Running) (call : Call) (steps : ℕ) → AreOfScript fuel script calls → slice_get script (length calls) ≡ Some call → steps ≤ fuel
    → AreOfScript fuel script (calls ++ record { call = call; steps = steps } ∷ [])
of_script_more fuel [] [] call steps of is few = absurd (cc)
of_script_more fuel (x ∷ script) [] call steps of is few = let same : x ≡ call = cc in (sym same, few, tt)
of_script_more fuel [] (taken ∷ more) call steps of is few = absurd of
of_script_more fuel (x ∷ script) (taken ∷ more) call steps of is few = (of.0, of.1, of_script_more fuel script more call steps of.2 is few)

-- another step was made for the last call
of_script_bumped : (fuel : ℕ) (script : List Call) (calls : List Running) (x : Running) (steps : ℕ) → AreOfScript fuel script (calls ++ x ∷ []) → steps ≤ fuel
    → AreOfScript fuel script (calls ++ record x { steps = steps } ∷ [])
of_script_bumped fuel [] [] x steps of few = absurd of
of_script_bumped fuel (call ∷ script) [] x steps of few = (of.0, few, tt)
of_script_bumped fuel [] (taken ∷ more) x steps of few = absurd of
of_script_bumped fuel (call ∷ script) (taken ∷ more) x steps of few = (of.0, of.1, of_script_bumped fuel script more x steps of.2 few)

of_script_few : (fuel : ℕ) (script : List Call) (calls : List Running) → AreOfScript fuel script calls → length calls ≤ length script
of_script_few fuel script [] of = omega arith
of_script_few fuel [] (taken ∷ more) of = absurd of
of_script_few fuel (call ∷ script) (taken ∷ more) of = let few = of_script_few fuel script more of.2 in omega (arith, few)

of_script_last : (fuel : ℕ) (script : List Call) (calls : List Running) (x : Running) → AreOfScript fuel script (calls ++ x ∷ []) → x.steps ≤ fuel
of_script_last fuel [] [] x of = absurd of
of_script_last fuel (call ∷ script) [] x of = of.1
of_script_last fuel [] (taken ∷ more) x of = absurd of
of_script_last fuel (call ∷ script) (taken ∷ more) x of = of_script_last fuel script more x of.2

last_is : (calls : List Running) (x : Running) → last_steps (calls ++ x ∷ []) ≡ x.steps
last_is (y ∷ z ∷ ys) x = last_is (z ∷ ys) x
last_is _ x = refl

mapped : (l : List Replied) → length (map run_of l) ≡ length l
mapped [] = refl
mapped (x ∷ xs) = ap suc (mapped xs)

past_none : (script : List Call) (n : ℕ) → slice_get script n ≡ None → length script ≤ n
past_none [] n is = omega arith
past_none (x ∷ xs) zero is = absurd (let no : Some x ≡ None = is in cc)
past_none (x ∷ xs) (suc n) is = let le = past_none xs n is in omega (arith, le)

with_both : (c : ℕ) (events more : List CoreEvent) (calls : List Running) → with_events c (events ++ more) calls ≡ with_events c more (with_events c events calls)
with_both c [] more calls = refl
with_both c (x ∷ events) more calls = with_both c events more (with_event c x calls)

-- ---- results

abbrev made_to : Replaying → Result Replaying Refusal
made_to r = Ok r

abbrev refused : Refusal → Result Replaying Refusal
refused refusal = Err refusal

ok_is : (a b : Replaying) → made_to a ≡ made_to b → a ≡ b
ok_is a b is = cc

no_err : {A : Type 0} (refusal : Refusal) (r : Replaying) → refused refusal ≡ made_to r → A
no_err refusal r is = absurd (cc)

further : (o : Result Replaying Refusal) (next : Replaying → Result Replaying Refusal) (r : Replaying) → go_further o next ≡ Ok r → (mid : Replaying) × (o ≡ Ok mid) × (next mid ≡ Ok r)
further (Err refusal) next r is = no_err refusal r is
further (Ok mid) next r is = (mid, refl, is)

le_true : (a b : ℕ) → nat_le a b ≡ true → a ≤ b
le_true a b is = grind (arith, nat_tests)

le_false : (a b : ℕ) → nat_le a b ≡ false → b < a
le_false a b is = grind (arith, nat_tests)

-- ---- one step

-- a step that was made: its events, one of them a step, were enabled, and the limit wasn't reached
record Stepped (p : Replay) (c : ℕ) (r r' : Replaying) : Type 0 where
  events : List CoreEvent
  next : next_events p c r ≡ Some events
  within : r.steps < p.limit
  runs : core_run p.target p.setting events r.state ≡ Some r'.state
  is : r' ≡ record { state = r'.state; events = r.events ++ events; steps = r.steps + 1 }

stepped_ok : (p : Replay) (c : ℕ) (r r' : Replaying) → one_step p c r ≡ Ok r' → Stepped p c r r'
stepped_ok p c r r' ok = of (next_events p c r) refl ok where
  ran : (events : List CoreEvent) → next_events p c r ≡ Some events → r.steps < p.limit → (o : Option CoreState) → core_run p.target p.setting events r.state ≡ o → stepped_to r events o ≡ Ok r' → Stepped p c r r'
  ran events next lt None runs ok = no_err (StepOfNobody r.steps) r' ok
  ran events next lt (Some state) runs ok =
      let same : record { state = state; events = r.events ++ events; steps = r.steps + 1 } ≡ r' = ok_is _ r' ok in
      let at : state ≡ r'.state = ap (λ (x : Replaying). x.state) same in
      record { events = events; next = next; within = lt; runs = runs ∙ ap (λ (s : CoreState). Some s) at; is = sym same ∙ ap (λ (s : CoreState). record { state = s; events = r.events ++ events; steps = r.steps + 1 }) at }

  by : (events : List CoreEvent) → next_events p c r ≡ Some events → (b : Bool) → nat_le p.limit r.steps ≡ b
      → (if b then Err (LongReplay r.steps) else stepped_to r events (core_run p.target p.setting events r.state)) ≡ Ok r' → Stepped p c r r'
  by events next true past ok = no_err (LongReplay r.steps) r' ok
  by events next false below ok = ran events next (le_false p.limit r.steps below) (core_run p.target p.setting events r.state) refl ok

  of : (o : Option (List CoreEvent)) → next_events p c r ≡ o → step_by p r o ≡ Ok r' → Stepped p c r r'
  of None next ok = no_err (StepOfNobody r.steps) r' ok
  of (Some events) next ok = by events next (nat_le p.limit r.steps) refl ok

-- all events are of one caller
abbrev OfOne : ℕ → List CoreEvent → Type 0
OfOne c [] = Unit {0}
OfOne c (event ∷ events) = (core_mover event ≡ c) × OfOne c events

steps_both : (events more : List CoreEvent) → steps_in (events ++ more) ≡ steps_in events + steps_in more
steps_both [] more = let e : steps_in more ≡ 0 + steps_in more = omega arith in e
steps_both (Takes c call ∷ events) more = steps_both events more
steps_both (Steps c ∷ events) more = let e = steps_both events more in omega (arith, e)

-- which events a step has: a call is taken, and a step made; or a step alone
next_are : (p : Replay) (c : ℕ) (r : Replaying) (events : List CoreEvent) → next_events p c r ≡ Some events → OfOne c events × (steps_in events ≡ 1)
next_are p c r events is = of (slice_get r.state.entries c) is where
  takes : (o : Option Call) → take_events c o ≡ Some events → OfOne c events × (steps_in events ≡ 1)
  takes None is = absurd (let no : None ≡ Some events = is in cc)
  takes (Some call) is = let same : Takes c call ∷ Steps c ∷ [] ≡ events = cc in subst (λ (l : List CoreEvent). OfOne c l × (steps_in l ≡ 1)) same ((refl, (refl, tt)), refl)

  steps : (b : Bool) → (if b then None else Some (Steps c ∷ [])) ≡ Some events → OfOne c events × (steps_in events ≡ 1)
  steps true is = absurd (let no : None ≡ Some events = is in cc)
  steps false is = let same : Steps c ∷ [] ≡ events = cc in subst (λ (l : List CoreEvent). OfOne c l × (steps_in l ≡ 1)) same ((refl, tt), refl)

  by : (e : Entry) (b : Bool) → (if b then take_events c (slice_get (script_of p.scripts c) (length e.replies)) else (if is_spent p.fuel e then None else Some (Steps c ∷ []))) ≡ Some events → OfOne c events × (steps_in events ≡ 1)
  by e true is = takes (slice_get (script_of p.scripts c) (length e.replies)) is
  by e false is = steps (is_spent p.fuel e) is

  of : (o : Option Entry) → caller_events p c o ≡ Some events → OfOne c events × (steps_in events ≡ 1)
  of None is = absurd (let no : None ≡ Some events = is in cc)
  of (Some e) is = by e (is_idle e.routine) is

-- ---- other callers stay

event_others : (target : Target) (setting : Setting) (state mid : CoreState) (event : CoreEvent) (k : ℕ) → core_event target setting state event ≡ Some mid → k ≢ core_mover event
    → slice_get mid.entries k ≡ slice_get state.entries k
event_others target setting state mid (Takes c call) k goes other = of (slice_get state.entries c) goes where
  by : (d : Entry) (b : Bool) → (if b then Some (record state { entries = slice_set state.entries c (taken setting.reclamation call d) }) else None) ≡ Some mid → slice_get mid.entries k ≡ slice_get state.entries k
  by d true became = ap (λ (s : CoreState). slice_get s.entries k) (sym (some_is _ mid became)) ∙ got_other state.entries c k (taken setting.reclamation call d) other
  by d false became = absurd (let no : None ≡ Some mid = became in cc)

  of : (o : Option Entry) → event_by target setting state (Takes c call) o ≡ Some mid → slice_get mid.entries k ≡ slice_get state.entries k
  of None became = absurd (let no : None ≡ Some mid = became in cc)
  of (Some d) became = by d (is_idle d.routine && is_call target call) became
event_others target setting state mid (Steps c) k goes other = of (slice_get state.entries c) goes where
  by : (d : Entry) (o : Option WordAccess) → stepped target setting state c d o ≡ Some mid → slice_get mid.entries k ≡ slice_get state.entries k
  by d None became = absurd (let no : None ≡ Some mid = became in cc)
  by d (Some a) became = ap (λ (s : CoreState). slice_get s.entries k) (sym (some_is _ mid became)) ∙ got_other state.entries c k (after target setting d (found_by setting state a)) other

  of : (o : Option Entry) → event_by target setting state (Steps c) o ≡ Some mid → slice_get mid.entries k ≡ slice_get state.entries k
  of None became = absurd (let no : None ≡ Some mid = became in cc)
  of (Some d) became = by d (wants target d) became

run_others : (target : Target) (setting : Setting) (events : List CoreEvent) (state later : CoreState) (c k : ℕ) → OfOne c events → k ≢ c → core_run target setting events state ≡ Some later
    → slice_get later.entries k ≡ slice_get state.entries k
run_others target setting [] state later c k one other runs = ap (λ (s : CoreState). slice_get s.entries k) (sym (some_is state later runs))
run_others target setting (event ∷ events) state later c k one other runs =
    of (λ mid r. run_others target setting events mid later c k one.1 other r) (core_event target setting state event) refl runs where
      of : ((mid : CoreState) → core_run target setting events mid ≡ Some later → slice_get later.entries k ≡ slice_get mid.entries k)
          → (o : Option CoreState) → core_event target setting state event ≡ o → run_on o (core_run target setting events) ≡ Some later → slice_get later.entries k ≡ slice_get state.entries k
      of on None goes r = absurd (let no : None ≡ Some later = r in cc)
      of on (Some mid) goes r = on mid r ∙ event_others target setting state mid event k goes (λ e. other (e ∙ one.0))

calls_others : (events : List CoreEvent) (c k : ℕ) (calls : List Running) → OfOne c events → k ≢ c → with_events k events calls ≡ calls
calls_others [] c k calls one other = refl
calls_others (Takes d call ∷ events) c k calls one other =
    ap (with_events k events) (ap (λ (b : Bool). if b then calls ++ record { call = call; steps = 0 } ∷ [] else calls) (ne_eqb d k (λ e. other (sym e ∙ one.0)))) ∙ calls_others events c k calls one.1 other
calls_others (Steps d ∷ events) c k calls one other =
    ap (with_events k events) (ap (λ (b : Bool). if b then bumped calls else calls) (ne_eqb d k (λ e. other (sym e ∙ one.0)))) ∙ calls_others events c k calls one.1 other

-- ---- what is kept

record Holding (p : Replay) (r : Replaying) : Type 0 where
  runs : core_run p.target p.setting r.events (core_start p.target p.setting) ≡ Some r.state
  of : (c : ℕ) → c < p.setting.sizes.callers → AreOfScript p.fuel (script_of p.scripts c) (calls_in c r.events)
  counted : steps_in r.events ≡ r.steps
  within : r.steps ≤ p.limit

own_take : (c : ℕ) (call : Call) (calls : List Running) → with_events c (Takes c call ∷ Steps c ∷ []) calls ≡ calls ++ record { call = call; steps = one_more 0 } ∷ []
own_take c call calls =
    ap (λ (b : Bool). if b then bumped (if b then calls ++ record { call = call; steps = 0 } ∷ [] else calls) else (if b then calls ++ record { call = call; steps = 0 } ∷ [] else calls)) (eq-eqb c c refl)
    ∙ bumped_last calls (record { call = call; steps = 0 })

own_step : (c : ℕ) (calls : List Running) (x : Running) → with_events c (Steps c ∷ []) (calls ++ x ∷ []) ≡ calls ++ record x { steps = one_more x.steps } ∷ []
own_step c calls x = ap (λ (b : Bool). if b then bumped (calls ++ x ∷ []) else calls ++ x ∷ []) (eq-eqb c c refl) ∙ bumped_last calls x

one_more_few : (n fuel : ℕ) → n < fuel → one_more n ≤ fuel
one_more_few n fuel lt = omega (arith, lt)

-- the calls of the caller that makes the step
own_calls : (p : Replay) (c : ℕ) (r : Replaying) (events : List CoreEvent) → 1 ≤ p.fuel → Holding p r → c < p.setting.sizes.callers → next_events p c r ≡ Some events
    → AreOfScript p.fuel (script_of p.scripts c) (with_events c events (calls_in c r.events))
own_calls p c r events some held lt is = of (slice_get r.state.entries c) refl is where
  Of : List Running → Type 0
  Of calls = AreOfScript p.fuel (script_of p.scripts c) calls

  takes : (e : Entry) → calls_in c r.events ≡ map run_of e.replies → (o : Option Call) → slice_get (script_of p.scripts c) (length e.replies) ≡ o → take_events c o ≡ Some events
      → AreOfScript p.fuel (script_of p.scripts c) (with_events c events (calls_in c r.events))
  takes e calls None next is = absurd (let no : None ≡ Some events = is in cc)
  takes e calls (Some call) next is =
      let same : Takes c call ∷ Steps c ∷ [] ≡ events = cc in
      let place : length (calls_in c r.events) ≡ length e.replies = ap length calls ∙ mapped e.replies in
      subst (λ (l : List CoreEvent). AreOfScript p.fuel (script_of p.scripts c) (with_events c l (calls_in c r.events))) same
      (subst (AreOfScript p.fuel (script_of p.scripts c)) (sym (own_take c call (calls_in c r.events)))
      (of_script_more p.fuel (script_of p.scripts c) (calls_in c r.events) call (one_more 0) (held.of c lt) (ap (slice_get (script_of p.scripts c)) place ∙ next) (one_more_few 0 p.fuel some)))

  steps : (e : Entry) → calls_in c r.events ≡ map run_of e.replies ++ e.running ∷ [] → is_idle e.routine ≡ false → (b : Bool) → is_spent p.fuel e ≡ b → (if b then None else Some (Steps c ∷ [])) ≡ Some events
      → AreOfScript p.fuel (script_of p.scripts c) (with_events c events (calls_in c r.events))
  steps e calls busy true spent is = absurd (let no : None ≡ Some events = is in cc)
  steps e calls busy false spent is =
      let same : Steps c ∷ [] ≡ events = cc in
      let below : e.running.steps < p.fuel = le_false p.fuel e.running.steps (ap (λ (b : Bool). not b && nat_le p.fuel e.running.steps) (sym busy) ∙ spent) in
      subst (λ (l : List CoreEvent). AreOfScript p.fuel (script_of p.scripts c) (with_events c l (calls_in c r.events))) same
      (subst (λ (l : List Running). AreOfScript p.fuel (script_of p.scripts c) (with_events c (Steps c ∷ []) l)) (sym calls)
      (subst (AreOfScript p.fuel (script_of p.scripts c)) (sym (own_step c (map run_of e.replies) e.running))
      (of_script_bumped p.fuel (script_of p.scripts c) (map run_of e.replies) e.running (one_more e.running.steps) (subst (AreOfScript p.fuel (script_of p.scripts c)) calls (held.of c lt)) (one_more_few e.running.steps p.fuel below))))

  by : (e : Entry) → slice_get r.state.entries c ≡ Some e → (b : Bool) → is_idle e.routine ≡ b
      → (if b then take_events c (slice_get (script_of p.scripts c) (length e.replies)) else (if is_spent p.fuel e then None else Some (Steps c ∷ []))) ≡ Some events
      → AreOfScript p.fuel (script_of p.scripts c) (with_events c events (calls_in c r.events))
  by e at true idle is =
      takes e (sym (kept_calls p.target p.setting r.events r.state c e held.runs at) ∙ (ap (λ (b : Bool). map run_of e.replies ++ running_of b e) idle ∙ append-nil (map run_of e.replies)))
      (slice_get (script_of p.scripts c) (length e.replies)) refl is
  by e at false busy is =
      steps e (sym (kept_calls p.target p.setting r.events r.state c e held.runs at) ∙ ap (λ (b : Bool). map run_of e.replies ++ running_of b e) busy) busy (is_spent p.fuel e) refl is

  of : (o : Option Entry) → slice_get r.state.entries c ≡ o → caller_events p c o ≡ Some events → AreOfScript p.fuel (script_of p.scripts c) (with_events c events (calls_in c r.events))
  of None at is = absurd (let no : None ≡ Some events = is in cc)
  of (Some e) at is = by e at (is_idle e.routine) refl is

step_holds : (p : Replay) → 1 ≤ p.fuel → (c : ℕ) (r r' : Replaying) → Holding p r → one_step p c r ≡ Ok r' → Holding p r'
step_holds p some c r r' held ok =
    let s = stepped_ok p c r r' ok in
    let are = next_are p c r s.events s.next in
    let one = are.0 in
    let single = are.1 in
    let counted = held.counted in
    let both = steps_both r.events s.events in
    let events : r'.events ≡ r.events ++ s.events = ap (λ (x : Replaying). x.events) s.is in
    let steps : r'.steps ≡ r.steps + 1 = ap (λ (x : Replaying). x.steps) s.is in
    let within = s.within in
    record {
      runs = ap (λ (l : List CoreEvent). core_run p.target p.setting l (core_start p.target p.setting)) events ∙ (run_both p.target p.setting r.events s.events (core_start p.target p.setting) r.state held.runs ∙ s.runs);
      of = λ k lt. subst (AreOfScript p.fuel (script_of p.scripts k)) (sym (ap (calls_in k) events ∙ with_both k r.events s.events []))
          (dite (ℕ_discrete k c)
          (λ (e : k ≡ c). subst (λ (d : ℕ). AreOfScript p.fuel (script_of p.scripts d) (with_events d s.events (calls_in d r.events))) (sym e) (own_calls p c r s.events some held (subst (λ (d : ℕ). d < p.setting.sizes.callers) e lt) s.next))
          (λ (n : k ≢ c). subst (AreOfScript p.fuel (script_of p.scripts k)) (sym (calls_others s.events c k (calls_in k r.events) one n)) (held.of k lt)));
      counted = ap steps_in events ∙ omega (arith, both, single, counted, steps);
      within = omega (arith, steps, within);
    }

-- ---- loops

-- what a step of a caller keeps, all steps of it keep
module _ (p : Replay) (P : Replaying → Type 0) where
  abbrev Keeps : ℕ → Type 0
  Keeps c = (r r' : Replaying) → P r → one_step p c r ≡ Ok r' → P r'

  kept_step : (c : ℕ) → Keeps c → (next : Replaying → Result Replaying Refusal) → ((mid r' : Replaying) → P mid → next mid ≡ Ok r' → P r') → (r r' : Replaying) → P r → go_further (one_step p c r) next ≡ Ok r' → P r'
  kept_step c keeps next on r r' held ok = let f = further (one_step p c r) next r' ok in on f.0 r' (keeps r f.0 held f.1) f.2

  steps_kept : (c : ℕ) → Keeps c → (n : ℕ) (r r' : Replaying) → P r → steps_made p c n r ≡ Ok r' → P r'
  steps_kept c keeps zero r r' held ok = subst P (ok_is r r' ok) held
  steps_kept c keeps (suc n) r r' held ok = kept_step c keeps (steps_made p c n) (λ mid r'' h is. steps_kept c keeps n mid r'' h is) r r' held ok

  upto_kept : (c : ℕ) → Keeps c → (kind : StepKind) (most left : ℕ) (r r' : Replaying) → P r → upto_made p c kind most left r ≡ Ok r' → P r'
  upto_kept c keeps kind zero left r r' held ok = no_err (LongReplay r.steps) r' ok
  upto_kept c keeps kind (suc most) left r r' held ok =
      of (λ less mid r'' h is. upto_kept c keeps kind most less mid r'' h is) (wants_kind p c kind r) ok where
        last : ((less : ℕ) (mid r'' : Replaying) → P mid → upto_made p c kind most less mid ≡ Ok r'' → P r'') → (b : Bool) → (if b then Ok r else go_further (one_step p c r) (upto_made p c kind most (left - 1))) ≡ Ok r' → P r'
        last on true is = subst P (ok_is r r' is) held
        last on false is = kept_step c keeps (upto_made p c kind most (left - 1)) (on (left - 1)) r r' held is

        of : ((less : ℕ) (mid r'' : Replaying) → P mid → upto_made p c kind most less mid ≡ Ok r'' → P r'') → (b : Bool)
            → (if b then (if nat_le left 1 then Ok r else go_further (one_step p c r) (upto_made p c kind most (left - 1))) else go_further (one_step p c r) (upto_made p c kind most left)) ≡ Ok r' → P r'
        of on true is = last on (nat_le left 1) is
        of on false is = kept_step c keeps (upto_made p c kind most left) (on left) r r' held is

  ops_kept : (c : ℕ) → Keeps c → (most goal : ℕ) (r r' : Replaying) → P r → ops_made p c most goal r ≡ Ok r' → P r'
  ops_kept c keeps zero goal r r' held ok = no_err (LongReplay r.steps) r' ok
  ops_kept c keeps (suc most) goal r r' held ok = of (λ mid r'' h is. ops_kept c keeps most goal mid r'' h is) (nat_le goal (ended_calls c r)) ok where
    of : ((mid r'' : Replaying) → P mid → ops_made p c most goal mid ≡ Ok r'' → P r'') → (b : Bool) → (if b then Ok r else go_further (one_step p c r) (ops_made p c most goal)) ≡ Ok r' → P r'
    of on true is = subst P (ok_is r r' is) held
    of on false is = kept_step c keeps (ops_made p c most goal) on r r' held is

  turn_kept : ((c : ℕ) → Keeps c) → (turn : Turn) (r r' : Replaying) → P r → turn_made p turn r ≡ Ok r' → P r'
  turn_kept keeps (turns.Step c n) r r' held ok = steps_kept c (keeps c) n r r' held ok
  turn_kept keeps (turns.Upto c kind n) r r' held ok = upto_kept c (keeps c) kind (most_steps p r) n r r' held ok
  turn_kept keeps (turns.Ops c n) r r' held ok = ops_kept c (keeps c) (most_steps p r) (ended_calls c r + n) r r' held ok

  turns_kept : ((c : ℕ) → Keeps c) → (turns : List Turn) (r r' : Replaying) → P r → turns_made p turns r ≡ Ok r' → P r'
  turns_kept keeps [] r r' held ok = subst P (ok_is r r' ok) held
  turns_kept keeps (turn ∷ rest) r r' held ok =
      let f = further (turn_made p turn r) (turns_made p rest) r' ok in turns_kept keeps rest f.0 r' (turn_kept keeps turn r f.0 held f.1) f.2

  caller_kept : (c : ℕ) → Keeps c → (most : ℕ) (r r' : Replaying) → P r → caller_ended p c most r ≡ Ok r' → P r' × (next_events p c r' ≡ None)
  caller_kept c keeps zero r r' held ok = no_err (LongReplay r.steps) r' ok
  caller_kept c keeps (suc most) r r' held ok = of (λ mid r'' h is. caller_kept c keeps most mid r'' h is) (next_events p c r) refl ok where
    of : ((mid r'' : Replaying) → P mid → caller_ended p c most mid ≡ Ok r'' → P r'' × (next_events p c r'' ≡ None)) → (o : Option (List CoreEvent)) → next_events p c r ≡ o
        → ended_or r o (go_further (one_step p c r) (caller_ended p c most)) ≡ Ok r' → P r' × (next_events p c r' ≡ None)
    of on None none is = let same = ok_is r r' is in (subst P same held, subst (λ (x : Replaying). next_events p c x ≡ None) same none)
    of on (Some events) some is =
        let f = further (one_step p c r) (caller_ended p c most) r' is in on f.0 r' (keeps r f.0 held f.1) f.2

-- ---- to the end

-- the callers below one have no step left
abbrev EndedBelow : Replay → ℕ → Replaying → Type 0
EndedBelow p c r = (k : ℕ) → k < c → next_events p k r ≡ None

abbrev HoldsBelow : Replay → ℕ → Replaying → Type 0
HoldsBelow p c r = Holding p r × EndedBelow p c r

below_keeps : (p : Replay) → 1 ≤ p.fuel → (c : ℕ) (r r' : Replaying) → HoldsBelow p c r → one_step p c r ≡ Ok r' → HoldsBelow p c r'
below_keeps p some c r r' held ok =
    let s = stepped_ok p c r r' ok in (
      step_holds p some c r r' held.0 ok,
      λ k lt. (let other : k ≢ c = λ (e : k ≡ c). (let no : ⊥ = omega (arith, lt, e) in no) in
          ap (caller_events p k) (run_others p.target p.setting s.events r.state r'.state c k (next_are p c r s.events s.next).0 other s.runs) ∙ held.1 k lt),
    )

callers_kept : (p : Replay) → 1 ≤ p.fuel → (n c : ℕ) (r r' : Replaying) → HoldsBelow p c r → callers_ended p c n r ≡ Ok r' → HoldsBelow p (c + n) r'
callers_kept p some zero c r r' held ok = subst (λ (x : Replaying). HoldsBelow p (c + 0) x) (ok_is r r' ok) (subst (λ (k : ℕ). HoldsBelow p k r) (let e : c ≡ c + 0 = omega arith in e) held)
callers_kept p some (suc n) c r r' held ok =
    let f = further (caller_ended p c (most_steps p r) r) (callers_ended p (c + 1) n) r' ok in
    let done = caller_kept p (HoldsBelow p c) c (below_keeps p some c) (most_steps p r) r f.0 held f.1 in
    let next : HoldsBelow p (c + 1) f.0 = (
      done.0.0,
      λ k lt. dite (ℕ_discrete k c)
          (λ (e : k ≡ c). subst (λ (d : ℕ). next_events p d f.0 ≡ None) (sym e) done.1)
          (λ (n : k ≢ c). done.0.1 k (omega (arith, lt, n))),
    ) in
    subst (λ (k : ℕ). HoldsBelow p k r') (let e : (c + 1) + n ≡ c + suc n = omega arith in e) (callers_kept p some n (c + 1) f.0 r' next f.2)

start_holds : (p : Replay) → Holding p (replay_start p)
start_holds p = record { runs = refl; of = λ c lt. tt; counted = refl; within = omega arith }

-- a caller without a step left has ended its script, or was given all the steps that a call gets
has_ended : (p : Replay) (r : Replaying) (c : ℕ) (e : Entry) → Holding p r → c < p.setting.sizes.callers → slice_get r.state.entries c ≡ Some e → next_events p c r ≡ None
    → HasEnded p.fuel (script_of p.scripts c) (calls_in c r.events) (is_idle e.routine)
has_ended p r c e held lt at none = by (is_idle e.routine) refl (ap (caller_events p c) (sym at) ∙ none) where
  calls : calls_of e ≡ calls_in c r.events
  calls = kept_calls p.target p.setting r.events r.state c e held.runs at

  taken_all : (o : Option Call) → slice_get (script_of p.scripts c) (length e.replies) ≡ o → take_events c o ≡ None → length (script_of p.scripts c) ≤ length e.replies
  taken_all None next is = past_none (script_of p.scripts c) (length e.replies) next
  taken_all (Some call) next is = absurd (let no : Some (Takes c call ∷ Steps c ∷ []) ≡ None = is in cc)

  spent : (b : Bool) → is_spent p.fuel e ≡ b → (if b then None else Some (Steps c ∷ [])) ≡ None → is_spent p.fuel e ≡ true
  spent true was is = was
  spent false was is = absurd (let no : Some (Steps c ∷ []) ≡ None = is in cc)

  by : (b : Bool) → is_idle e.routine ≡ b → (if b then take_events c (slice_get (script_of p.scripts c) (length e.replies)) else (if is_spent p.fuel e then None else Some (Steps c ∷ []))) ≡ None
      → HasEnded p.fuel (script_of p.scripts c) (calls_in c r.events) b
  by true idle is =
      let those : calls_in c r.events ≡ map run_of e.replies = sym calls ∙ (ap (λ (b : Bool). map run_of e.replies ++ running_of b e) idle ∙ append-nil (map run_of e.replies)) in
      let count : length (calls_in c r.events) ≡ length e.replies = ap length those ∙ mapped e.replies in
      let few = of_script_few p.fuel (script_of p.scripts c) (calls_in c r.events) (held.of c lt) in
      let all = taken_all (slice_get (script_of p.scripts c) (length e.replies)) refl is in
      omega (arith, count, few, all)
  by false busy is =
      let those : calls_in c r.events ≡ map run_of e.replies ++ e.running ∷ [] = sym calls ∙ ap (λ (b : Bool). map run_of e.replies ++ running_of b e) busy in
      let full : nat_le p.fuel e.running.steps ≡ true = ap (λ (b : Bool). not b && nat_le p.fuel e.running.steps) (sym busy) ∙ spent (is_spent p.fuel e) refl is in
      let most = le_true p.fuel e.running.steps full in
      let few = of_script_last p.fuel (script_of p.scripts c) (map run_of e.replies) e.running (subst (AreOfScript p.fuel (script_of p.scripts c)) those (held.of c lt)) in
      ap last_steps those ∙ (last_is (map run_of e.replies) e.running ∙ omega (arith, most, few))

reach : (p : Replay) (turns : List Turn) (r : Replaying) → SuitScripts p.target p.setting p.scripts → 1 ≤ p.fuel → replayed p turns ≡ Ok r
    → IsCompleteRun p.target p.setting p.scripts p.fuel r.events r.state × (steps_in r.events ≡ r.steps) × (r.steps ≤ p.limit)
reach p turns r suit some ok =
    let f = further (turns_made p turns (replay_start p)) (callers_ended p 0 p.setting.sizes.callers) r ok in
    let mid : Holding p f.0 = turns_kept p (Holding p) (λ c x x'. step_holds p some c x x') turns (replay_start p) f.0 (start_holds p) f.1 in
    let end = callers_kept p some p.setting.sizes.callers 0 f.0 r (mid, λ k lt. (let no : ⊥ = omega (arith, lt) in absurd no)) f.2 in (
      record {
        run = record { runs = end.0.runs; of = end.0.of };
        ended = λ c e at. (
            let first = run_count p.target p.setting r.events (core_start p.target p.setting) r.state c e end.0.runs at in
            let lt : c < p.setting.sizes.callers = idle_within 0 p.setting.sizes.callers c first.0 first.1 in
            has_ended p r c e end.0 lt at (end.1 c (omega (arith, lt))));
      },
      end.0.counted,
      end.0.within,
    )

pub replays_reach : (p : Replay) → ReplaysReach p
replays_reach p = record { each = λ turns r suit some ok. reach p turns r suit some ok }
