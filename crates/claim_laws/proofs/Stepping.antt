-- The steps of a call are as many as its entry counts.
use Rattle.std.proofs.Common.{◌≡◌, ℕ, ◌+◌, ◌==◌, Bool, true, false, List, [], ◌∷◌, ◌++◌, length, map, Option, Some, None, refl, sym, ◌∙◌, ap, arith, if◌then◌else◌}
use Rattle.std.specs.Prelude.{slice_get}
use Rattle.std.proofs.lemmas.List.{map-append, length-append}
use Rattle.target_code.specs.declared.target.Target.{Target}
use Rattle.phase_pools.specs.Accesses.{WordAccess}
use Rattle.caller_parts.specs.declared.call.Running.{Running}
use Rattle.caller_parts.specs.Settings.{Setting}
use Rattle.caller_steps.specs.Entries.{Entry, one_more}
use Rattle.caller_steps.specs.Wants.{wants}
use Rattle.core_runs.specs.Machine.{CoreState, CoreEvent, Takes, Steps, core_event, core_run, core_start, run_on, event_by, stepped, OfAll}
use Rattle.core_runs.specs.Histories.{bumped, with_event, with_events}
use Rattle.claim_laws.specs.CallSteps.{StepMade, steps_wanted, steps_by, with_steps, event_steps, steps_on, events_steps, count_of, StepsAreCounted}

abbrev steps_counted : Running → ℕ
steps_counted run = run.steps

-- call by call as many
abbrev AreCounted : List (List StepMade) → List Running → Type 0
AreCounted calls taken = map count_of calls ≡ map steps_counted taken

heads : (a b : ℕ) (xs ys : List ℕ) → a ∷ xs ≡ b ∷ ys → (a ≡ b) × (xs ≡ ys)
heads a b xs ys is = (cc, cc)

count_more : (steps : List StepMade) (s : StepMade) (n : ℕ) → count_of steps ≡ n → count_of (steps ++ s ∷ []) ≡ one_more n
count_more steps s n is = let sum : length (steps ++ s ∷ []) ≡ length steps + 1 = length-append steps (s ∷ []) in omega (arith, sum, is)

last_counted : (calls : List (List StepMade)) (taken : List Running) (s : StepMade) → AreCounted calls taken → AreCounted (with_steps calls (s ∷ [])) (bumped taken)
last_counted [] [] s are = refl
last_counted [] (r ∷ taken) s are = absurd (let z : [] ≡ r.steps ∷ map steps_counted taken = are in cc)
last_counted (x ∷ calls) [] s are = absurd (let z : count_of x ∷ map count_of calls ≡ [] = are in cc)
last_counted (x ∷ []) (r ∷ []) s are = ap (λ (n : ℕ). n ∷ []) (count_more x s r.steps (heads (count_of x) r.steps [] [] are).0)
last_counted (x ∷ []) (r ∷ q ∷ taken) s are = absurd (let z : [] ≡ q.steps ∷ map steps_counted taken = (heads (count_of x) r.steps [] (map steps_counted (q ∷ taken)) are).1 in cc)
last_counted (x ∷ y ∷ calls) (r ∷ []) s are = absurd (let z : count_of y ∷ map count_of calls ≡ [] = (heads (count_of x) r.steps (map count_of (y ∷ calls)) [] are).1 in cc)
last_counted (x ∷ y ∷ calls) (r ∷ q ∷ taken) s are =
    let both = heads (count_of x) r.steps (map count_of (y ∷ calls)) (map steps_counted (q ∷ taken)) are in
    ap (λ (n : ℕ). n ∷ map count_of (with_steps (y ∷ calls) (s ∷ []))) both.0 ∙ ap (λ (l : List ℕ). r.steps ∷ l) (last_counted (y ∷ calls) (q ∷ taken) s both.1)

module _ (target : Target) (setting : Setting) (c : ℕ) where
  event_counted : (state mid : CoreState) (event : CoreEvent) (calls : List (List StepMade)) (taken : List Running) → core_event target setting state event ≡ Some mid → AreCounted calls taken
      → AreCounted (event_steps target setting c state event calls) (with_event c event taken)
  event_counted state mid (Takes k call) calls taken goes are = of (k == c) where
    of : (b : Bool) → AreCounted (if b then calls ++ [] ∷ [] else calls) (if b then taken ++ record { call = call; steps = 0 } ∷ [] else taken)
    of true = map-append count_of calls ([] ∷ []) ∙ (ap (λ (l : List ℕ). l ++ 0 ∷ []) are ∙ sym (map-append steps_counted taken (record { call = call; steps = 0 } ∷ [])))
    of false = are
  event_counted state mid (Steps k) calls taken goes are = of (k == c) where
    made_one : (e : Entry) (o : Option WordAccess) → stepped target setting state k e o ≡ Some mid → AreCounted (with_steps calls (steps_wanted setting state e o)) (bumped taken)
    made_one e None is = absurd (let z : None ≡ Some mid = is in cc)
    made_one e (Some a) is = last_counted calls taken (record { entry = e; found = _ }) are

    made : (o : Option Entry) → event_by target setting state (Steps k) o ≡ Some mid → AreCounted (with_steps calls (steps_by target setting state o)) (bumped taken)
    made None is = absurd (let z : None ≡ Some mid = is in cc)
    made (Some e) is = made_one e (wants target e) is

    of : (b : Bool) → AreCounted (if b then with_steps calls (steps_by target setting state (slice_get state.entries k)) else calls) (if b then bumped taken else taken)
    of true = made (slice_get state.entries k) goes
    of false = are

  events_counted : (events : List CoreEvent) (state later : CoreState) (calls : List (List StepMade)) (taken : List Running) → core_run target setting events state ≡ Some later → AreCounted calls taken
      → AreCounted (events_steps target setting c events state calls) (with_events c events taken)
  events_counted [] state later calls taken runs are = are
  events_counted (event ∷ events) state later calls taken runs are =
      of (λ mid more given r a. events_counted events mid later more given r a) (core_event target setting state event) refl runs where
        of : ((mid : CoreState) (more : List (List StepMade)) (given : List Running) → core_run target setting events mid ≡ Some later → AreCounted more given
            → AreCounted (events_steps target setting c events mid more) (with_events c events given))
            → (o : Option CoreState) → core_event target setting state event ≡ o → run_on o (core_run target setting events) ≡ Some later
            → (let more = event_steps target setting c state event calls in AreCounted (steps_on o more (λ (next : CoreState). events_steps target setting c events next more)) (with_events c events (with_event c event taken)))
        of further None goes r = absurd (let z : None ≡ Some later = r in cc)
        of further (Some mid) goes r = further mid (event_steps target setting c state event calls) (with_event c event taken) r (event_counted state mid event calls taken goes are)

pub steps_are_counted : OfAll StepsAreCounted
steps_are_counted target setting = record { each = λ events state c runs. events_counted target setting c events (core_start target setting) state [] [] runs refl }
