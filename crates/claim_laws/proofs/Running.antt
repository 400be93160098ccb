-- What holds of callers along a run, told of the steps made for their calls: of one that rests, and of one whose call runs.
use Rattle.std.proofs.Common.{◌≡◌, ◌≢◌, ⊎_elim, ℕ, zero, suc, ◌+◌, ◌==◌, ◌&&◌, eq-eqb, ne_eqb, Bool, true, false, List, [], ◌∷◌, ◌++◌, length, set, Option, Some, None, refl, sym, ◌∙◌, ap, subst, arith, if◌then◌else◌}
use Rattle.std.specs.Prelude.{slice_get, slice_set, slice_index_or}
use Rattle.std.proofs.lemmas.List.{append-nil, length-append}
use Rattle.std.proofs.Math.Seq.{append_snoc}
use mathlib.Core.Logic.{dite}
use native.Mathlib.Decide.{ℕ_discrete}
use Rattle.target_code.specs.declared.target.Target.{Target}
use Rattle.phase_pools.specs.Accesses.{WordAccess}
use Rattle.caller_parts.specs.declared.call.Call.{Call}
use Rattle.caller_parts.specs.Pairing.{replied_by}
use Rattle.caller_parts.specs.Settings.{Setting}
use Rattle.caller_steps.specs.Entries.{Entry, idle_entry, is_idle}
use Rattle.caller_parts.specs.Calls.{is_call}
use Rattle.caller_steps.specs.Wants.{wants}
use Rattle.caller_steps.specs.After.{after, taken, counted}
use Rattle.core_runs.specs.Machine.{CoreState, CoreEvent, Takes, Steps, core_event, core_run, core_start, run_on, event_by, stepped, found_by, made}
use Rattle.core_runs.specs.Advances.{RunsOn, Ends}
use Rattle.core_runs.proofs.Reaching.{some_is, run_more}
use Rattle.core_runs.proofs.Keeping.{idle_wants, got_same, got_other, first_busy}
use Rattle.core_runs.proofs.Turning.{after_turns}
use Rattle.core_runs.proofs.core_sound.StartSound.{idle_at}
use Rattle.claim_laws.specs.CallSteps.{StepMade, steps_wanted, steps_by, with_steps, event_steps, steps_on, events_steps, call_steps, steps_of_call}
use Rattle.claim_laws.proofs.Following.{with_last}

-- ---- lists of steps

at_end : (before : List (List StepMade)) (steps : List StepMade) (n : ℕ) → length before ≡ n → slice_index_or (before ++ steps ∷ []) n [] ≡ steps
at_end [] steps zero is = refl
at_end [] steps (suc n) is = absurd (omega (arith, is))
at_end (x ∷ before) steps zero is = absurd (omega (arith, is))
at_end (x ∷ before) steps (suc n) is = at_end before steps n (omega (arith, is))

steps_further : (target : Target) (setting : Setting) (c : ℕ) (events more : List CoreEvent) (state mid : CoreState) (calls : List (List StepMade)) → core_run target setting events state ≡ Some mid
    → events_steps target setting c (events ++ more) state calls ≡ events_steps target setting c more mid (events_steps target setting c events state calls)
steps_further target setting c [] more state mid calls runs = ap (λ (s : CoreState). events_steps target setting c more s calls) (some_is state mid runs)
steps_further target setting c (event ∷ events) more state mid calls runs =
    of (λ next given r. steps_further target setting c events more next mid given r) (core_event target setting state event) runs where
      of : ((next : CoreState) (given : List (List StepMade)) → core_run target setting events next ≡ Some mid
          → events_steps target setting c (events ++ more) next given ≡ events_steps target setting c more mid (events_steps target setting c events next given))
          → (o : Option CoreState) → run_on o (core_run target setting events) ≡ Some mid
          → (let now = event_steps target setting c state event calls in
          steps_on o now (λ (next : CoreState). events_steps target setting c (events ++ more) next now) ≡ events_steps target setting c more mid (steps_on o now (λ (next : CoreState). events_steps target setting c events next now)))
      of further None r = absurd (let z : None ≡ Some mid = r in cc)
      of further (Some next) r = further next (event_steps target setting c state event calls) r

-- one more event
pub steps_more : (target : Target) (setting : Setting) (c : ℕ) (past : List CoreEvent) (event : CoreEvent) (state later : CoreState) → core_run target setting past (core_start target setting) ≡ Some state
    → core_event target setting state event ≡ Some later → call_steps target setting (past ++ event ∷ []) c ≡ event_steps target setting c state event (call_steps target setting past c)
steps_more target setting c past event state later runs goes =
    let now : List (List StepMade) = event_steps target setting c state event (call_steps target setting past c) in
    steps_further target setting c past (event ∷ []) (core_start target setting) state [] runs
    ∙ ap (λ (o : Option CoreState). steps_on o now (λ (next : CoreState). events_steps target setting c [] next now)) goes

-- what the start has and each event keeps, told of the events
pub along : (target : Target) (setting : Setting) (Holds : List CoreEvent → CoreState → Type 0) → Holds [] (core_start target setting)
    → ((past : List CoreEvent) (state later : CoreState) (event : CoreEvent) → core_run target setting past (core_start target setting) ≡ Some state → Holds past state → core_event target setting state event ≡ Some later
    → Holds (past ++ event ∷ []) later)
    → (events : List CoreEvent) (state : CoreState) → core_run target setting events (core_start target setting) ≡ Some state → Holds events state
along target setting Holds first keeps events state runs = from events [] (core_start target setting) refl first runs where
  from : (more past : List CoreEvent) (now : CoreState) → core_run target setting past (core_start target setting) ≡ Some now → Holds past now → core_run target setting more now ≡ Some state → Holds (past ++ more) state
  from [] past now came held r = subst (λ (l : List CoreEvent). Holds l state) (sym (append-nil past)) (subst (Holds past) (some_is now state r) held)
  from (event ∷ more) past now came held r =
      of (λ mid g rest. from more (past ++ event ∷ []) mid (run_more target setting past event (core_start target setting) now mid came g) (keeps past now mid event came held g) rest) (core_event target setting now event) refl r where
        of : ((mid : CoreState) → core_event target setting now event ≡ Some mid → core_run target setting more mid ≡ Some state → Holds ((past ++ event ∷ []) ++ more) state)
            → (o : Option CoreState) → core_event target setting now event ≡ o → run_on o (core_run target setting more) ≡ Some state → Holds (past ++ event ∷ more) state
        of further None goes rest = absurd (let z : None ≡ Some state = rest in cc)
        of further (Some mid) goes rest = subst (λ (l : List CoreEvent). Holds l state) (append_snoc past event more) (further mid goes rest)

-- ---- callers

-- a step of the caller k in a run: the access that its entry wants in a state
pub record IsStepOf (target : Target) (setting : Setting) (past : List CoreEvent) (state : CoreState) (k : ℕ) (e : Entry) (a : WordAccess) : Type 0 where
  pub came : core_run target setting past (core_start target setting) ≡ Some state
  pub there : slice_get state.entries k ≡ Some e
  pub wanted : wants target e ≡ Some a
  pub busy : is_idle e.routine ≡ false
  pub next : CoreState
  pub goes : core_event target setting state (Steps k) ≡ Some next
  pub later : slice_get next.entries k ≡ Some (after target setting e (found_by setting state a))

module _ (target : Target) (setting : Setting) (Rests : Entry → Type 0) (Runs : Entry → List StepMade → Type 0) where
  -- what such a step keeps if the call ends with it, and if the call runs on
  abbrev pub StepKeeps : Type 0
  StepKeeps = (past : List CoreEvent) (state : CoreState) (k : ℕ) (e : Entry) (a : WordAccess) (steps : List StepMade) → IsStepOf target setting past state k e a
      → steps_of_call target setting past k (length e.replies) ≡ steps → Runs e steps
      → (let found = found_by setting state a in let later = after target setting e found in
      (Ends (counted e) later → Rests later) × (RunsOn (counted e) later → Runs later (steps ++ record { entry = e; found = found } ∷ [])))

  -- the entry, and the steps of its calls
  abbrev pub Stands : Entry → List (List StepMade) → Bool → Type 0
  Stands e calls true = Rests e × (length calls ≡ length e.replies)
  Stands e calls false = (before : List (List StepMade)) × (steps : List StepMade) × (calls ≡ before ++ steps ∷ []) × (length before ≡ length e.replies) × Runs e steps

  abbrev AllStand : List CoreEvent → CoreState → Type 0
  AllStand events state = (c : ℕ) (e : Entry) → slice_get state.entries c ≡ Some e → Stands e (call_steps target setting events c) (is_idle e.routine)

  module _ (starts : (c : ℕ) → Rests (idle_entry c)) (takes : (e : Entry) (call : Call) → Rests e → Runs (taken setting.reclamation call e) []) (keeps : StepKeeps) where
    take_stands : (e : Entry) (call : Call) (calls : List (List StepMade)) → Stands e calls true → (let begun = taken setting.reclamation call e in Stands begun (calls ++ [] ∷ []) (is_idle begun.routine))
    take_stands e call calls was = subst (Stands (taken setting.reclamation call e) (calls ++ [] ∷ [])) (sym (first_busy setting.reclamation)) (calls, [], refl, was.1, takes e call was.0)

    -- a caller's step
    step_stands : (past : List CoreEvent) (state : CoreState) (k : ℕ) (e : Entry) (a : WordAccess) → IsStepOf target setting past state k e a → Stands e (call_steps target setting past k) false
        → (let later = after target setting e (found_by setting state a) in Stands later (with_steps (call_steps target setting past k) (steps_by target setting state (slice_get state.entries k))) (is_idle later.routine))
    step_stands past state k e a step was = ⊎_elim
        (λ (t : RunsOn (counted e) later). subst (Stands later more) (sym t.0) (was.0, all, more_is, was.3 ∙ ap length (sym t.1), kept.1 t))
        (λ (t : Ends (counted e) later). subst (Stands later more) (sym t.1) (kept.0 t, ap length more_is ∙ (longer was.0 all ∙ (ap (λ (n : ℕ). n + 1) was.3 ∙ (sym (longer e.replies (replied_by t.0 (counted e).running)) ∙ ap length (sym t.2))))))
        (after_turns target setting e found step.busy) where
          found : ℕ
          found = found_by setting state a

          later : Entry
          later = after target setting e found

          s : StepMade
          s = record { entry = e; found = found }

          all : List StepMade
          all = was.1 ++ s ∷ []

          more : List (List StepMade)
          more = with_steps (call_steps target setting past k) (steps_by target setting state (slice_get state.entries k))

          more_is : more ≡ was.0 ++ all ∷ []
          more_is =
              let steps_are : steps_by target setting state (slice_get state.entries k) ≡ s ∷ [] = ap (steps_by target setting state) step.there ∙ ap (steps_wanted setting state e) step.wanted in
              ap (λ (l : List StepMade). with_steps (call_steps target setting past k) l) steps_are
              ∙ (ap (λ (l : List (List StepMade)). with_steps l (s ∷ [])) was.2 ∙ with_last was.0 was.1 (s ∷ []))

          own : steps_of_call target setting past k (length e.replies) ≡ was.1
          own = ap (λ (l : List (List StepMade)). slice_index_or l (length e.replies) []) was.2 ∙ at_end was.0 was.1 (length e.replies) was.3

          kept : (Ends (counted e) later → Rests later) × (RunsOn (counted e) later → Runs later all)
          kept = keeps past state k e a was.1 step own was.4

          longer : {A : Type 0} (xs : List A) (x : A) → length (xs ++ x ∷ []) ≡ length xs + 1
          longer xs x = length-append xs (x ∷ [])

    -- one entry changes
    one_changes : (past : List CoreEvent) (event : CoreEvent) (state mid : CoreState) (words : List ℕ) (k : ℕ) (d new : Entry) (f : List (List StepMade) → List (List StepMade)) → record { words = words; entries = slice_set state.entries k new } ≡ mid
        → slice_get state.entries k ≡ Some d → AllStand past state → ((c : ℕ) → call_steps target setting (past ++ event ∷ []) c ≡ (let calls = call_steps target setting past c in if k == c then f calls else calls))
        → Stands new (f (call_steps target setting past k)) (is_idle new.routine) → AllStand (past ++ event ∷ []) mid
    one_changes past event state mid words k d new f is at all steps goes c e got = dite (ℕ_discrete k c)
        (λ (q : k ≡ c).
        let same : new ≡ e = (let here : slice_get (set state.entries k new) c ≡ Some new = subst (λ (j : ℕ). slice_get (set state.entries k new) j ≡ Some new) q (got_same state.entries k new d at) in let there = got_in in cc) in
        let calls : call_steps target setting (past ++ event ∷ []) c ≡ f (call_steps target setting past k) =
        steps c ∙ (ap (λ (b : Bool). if b then f (call_steps target setting past c) else call_steps target setting past c) (eq-eqb k c q) ∙ ap (λ (j : ℕ). f (call_steps target setting past j)) (sym q)) in
        subst (λ (x : Entry). Stands x (call_steps target setting (past ++ event ∷ []) c) (is_idle x.routine)) same (subst (λ (l : List (List StepMade)). Stands new l (is_idle new.routine)) (sym calls) goes))
        (λ (n : k ≢ c).
        let there : slice_get state.entries c ≡ Some e = sym (got_other state.entries k c new (λ z. n (sym z))) ∙ got_in in
        let calls : call_steps target setting (past ++ event ∷ []) c ≡ call_steps target setting past c =
        steps c ∙ ap (λ (b : Bool). if b then f (call_steps target setting past c) else call_steps target setting past c) (ne_eqb k c n) in
        subst (λ (l : List (List StepMade)). Stands e l (is_idle e.routine)) (sym calls) (all c e there)) where
          got_in : slice_get (set state.entries k new) c ≡ Some e
          got_in = subst (λ (m : CoreState). slice_get m.entries c ≡ Some e) (sym is) got

    event_stands : (past : List CoreEvent) (state later : CoreState) (event : CoreEvent) → core_run target setting past (core_start target setting) ≡ Some state → AllStand past state → core_event target setting state event ≡ Some later
        → AllStand (past ++ event ∷ []) later
    event_stands past state later (Takes k call) came all goes = of (slice_get state.entries k) refl goes where
      by : (d : Entry) → slice_get state.entries k ≡ Some d → (i : Bool) → is_idle d.routine ≡ i → (b : Bool) → (if i && b then Some (record state { entries = slice_set state.entries k (taken setting.reclamation call d) }) else None) ≡ Some later
          → AllStand (past ++ Takes k call ∷ []) later
      by d at true idle true became = one_changes past (Takes k call) state later state.words k d (taken setting.reclamation call d) (λ (l : List (List StepMade)). l ++ [] ∷ []) (some_is _ later became) at all
          (λ c. steps_more target setting c past (Takes k call) state later came goes) (take_stands d call (call_steps target setting past k) (subst (Stands d (call_steps target setting past k)) idle (all k d at)))
      by d at _ idle _ became = absurd (let z : None ≡ Some later = became in cc)

      of : (o : Option Entry) → slice_get state.entries k ≡ o → event_by target setting state (Takes k call) o ≡ Some later → AllStand (past ++ Takes k call ∷ []) later
      of None at became = absurd (let z : None ≡ Some later = became in cc)
      of (Some d) at became = by d at (is_idle d.routine) refl (is_call target call) became
    event_stands past state later (Steps k) came all goes = of (slice_get state.entries k) refl goes where
      by : (d : Entry) → slice_get state.entries k ≡ Some d → (o : Option WordAccess) → wants target d ≡ o → (i : Bool) → is_idle d.routine ≡ i → stepped target setting state k d o ≡ Some later
          → AllStand (past ++ Steps k ∷ []) later
      by d at None want i idle became = absurd (let z : None ≡ Some later = became in cc)
      by d at (Some a) want true idle became = absurd (idle_wants target d a idle want)
      by d at (Some a) want false busy became =
          one_changes past (Steps k) state later (made setting state a) k d (after target setting d (found_by setting state a)) (λ (l : List (List StepMade)). with_steps l (steps_by target setting state (slice_get state.entries k)))
          (some_is _ later became) at all (λ c. steps_more target setting c past (Steps k) state later came goes)
          (step_stands past state k d a (record { came = came; there = at; wanted = want; busy = busy; next = later; goes = goes; later = there }) (subst (Stands d (call_steps target setting past k)) busy (all k d at))) where
            there : slice_get later.entries k ≡ Some (after target setting d (found_by setting state a))
            there = subst (λ (m : CoreState). slice_get m.entries k ≡ Some (after target setting d (found_by setting state a))) (some_is _ later became) (got_same state.entries k (after target setting d (found_by setting state a)) d at)

      of : (o : Option Entry) → slice_get state.entries k ≡ o → event_by target setting state (Steps k) o ≡ Some later → AllStand (past ++ Steps k ∷ []) later
      of None at became = absurd (let z : None ≡ Some later = became in cc)
      of (Some d) at became = by d at (wants target d) refl (is_idle d.routine) refl became

    start_stands : AllStand [] (core_start target setting)
    start_stands c e is =
        let there = (idle_at 0 setting.sizes.callers c e is).1 in
        subst (λ (x : Entry). Stands x [] (is_idle x.routine)) (sym there) (starts (0 + c), refl)

    -- of each caller, after each run
    pub run_stands : (events : List CoreEvent) (state : CoreState) → core_run target setting events (core_start target setting) ≡ Some state → (c : ℕ) (e : Entry) → slice_get state.entries c ≡ Some e
        → Stands e (call_steps target setting events c) (is_idle e.routine)
    run_stands events state run = along target setting AllStand start_stands event_stands events state run

    -- of a call that runs, with its steps
    pub running_has : (events : List CoreEvent) (state : CoreState) → core_run target setting events (core_start target setting) ≡ Some state → (c : ℕ) (e : Entry) → slice_get state.entries c ≡ Some e
        → is_idle e.routine ≡ false → Runs e (steps_of_call target setting events c (length e.replies))
    running_has events state run c e there busy =
        let was : Stands e (call_steps target setting events c) false = subst (Stands e (call_steps target setting events c)) busy (run_stands events state run c e there) in
        subst (Runs e) (sym (ap (λ (l : List (List StepMade)). slice_index_or l (length e.replies) []) was.2 ∙ at_end was.0 was.1 (length e.replies) was.3)) was.4
