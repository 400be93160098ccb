-- Each event keeps the calls in the entries.
use Rattle.std.proofs.Common.{◌≡◌, ◌≢◌, ◌<◌, ◌==◌, ◌&&◌, ℕ, zero, suc, ◌+◌, eq-eqb, ne_eqb, Bool, true, false, List, [], ◌∷◌, ◌++◌, map, set, Option, Some, None, refl, sym, ap, ◌∙◌, subst, ⊎_elim, arith, if◌then◌else◌}
use Rattle.std.proofs.lemmas.List.{map-append, append-nil}
use Rattle.std.specs.Prelude.{slice_get, slice_set}
use mathlib.Core.Logic.{dite}
use native.Mathlib.Decide.{ℕ_discrete}
use Rattle.target_code.specs.declared.target.Target.{Target}
use Rattle.phase_pools.specs.Accesses.{WordAccess}
use Rattle.caller_parts.specs.declared.call.Call.{Call}
use Rattle.caller_parts.specs.declared.call.Replied.{Replied}
use Rattle.caller_parts.specs.declared.call.Running.{Running}
use Rattle.caller_parts.specs.declared.routine.Routine.{Routine}
use Rattle.caller_parts.specs.declared.routine.Routine.TheVariants.{Idle}
use Rattle.caller_parts.specs.declared.setting.Reclamation.{Reclamation}
use Rattle.caller_parts.specs.declared.setting.Reclamation.TheVariants.{Optimistic, Epochs}
use Rattle.caller_parts.specs.Pairing.{run_of, replied_by}
use Rattle.caller_parts.specs.Settings.{Setting}
use Rattle.caller_steps.specs.Entries.{Entry, idle_entry, one_more, is_idle}
use Rattle.caller_parts.specs.Calls.{is_call}
use Rattle.caller_steps.specs.Wants.{wants, wanted}
use Rattle.caller_steps.specs.After.{after, first_routine, taken, counted}
use Rattle.core_runs.specs.Machine.{CoreState, CoreEvent, Takes, Steps, core_event, core_run, run_on, core_start, event_by, stepped, found_by, made, idle_from, OfAll}
use Rattle.core_runs.specs.Advances.{RunsOn, Ends}
use Rattle.core_runs.specs.Histories.{bumped, with_event, with_events, running_of, calls_of, calls_in, KeepsCalls}
use Rattle.core_runs.proofs.Reaching.{some_is}
use Rattle.core_runs.proofs.Turning.{after_turns}

-- an idle entry wants nothing
wanted_idle : (target : Target) (e : Entry) (a : WordAccess) (routine : Routine) → is_idle routine ≡ true → wanted target e routine ≡ Some a → ⊥
wanted_idle target e a Idle idle want = let no : None ≡ Some a = want in cc
wanted_idle target e a _ idle want = let no : false ≡ true = idle in cc

pub idle_wants : (target : Target) (e : Entry) (a : WordAccess) → is_idle e.routine ≡ true → wants target e ≡ Some a → ⊥
unfolding wants
idle_wants target e a idle want = wanted_idle target e a e.routine idle want

pub bumped_last : (xs : List Running) (x : Running) → bumped (xs ++ x ∷ []) ≡ xs ++ record x { steps = one_more x.steps } ∷ []
bumped_last (y ∷ z ∷ ys) x = ap (λ (l : List Running). y ∷ l) (bumped_last (z ∷ ys) x)
bumped_last _ x = refl

-- a step of a call that runs
pub step_keeps : (target : Target) (setting : Setting) (e : Entry) (w : ℕ) → is_idle e.routine ≡ false → calls_of (after target setting e w) ≡ bumped (calls_of e)
step_keeps target setting e w busy =
    let e' : Entry = after target setting e w in
    let kept : List Running = map run_of e.replies in
    let one : List Running = record e.running { steps = one_more e.running.steps } ∷ [] in
    let bump : bumped (calls_of e) ≡ kept ++ one = ap (λ (b : Bool). bumped (kept ++ running_of b e)) busy ∙ bumped_last kept e.running in
    ⊎_elim
    (λ (t : RunsOn (counted e) e'). ap (λ (b : Bool). map run_of e'.replies ++ running_of b e') t.0
    ∙ (ap (λ (l : List Replied). map run_of l ++ e'.running ∷ []) t.1 ∙ (ap (λ (r : Running). kept ++ r ∷ []) t.2 ∙ sym bump)))
    (λ (t : Ends (counted e) e'). ap (λ (b : Bool). map run_of e'.replies ++ running_of b e') t.1
    ∙ (append-nil (map run_of e'.replies) ∙ (ap (map run_of) t.2 ∙ (map-append run_of e.replies (replied_by t.0 (counted e).running ∷ []) ∙ sym bump))))
    (after_turns target setting e w busy)

-- by either scheme a caller that has taken a call isn't idle
pub first_busy : (by : Reclamation) → is_idle (first_routine by) ≡ false
first_busy Optimistic = refl
first_busy Epochs = refl

pub take_keeps : (by : Reclamation) (e : Entry) (call : Call) → is_idle e.routine ≡ true → calls_of (taken by call e) ≡ calls_of e ++ record { call = call; steps = 0 } ∷ []
take_keeps by e call idle =
    let kept : List Running = map run_of e.replies in
    let one : List Running = record { call = call; steps = 0 } ∷ [] in
    ap (λ (b : Bool). kept ++ running_of b (taken by call e)) (first_busy by)
    ∙ sym (ap (λ (b : Bool). (kept ++ running_of b e) ++ one) idle ∙ ap (λ (l : List Running). l ++ one) (append-nil kept))

-- the state has an entry of c, with these calls
abbrev pub Keeping : CoreState → ℕ → List Running → Type 0
Keeping state c calls = (e : Entry) × (slice_get state.entries c ≡ Some e) × (calls_of e ≡ calls)

pub got_same : (l : List Entry) (i : ℕ) (a b : Entry) → slice_get l i ≡ Some b → slice_get (set l i a) i ≡ Some a
got_same [] i a b e = absurd (cc)
got_same (x ∷ xs) zero a b e = refl
got_same (x ∷ xs) (suc i) a b e = got_same xs i a b e

pub got_other : (l : List Entry) (i j : ℕ) (a : Entry) → j ≢ i → slice_get (set l i a) j ≡ slice_get l j
got_other (x ∷ xs) zero zero a n = absurd (n refl)
got_other (x ∷ xs) (suc i) (suc j) a n = got_other xs i j a (λ e. n (ap suc e))
got_other _ _ _ a n = refl

-- one entry changes, to one with these calls
one_changes : (state mid : CoreState) (words : List ℕ) (k c : ℕ) (d new e : Entry) (f : List Running → List Running) → record { words = words; entries = slice_set state.entries k new } ≡ mid
    → slice_get state.entries k ≡ Some d → slice_get state.entries c ≡ Some e → calls_of new ≡ f (calls_of d) → Keeping mid c (if k == c then f (calls_of e) else calls_of e)
one_changes state mid words k c d new e f is at there kept = subst (λ (m : CoreState). Keeping m c (if k == c then f (calls_of e) else calls_of e)) is (dite (ℕ_discrete k c)
    (λ (q : k ≡ c).
    let same : d ≡ e = (let at' : slice_get state.entries c ≡ Some d = subst (λ (j : ℕ). slice_get state.entries j ≡ Some d) q at in cc) in (
      new,
      subst (λ (j : ℕ). slice_get (set state.entries k new) j ≡ Some new) q (got_same state.entries k new d at),
      kept ∙ (ap (λ (x : Entry). f (calls_of x)) same ∙ sym (ap (λ (b : Bool). if b then f (calls_of e) else calls_of e) (eq-eqb k c q))),
    ))
    (λ (n : k ≢ c). (e, got_other state.entries k c new (λ z. n (sym z)) ∙ there, sym (ap (λ (b : Bool). if b then f (calls_of e) else calls_of e) (ne_eqb k c n)))))

-- what an event does to the calls of c
pub event_keeps : (target : Target) (setting : Setting) (state mid : CoreState) (event : CoreEvent) (c : ℕ) (e : Entry) → core_event target setting state event ≡ Some mid → slice_get state.entries c ≡ Some e
    → Keeping mid c (with_event c event (calls_of e))
event_keeps target setting state mid (Takes k call) c e goes there = of (slice_get state.entries k) refl goes where
  by : (d : Entry) → slice_get state.entries k ≡ Some d → (i : Bool) → is_idle d.routine ≡ i → (b : Bool) → is_call target call ≡ b
      → (if i && b then Some (record state { entries = slice_set state.entries k (taken setting.reclamation call d) }) else None) ≡ Some mid → Keeping mid c (with_event c (Takes k call) (calls_of e))
  by d at true idle true is became = one_changes state mid state.words k c d (taken setting.reclamation call d) e (λ (l : List Running). l ++ record { call = call; steps = 0 } ∷ []) (some_is _ mid became) at there (take_keeps setting.reclamation d call idle)
  by d at _ idle _ is became = absurd (let z : None ≡ Some mid = became in cc)

  of : (o : Option Entry) → slice_get state.entries k ≡ o → event_by target setting state (Takes k call) o ≡ Some mid → Keeping mid c (with_event c (Takes k call) (calls_of e))
  of None at became = absurd (let z : None ≡ Some mid = became in cc)
  of (Some d) at became = by d at (is_idle d.routine) refl (is_call target call) refl became
event_keeps target setting state mid (Steps k) c e goes there = of (slice_get state.entries k) refl goes where
  by : (d : Entry) → slice_get state.entries k ≡ Some d → (o : Option WordAccess) → wants target d ≡ o → (i : Bool) → is_idle d.routine ≡ i
      → stepped target setting state k d o ≡ Some mid → Keeping mid c (with_event c (Steps k) (calls_of e))
  by d at None want i idle became = absurd (let z : None ≡ Some mid = became in cc)
  by d at (Some a) want true idle became = absurd (idle_wants target d a idle want)
  by d at (Some a) want false idle became = one_changes state mid (made setting state a) k c d (after target setting d (found_by setting state a)) e bumped (some_is _ mid became) at there (step_keeps target setting d (found_by setting state a) idle)

  of : (o : Option Entry) → slice_get state.entries k ≡ o → event_by target setting state (Steps k) o ≡ Some mid → Keeping mid c (with_event c (Steps k) (calls_of e))
  of None at became = absurd (let z : None ≡ Some mid = became in cc)
  of (Some d) at became = by d at (wants target d) refl (is_idle d.routine) refl became

pub keeps_from : (target : Target) (setting : Setting) (events : List CoreEvent) (state later : CoreState) (c : ℕ) (e : Entry) → core_run target setting events state ≡ Some later → slice_get state.entries c ≡ Some e
    → Keeping later c (with_events c events (calls_of e))
keeps_from target setting [] state later c e runs there = (e, subst (λ (s : CoreState). slice_get s.entries c ≡ Some e) (some_is state later runs) there, refl)
keeps_from target setting (event ∷ events) state later c e runs there =
    of (λ mid d r at. keeps_from target setting events mid later c d r at) (core_event target setting state event) refl runs where
      of : ((mid : CoreState) (d : Entry) → core_run target setting events mid ≡ Some later → slice_get mid.entries c ≡ Some d → Keeping later c (with_events c events (calls_of d)))
          → (o : Option CoreState) → core_event target setting state event ≡ o → run_on o (core_run target setting events) ≡ Some later → Keeping later c (with_events c events (with_event c event (calls_of e)))
      of further None goes r = absurd (let z : None ≡ Some later = r in cc)
      of further (Some mid) goes r =
          let k = event_keeps target setting state mid event c e goes there in
          subst (λ (l : List Running). Keeping later c (with_events c events l)) k.2 (further mid k.0 r k.1)

-- the other way: an entry that is there afterwards was there
was_there : (l : List Entry) (i j : ℕ) (a b : Entry) → slice_get (set l i a) j ≡ Some b → (e : Entry) × (slice_get l j ≡ Some e)
was_there [] i j a b is = absurd (cc)
was_there (x ∷ xs) zero zero a b is = (x, refl)
was_there (x ∷ xs) zero (suc j) a b is = (b, is)
was_there (x ∷ xs) (suc i) zero a b is = (x, refl)
was_there (x ∷ xs) (suc i) (suc j) a b is = was_there xs i j a b is

event_count : (target : Target) (setting : Setting) (state mid : CoreState) (event : CoreEvent) (c : ℕ) (e : Entry) → core_event target setting state event ≡ Some mid → slice_get mid.entries c ≡ Some e
    → (d : Entry) × (slice_get state.entries c ≡ Some d)
event_count target setting state mid (Takes k call) c e goes there = of (slice_get state.entries k) goes where
  by : (d : Entry) (b : Bool) → (if b then Some (record state { entries = slice_set state.entries k (taken setting.reclamation call d) }) else None) ≡ Some mid → (d : Entry) × (slice_get state.entries c ≡ Some d)
  by d true became = was_there state.entries k c (taken setting.reclamation call d) e (subst (λ (s : CoreState). slice_get s.entries c ≡ Some e) (sym (some_is _ mid became)) there)
  by d false became = absurd (let z : None ≡ Some mid = became in cc)

  of : (o : Option Entry) → event_by target setting state (Takes k call) o ≡ Some mid → (d : Entry) × (slice_get state.entries c ≡ Some d)
  of None became = absurd (let z : None ≡ Some mid = became in cc)
  of (Some d) became = by d (is_idle d.routine && is_call target call) became
event_count target setting state mid (Steps k) c e goes there = of (slice_get state.entries k) goes where
  by : (d : Entry) (o : Option WordAccess) → stepped target setting state k d o ≡ Some mid → (d : Entry) × (slice_get state.entries c ≡ Some d)
  by d None became = absurd (let z : None ≡ Some mid = became in cc)
  by d (Some a) became = was_there state.entries k c (after target setting d (found_by setting state a)) e (subst (λ (s : CoreState). slice_get s.entries c ≡ Some e) (sym (some_is _ mid became)) there)

  of : (o : Option Entry) → event_by target setting state (Steps k) o ≡ Some mid → (d : Entry) × (slice_get state.entries c ≡ Some d)
  of None became = absurd (let z : None ≡ Some mid = became in cc)
  of (Some d) became = by d (wants target d) became

pub run_count : (target : Target) (setting : Setting) (events : List CoreEvent) (state later : CoreState) (c : ℕ) (e : Entry) → core_run target setting events state ≡ Some later → slice_get later.entries c ≡ Some e
    → (d : Entry) × (slice_get state.entries c ≡ Some d)
run_count target setting [] state later c e runs there = (e, subst (λ (s : CoreState). slice_get s.entries c ≡ Some e) (sym (some_is state later runs)) there)
run_count target setting (event ∷ events) state later c e runs there =
    of (λ mid r. run_count target setting events mid later c e r there) (core_event target setting state event) refl runs where
      of : ((mid : CoreState) → core_run target setting events mid ≡ Some later → (d : Entry) × (slice_get mid.entries c ≡ Some d))
          → (o : Option CoreState) → core_event target setting state event ≡ o → run_on o (core_run target setting events) ≡ Some later → (d : Entry) × (slice_get state.entries c ≡ Some d)
      of further None goes r = absurd (let z : None ≡ Some later = r in cc)
      of further (Some mid) goes r = let d = further mid r in event_count target setting state mid event c d.0 goes d.1

-- at the start each caller has no calls
no_calls : (i n c : ℕ) (e : Entry) → slice_get (idle_from i n) c ≡ Some e → calls_of e ≡ []
no_calls i zero c e is = absurd (cc)
no_calls i (suc n) zero e is = let same : idle_entry i ≡ e = cc in ap calls_of (sym same)
no_calls i (suc n) (suc c) e is = no_calls (i + 1) n c e is

-- there are so many callers
pub idle_within : (i n c : ℕ) (e : Entry) → slice_get (idle_from i n) c ≡ Some e → c < n
idle_within i zero c e is = absurd (cc)
idle_within i (suc n) zero e is = omega arith
idle_within i (suc n) (suc c) e is = let lt = idle_within (i + 1) n c e is in omega (arith, lt)

pub idle_there : (i n c : ℕ) → c < n → slice_get (idle_from i n) c ≡ Some (idle_entry (i + c))
idle_there i zero c lt = absurd (omega arith)
idle_there i (suc n) zero lt = ap (λ (j : ℕ). Some (idle_entry j)) (omega arith)
idle_there i (suc n) (suc c) lt = idle_there (i + 1) n c (omega arith) ∙ ap (λ (j : ℕ). Some (idle_entry j)) (omega arith)

pub kept_calls : (target : Target) (setting : Setting) (events : List CoreEvent) (state : CoreState) (c : ℕ) (e : Entry) → core_run target setting events (core_start target setting) ≡ Some state
    → slice_get state.entries c ≡ Some e → calls_of e ≡ calls_in c events
kept_calls target setting events state c e runs there =
    let first = run_count target setting events (core_start target setting) state c e runs there in
    let last = keeps_from target setting events (core_start target setting) state c first.0 runs first.1 in
    let same : e ≡ last.0 = (let at = last.1 in cc) in
    ap calls_of same ∙ (last.2 ∙ ap (with_events c events) (no_calls 0 setting.sizes.callers c first.0 first.1))

pub keeps_calls : OfAll KeepsCalls
keeps_calls target setting = record { each = λ events state c e runs there. kept_calls target setting events state c e runs there }
