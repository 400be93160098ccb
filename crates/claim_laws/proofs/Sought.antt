-- The kind of the `new` at which a call gave up: where its last step was made, each slot of this kind held an initial node or was claimed.
use Rattle.std.proofs.Common.{◌≡◌, ◌≢◌, ◌⊎◌, inl, inr, ⊎_elim, ℕ, zero, suc, ◌+◌, ◌-◌, ◌≤◌, ◌<◌, ◌==◌, ◌&&◌, eq-eqb, ne_eqb, Bool, true, false, List, [], ◌∷◌, ◌++◌, length, Option, Some, None, refl, sym, ◌∙◌, ap, subst, arith, if◌then◌else◌}
use Rattle.std.specs.Prelude.{slice_get, slice_set, slice_index_or}
use mathlib.Core.Logic.{dite}
use native.Mathlib.Decide.{ℕ_discrete}
use Rattle.norm_lang.specs.declared.text.Text.{Text}
use Rattle.target_code.specs.declared.target.Target.{Target}
use Rattle.target_laws.specs.target_runs.Runnable.{MayBeWalked}
use Rattle.oa_words.specs.SlotKinds.{slots_of}
use Rattle.oa_words.specs.Packed.{head_parts}
use Rattle.oa_words.proofs.KindRanges.{part_within}
use Rattle.phase_pools.specs.Accesses.{WordAccess}
use Rattle.caller_parts.specs.Settings.{Setting, Fits, IsSetting}
use Rattle.caller_parts.specs.Calls.{is_call}
use Rattle.caller_steps.specs.Entries.{Entry, is_idle}
use Rattle.caller_steps.specs.Wants.{wants}
use Rattle.caller_steps.specs.After.{after, taken}
use Rattle.core_runs.specs.Machine.{CoreState, CoreEvent, Takes, Steps, Reachable, core_event, core_run, core_start, event_by, found_by, stepped}
use Rattle.core_runs.proofs.Reaching.{some_is}
use Rattle.core_runs.proofs.Keeping.{idle_wants, got_same}
use Rattle.core_runs.specs.caller_laws.Laws.{ForRuns}
use Rattle.core_runs.proofs.caller_laws.Methods.{setting_sane}
use Rattle.core_runs.proofs.caller_laws.Together.{methods}
use Rattle.core_runs.proofs.core_sound.Reached.{states_are_sound}
use Rattle.claim_laws.specs.CallSteps.{StepMade, steps_wanted, steps_by, with_steps, event_steps, call_steps, steps_of_call}
use Rattle.claim_laws.specs.Causes.{FindsNoTop, EndsInFailedLook}
use Rattle.claim_laws.specs.Untouched.{nodes_in}
use Rattle.claim_laws.specs.Full.{claims_in, FillItsKind, FullTakesClaims}
use Rattle.claim_laws.proofs.Lasts.{never_nil, last_same}
use Rattle.claim_laws.proofs.Counting.{claims_set}
use Rattle.claim_laws.proofs.Pooling.{IsPooled, count_after, counts_after, sought_touched, takes_in}
use Rattle.claim_laws.proofs.Filling.{fills, reached_pool}
use Rattle.claim_laws.proofs.Tallying.{IsCount, known_in}
use Rattle.claim_laws.proofs.Following.{replies_caused}
use Rattle.claim_laws.proofs.Running.{IsStepOf, along, steps_more}

-- ---- lists of steps

-- a call without a step
new_call : (calls : List (List StepMade)) (i : ℕ) → slice_index_or (calls ++ [] ∷ []) i [] ≡ slice_index_or calls i []
new_call [] zero = refl
new_call [] (suc i) = refl
new_call (x ∷ calls) zero = refl
new_call (x ∷ calls) (suc i) = new_call calls i

-- the last call has more steps, the others have the same
more_at : (calls : List (List StepMade)) (steps : List StepMade) (i : ℕ)
    → (slice_index_or (with_steps calls steps) i [] ≡ slice_index_or calls i []) ⊎ (slice_index_or (with_steps calls steps) i [] ≡ slice_index_or calls i [] ++ steps)
more_at [] steps i = inl refl
more_at (x ∷ []) steps zero = inr refl
more_at (x ∷ []) steps (suc i) = inl refl
more_at (x ∷ y ∷ rest) steps zero = inl refl
more_at (x ∷ y ∷ rest) steps (suc i) = more_at (y ∷ rest) steps i

no_calls : (i : ℕ) → slice_index_or {A = List StepMade} [] i [] ≡ []
no_calls zero = refl
no_calls (suc i) = refl

-- ---- where the last step of a call was made

-- in a state on the way, in which no more claims were counted than so many
pub record WasMade (target : Target) (setting : Setting) (c : ℕ) (step : StepMade) (count : ℕ) : Type 0 where
  pub past : List CoreEvent
  pub state : CoreState
  pub access : WordAccess
  pub own : IsStepOf target setting past state c step.entry access
  pub found : step.found ≡ found_by setting state access
  pub within : claims_in state.entries ≤ count

-- a caller's step, from the event
record Made (target : Target) (setting : Setting) (past : List CoreEvent) (state : CoreState) (k : ℕ) : Type 0 where
  entry : Entry
  access : WordAccess
  own : IsStepOf target setting past state k entry access

step_is : (target : Target) (setting : Setting) (past : List CoreEvent) (state later : CoreState) (k : ℕ) → core_run target setting past (core_start target setting) ≡ Some state
    → core_event target setting state (Steps k) ≡ Some later → Made target setting past state k
step_is target setting past state later k came goes = of (slice_get state.entries k) refl goes where
  by : (d : Entry) → slice_get state.entries k ≡ Some d → (o : Option WordAccess) → wants target d ≡ o → (i : Bool) → is_idle d.routine ≡ i → stepped target setting state k d o ≡ Some later → Made target setting past state k
  by d at None want i idle became = absurd (let z : None ≡ Some later = became in cc)
  by d at (Some a) want true idle became = absurd (idle_wants target d a idle want)
  by d at (Some a) want false busy became = record {
    entry = d;
    access = a;
    own = record { came = came; there = at; wanted = want; busy = busy; next = later; goes = goes; later = there };
  } where
    there : slice_get later.entries k ≡ Some (after target setting d (found_by setting state a))
    there = subst (λ (m : CoreState). slice_get m.entries k ≡ Some (after target setting d (found_by setting state a))) (some_is _ later became) (got_same state.entries k (after target setting d (found_by setting state a)) d at)

  of : (o : Option Entry) → slice_get state.entries k ≡ o → event_by target setting state (Steps k) o ≡ Some later → Made target setting past state k
  of None at became = absurd (let z : None ≡ Some later = became in cc)
  of (Some d) at became = by d at (wants target d) refl (is_idle d.routine) refl became

module _ (target : Target) (text : Text) (setting : Setting) (runs : MayBeWalked target text) (own : IsSetting setting) (fits : Fits target setting) where
  -- ---- counts only rise

  rises : (b : Bool) (n : ℕ) → IsCount n → n ≤ count_after b n
  rises true n le = omega (arith, le)
  rises false n le = omega arith

  one_rises : (entries : List Entry) (c : ℕ) (e later : Entry) → slice_get entries c ≡ Some e → e.counts.claims ≤ later.counts.claims → claims_in entries ≤ claims_in (slice_set entries c later)
  one_rises entries c e later there le = let change = claims_set entries c e later there in omega (arith, change, le)

  event_rises : (state later : CoreState) (event : CoreEvent) → Reachable target setting state → core_event target setting state event ≡ Some later → claims_in state.entries ≤ claims_in later.entries
  event_rises state later (Takes k call) reached goes = of (slice_get state.entries k) refl goes where
    by : (d : Entry) → slice_get state.entries k ≡ Some d → (b : Bool) → (if b then Some (record state { entries = slice_set state.entries k (taken setting.reclamation call d) }) else None) ≡ Some later
        → claims_in state.entries ≤ claims_in later.entries
    by d at true became = subst (λ (s : CoreState). claims_in state.entries ≤ claims_in s.entries) (some_is _ later became) (one_rises state.entries k d (taken setting.reclamation call d) at (omega arith))
    by d at false became = absurd (let z : None ≡ Some later = became in cc)

    of : (o : Option Entry) → slice_get state.entries k ≡ o → event_by target setting state (Takes k call) o ≡ Some later → claims_in state.entries ≤ claims_in later.entries
    of None at became = absurd (let z : None ≡ Some later = became in cc)
    of (Some d) at became = by d at (is_idle d.routine && is_call target call) became
  event_rises state later (Steps k) reached goes = of (slice_get state.entries k) refl goes where
    by : (d : Entry) → slice_get state.entries k ≡ Some d → (o : Option WordAccess) → wants target d ≡ o → (i : Bool) → is_idle d.routine ≡ i → stepped target setting state k d o ≡ Some later
        → claims_in state.entries ≤ claims_in later.entries
    by d at None want i idle became = absurd (let z : None ≡ Some later = became in cc)
    by d at (Some a) want true idle became = absurd (idle_wants target d a idle want)
    by d at (Some a) want false busy became =
        let found : ℕ = found_by setting state a in
        let known = known_in target text setting runs own fits state reached k d at in
        let grows : d.counts.claims ≤ (after target setting d found).counts.claims
        = subst (λ (n : ℕ). d.counts.claims ≤ n) (sym (counts_after target setting d found busy known.0)) (rises (takes_in setting.sizes d.routine found) d.counts.claims known.1) in
        subst (λ (s : CoreState). claims_in state.entries ≤ claims_in s.entries) (some_is _ later became) (one_rises state.entries k d (after target setting d found) at grows)

    of : (o : Option Entry) → slice_get state.entries k ≡ o → event_by target setting state (Steps k) o ≡ Some later → claims_in state.entries ≤ claims_in later.entries
    of None at became = absurd (let z : None ≡ Some later = became in cc)
    of (Some d) at became = by d at (wants target d) refl (is_idle d.routine) refl became

  -- ---- along a run

  abbrev LastsMade : List CoreEvent → CoreState → Type 0
  LastsMade events state = (c i : ℕ) (before : List StepMade) (step : StepMade) → steps_of_call target setting events c i ≡ before ++ step ∷ [] → WasMade target setting c step (claims_in state.entries)

  none_made : LastsMade [] (core_start target setting)
  none_made c i before step is = absurd (never_nil before step [] (sym (no_calls i) ∙ is))

  event_made : (past : List CoreEvent) (state later : CoreState) (event : CoreEvent) → core_run target setting past (core_start target setting) ≡ Some state → LastsMade past state
      → core_event target setting state event ≡ Some later → LastsMade (past ++ event ∷ []) later
  event_made past state later event came was goes c i before step is = of event goes (sym (ap (λ (l : List (List StepMade)). slice_index_or l i []) (steps_more target setting c past event state later came goes)) ∙ is) where
    calls : List (List StepMade)
    calls = call_steps target setting past c

    rise : claims_in state.entries ≤ claims_in later.entries
    rise = event_rises state later event (record { events = past; runs = came }) goes

    earlier : slice_index_or calls i [] ≡ before ++ step ∷ [] → WasMade target setting c step (claims_in later.entries)
    earlier same =
        let w = was c i before step same in
        record { past = w.past; state = w.state; access = w.access; own = w.own; found = w.found; within = (let le = w.within in omega (arith, le, rise)) }

    now : (k : ℕ) → k ≡ c → (s : Made target setting past state k) → record { entry = s.entry; found = found_by setting state s.access } ≡ step → WasMade target setting c step (claims_in later.entries)
    now k q s same = subst (λ (x : StepMade). WasMade target setting c x (claims_in later.entries)) same (record {
      past = past;
      state = state;
      access = s.access;
      own = subst (λ (j : ℕ). IsStepOf target setting past state j s.entry s.access) q s.own;
      found = refl;
      within = rise;
    })

    of : (event : CoreEvent) → core_event target setting state event ≡ Some later → slice_index_or (event_steps target setting c state event calls) i [] ≡ before ++ step ∷ [] → WasMade target setting c step (claims_in later.entries)
    of (Takes k call) goes same = earlier (sym (by (k == c)) ∙ same) where
      by : (b : Bool) → slice_index_or (if b then calls ++ [] ∷ [] else calls) i [] ≡ slice_index_or calls i []
      by true = new_call calls i
      by false = refl
    of (Steps k) goes same = dite (ℕ_discrete k c)
        (λ (q : k ≡ c). own_step q (sym (ap (λ (b : Bool). slice_index_or (if b then with_steps calls by_now else calls) i []) (eq-eqb k c q)) ∙ same))
        (λ (n : k ≢ c). earlier (sym (ap (λ (b : Bool). slice_index_or (if b then with_steps calls by_now else calls) i []) (ne_eqb k c n)) ∙ same)) where
          by_now : List StepMade
          by_now = steps_by target setting state (slice_get state.entries k)

          s : Made target setting past state k
          s = step_is target setting past state later k came goes

          one : StepMade
          one = record { entry = s.entry; found = found_by setting state s.access }

          steps_are : by_now ≡ one ∷ []
          steps_are = ap (steps_by target setting state) s.own.there ∙ ap (steps_wanted setting state s.entry) s.own.wanted

          own_step : k ≡ c → slice_index_or (with_steps calls by_now) i [] ≡ before ++ step ∷ [] → WasMade target setting c step (claims_in later.entries)
          own_step q at = ⊎_elim
              (λ (t : slice_index_or (with_steps calls by_now) i [] ≡ slice_index_or calls i []). earlier (sym t ∙ at))
              (λ (t : slice_index_or (with_steps calls by_now) i [] ≡ slice_index_or calls i [] ++ by_now).
              now k q s (last_same (slice_index_or calls i []) before one step (ap (λ (l : List StepMade). slice_index_or calls i [] ++ l) (sym steps_are) ∙ (sym t ∙ at))))
              (more_at calls by_now i)

  last_was_made : (events : List CoreEvent) (state : CoreState) → core_run target setting events (core_start target setting) ≡ Some state → LastsMade events state
  last_was_made = along target setting LastsMade none_made event_made

  -- ---- a call that gave up

  filled : (count c : ℕ) (step : StepMade) → (finds : FindsNoTop setting step) → WasMade target setting c step count
      → (finds.claim.kind < length setting.sizes.kinds) × (slots_of setting.sizes finds.claim.kind ≤ nodes_in setting finds.claim.kind + count)
  filled count c step finds w =
      let k : ℕ = finds.claim.kind in
      let touched = sought_touched target setting (methods target text runs) (setting_sane setting own) fits w.state c step.entry w.access (states_are_sound target text setting w.state runs own fits reached) w.own.there
      w.own.busy w.own.wanted pooled.slots pooled.frontier pooled.pool finds.claim finds.claims finds.looks (subst (λ (n : ℕ). (head_parts setting.sizes.tops n).top ≡ 0) w.found finds.empty) in
      let enough = fills setting pooled.slots k own.sizes.kinds touched.0 touched.1 in
      let counted = pooled.pool.count in
      let within = w.within in
      let few : setting.sizes.slots < setting.sizes.tops = own.sizes.tops in
      let room = own.last in
      let some : slots_of setting.sizes k ≤ setting.sizes.slots = (let part = part_within setting.sizes.kinds k in let whole = own.sizes.kinds.whole in omega (arith, part, whole)) in
      (touched.0, omega (arith, enough, counted, within, few, some, room)) where
        reached : Reachable target setting w.state
        reached = record { events = w.past; runs = w.own.came }

        pooled : IsPooled target setting w.state
        pooled = reached_pool target text setting runs own fits w.state reached

-- then the initial nodes of the kind of its `new`, with the claims of all callers, are at least the slots of the kind
pub full_takes : ForRuns FullTakesClaims
full_takes target text setting runs own fits = record {
  each = λ events state c i e replied run there got full.
      let caused = (replies_caused target text setting runs own fits).ended events state c i e replied run there got in
      of events state c i run (caused.full.0 full);
} where
  of : (events : List CoreEvent) (state : CoreState) (c i : ℕ) → core_run target setting events (core_start target setting) ≡ Some state → EndsInFailedLook setting (steps_of_call target setting events c i)
      → FillItsKind setting (claims_in state.entries) (steps_of_call target setting events c i)
  of events state c i run failed =
      let finds : FindsNoTop setting failed.1 = failed.3 in
      let fill = filled target text setting runs own fits (claims_in state.entries) c failed.1 finds (last_was_made target text setting runs own fits events state run c i failed.0 failed.1 failed.2) in
      (finds.claim.kind, record { before = failed.0; step = failed.1; among = failed.2; finds = finds; kind = refl }, fill.0, fill.1)
