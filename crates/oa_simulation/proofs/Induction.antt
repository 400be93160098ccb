-- From the step lemma to every run of the core.
use Rattle.std.proofs.Common.{ℕ, ◌≡◌, ◌≤◌, ◌<◌, ◌∙◌, ◌++◌, Bool, true, false, List, [], ◌∷◌, Option, Some, None, ⊎_elim, sym, ap, subst, refl, arith, length}
use Rattle.std.specs.Prelude.{slice_get, unwrap_or}
use Rattle.target_code.specs.declared.target.Target.{Target}
use Rattle.oa_words.specs.Words.{Word, in_row}
use Rattle.oa_words.specs.Within.{AreKinds}
use Rattle.oa_words.specs.Starts.{Suits}
use Rattle.phase_pools.specs.Accesses.{WordAccess, word_of}
use Rattle.source_machine.specs.MethodRuns.{put}
use Rattle.source_machine.specs.Proper.{IsProperFor}
use Rattle.source_machine.proofs.Places.{each_put, put_same, put_other}
use Rattle.caller_parts.specs.declared.call.Call.{Call}
use Rattle.caller_parts.specs.declared.routine.Routine.{Routine}
use Rattle.caller_parts.specs.declared.routine.Routine.TheVariants.{Idle}
use Rattle.caller_parts.specs.Settings.{Setting}
use Rattle.caller_steps.specs.Asking.{NewsFit}
use Rattle.caller_steps.specs.Entries.{Entry, idle_entry, is_idle}
use Rattle.caller_steps.specs.Wants.{wants}
use Rattle.caller_steps.specs.After.{after, taken, counted}
use Rattle.caller_steps.specs.After.{moved as after_moves}
use Rattle.caller_steps.specs.Belongs.{Belongs}
use Rattle.core_runs.specs.Machine.{CoreState, CoreEvent, Takes, Steps, core_event, core_run, run_on, beginning_of}
use Rattle.caller_parts.specs.Calls.{is_call}
use Rattle.core_runs.specs.core_sound.Sound.{IsSound}
use Rattle.core_runs.specs.Advances.{RunsOn, Ends, EndsOrRuns}
use Rattle.core_runs.proofs.Turning.{after_turns}
use Rattle.core_runs.specs.Views.{CoreView, view, Moves}
use Rattle.core_runs.specs.Views.{EventsAreSeen, IsShaped}
use Rattle.core_runs.specs.RunSigns.{Signed, signed, run_signs, event_signs, signs_on}
use Rattle.core_runs.proofs.Keeping.{idle_wants}
use Rattle.oa_words.specs.Words.{in_row}
use Rattle.target_laws.proofs.local_laws.Inside.{there_is}
use Rattle.oa_simulation.specs.sim_relation.Views.{Plan, Shared, Caller}
use Rattle.oa_simulation.specs.sim_relation.Callers.{CallerHolds, HoldsAt}
use Rattle.oa_simulation.specs.sim_relation.Naming.{present_at}
use Rattle.chain_laws.specs.Memories.{after_access}
use Rattle.oa_simulation.specs.sim_relation.Steps.{KeptWith, Stepped, NamesAfter, TakeKept, TakesReady, StepsKeep}
use Rattle.oa_simulation.specs.sim_relation.WasSet.{set_after_access}
use Rattle.oa_simulation.specs.sim_relation.Worlds.{World}
use Rattle.caller_steps.specs.Signs.{Moved}
use Rattle.oa_simulation.specs.Shadow.{Shadow, shadow_run}
use Rattle.oa_simulation.specs.sim_relation.Points.{point, DrawsHome}
use Rattle.oa_simulation.specs.Beside.{Placed, Beside}
use Rattle.oa_simulation.specs.Present.{present_after, present_on, present_run}
use Rattle.oa_simulation.proofs.sim_steps.Worlds.{holds_on}
use Rattle.oa_simulation.proofs.Lifting.{Lifted, lift, stays_proper}
use Rattle.oa_simulation.specs.Relation.{HomeIs}
use Rattle.core_runs.specs.core_pools.Pooled.{Pooled}
use Rattle.oa_simulation.proofs.Pools.{pool_goes, takes_ready}
use Rattle.oa_simulation.proofs.Homes.{home_before, run_append, draws_home}
use Rattle.norm_lang.specs.NormalForm.{IsNormal}
use Rattle.norm_lang.specs.Limits.{IsWithinLimits}
use Rattle.caller_parts.specs.declared.setting.Reclamation.TheVariants.{Optimistic}
use Rattle.oa_simulation.proofs.sim_relation.Schemes.{after_is, signs_are, taken_is}
use Rattle.std.proofs.lemmas.Option.{slice_get_within}

pub idle_is : (r : Routine) → is_idle r ≡ true → r ≡ Idle
idle_is Idle is = refl
idle_is _ is = absurd (let z : false ≡ true = is in cc)

-- and each slot has the name that is given
abbrev pub NamedBeside : (t : Plan) (state : CoreState) (z : Shadow) → (ℕ → ℕ) → Type 0
NamedBeside t state z present = (b : Beside t state z) × (b.w.shared.present ≡ present)

-- a call is taken
pub take_kept : (t : Plan) (s : Shared) (c : ℕ) (x : Caller) (call : Call) → CallerHolds t s c x → is_idle x.entry.routine ≡ true → TakeKept t c s x call
take_kept t s c x call told idle =
    let spot : HoldsAt t s c x Idle = subst (λ (r : Routine). HoldsAt t s c x r) (idle_is x.entry.routine idle) told.spot in
    let b = told.base in
    record {
      x' = record x { entry = taken Optimistic call x.entry };
      entry = refl;
      names = refl;
      was_set = refl;
      source = refl;
      watch = refl;
      caller_holds = record {
        base = record { number = b.number; seen = b.seen; old = b.old; hazard = b.hazard; protects = b.protects; known = b.known; cradle = b.cradle };
        spot = (spot.0, spot.1, spot.2);
      };
    }

pub busy : (target : Target) (e : Entry) (a : WordAccess) (b : Bool) → is_idle e.routine ≡ b → wants target e ≡ Some a → is_idle e.routine ≡ false
busy target e a true is want = absurd (idle_wants target e a is want)
busy target e a false is want = is

pub belongs_seen : (target : Target) (setting : Setting) (state : CoreState) (c : ℕ) → IsSound target setting state → c < setting.sizes.callers → Belongs target setting ((view setting state).who c)
belongs_seen target setting state c s lt = of (slice_get state.entries c) refl where
  of : (o : Option Entry) → slice_get state.entries c ≡ o → Belongs target setting (unwrap_or o (idle_entry c))
  of None is = absurd (let callers = s.callers in let there = there_is state.entries c (omega (arith, lt, callers)) in let z : None ≡ Some there.0 = sym is ∙ there.1 in cc)
  of (Some e) is = (s.belong c e is).0

-- the call stays
pub call_stays : (before later : Entry) → EndsOrRuns before later → later.running.call ≡ before.running.call
call_stays before later turns = ap (λ running. running.call) (⊎_elim (λ (r : RunsOn before later). r.2) (λ (r : Ends before later). r.3) turns)

-- each entry of a state is a caller's
pub is_caller : (state : CoreState) (callers c : ℕ) (e : Entry) → length state.entries ≡ callers → slice_get state.entries c ≡ Some e → c < callers
is_caller state callers c e count at = let within = slice_get_within state.entries c e at in omega (arith, within, count)

pub entry_seen : (setting : Setting) (state : CoreState) (c : ℕ) (e : Entry) → slice_get state.entries c ≡ Some e → (view setting state).who c ≡ e
entry_seen setting state c e at = ap (λ (o : Option Entry). unwrap_or o (idle_entry c)) at

-- what becomes of entries beside their callers if one is replaced by another
pub called_put : (target : Target) (n : ℕ) (who who' : ℕ → Entry) (c : ℕ) (e : Entry) → ((d : ℕ) → d < n → is_idle (who d).routine ≡ false → is_call target (who d).running.call ≡ true) → (is_idle e.routine ≡ false → is_call target e.running.call ≡ true) → who' ≡ put who c e
    → (d : ℕ) → d < n → is_idle (who' d).routine ≡ false → is_call target (who' d).running.call ≡ true
called_put target n who who' c e old new is d lt =
    subst (λ (k : ℕ → Entry). is_idle (k d).routine ≡ false → is_call target (k d).running.call ≡ true) (sym is)
    (each_put (λ i (y : Entry). i < n → is_idle y.routine ≡ false → is_call target y.running.call ≡ true) who c e (λ lt. new) (λ i ne. old i) d lt)

pub entry_put : {X : Type 0} (entry : X → Entry) (n : ℕ) (xs : ℕ → X) (who who' : ℕ → Entry) (c : ℕ) (x' : X) (e : Entry) → ((d : ℕ) → d < n → entry (xs d) ≡ who d) → entry x' ≡ e → who' ≡ put who c e → (d : ℕ) → d < n → entry (put xs c x' d) ≡ who' d
entry_put {X = X} entry n xs who who' c x' e old new is =
    subst (λ (k : ℕ → Entry). (d : ℕ) → d < n → entry (put xs c x' d) ≡ k d) (sym is)
    (each_put (λ d (y : X). d < n → entry y ≡ put who c e d) xs c x' (λ lt. new ∙ sym (put_same who c e)) (λ d ne lt. old d lt ∙ sym (put_other who c d e ne)))

-- a caller that takes a call
pub record TookCall (t : Plan) (state behind : CoreState) (z : Shadow) (c : ℕ) (call : Call) (b : Beside t state z) : Type 0 where
  pub beside : Beside t behind z
  pub kept : TakeKept t c b.w.shared (b.w.who c) call
  pub world : beside.w ≡ record { shared = b.w.shared; who = put b.w.who c kept.x' }

-- what a caller's step leads to, beside what it was before: the world in which all facts hold again, and what became of the names of
-- the caller's guards and of the registers that its run has set
pub record Went (t : Plan) (state behind : CoreState) (z z' : Shadow) (c : ℕ) (b : Beside t state z) : Type 0 where
  pub beside : Beside t behind z'
  pub access : WordAccess
  pub at : wants t.target ((view t.setting state).who c) ≡ Some access
  pub there : in_row t.setting.sizes (word_of access) ≡ true
  pub stepped : Stepped t c b.w.shared (b.w.who c) (NamesAfter t b.w.shared c (b.w.who c) (b.w.who c).entry.routine) (set_after_access t.target (b.w.who c).entry (b.w.who c).entry.routine (b.w.shared.memory (word_of access)) (b.w.who c).was_set) (after_access b.w.shared.memory access) (after_moves Optimistic t.target t.setting (b.w.who c).entry (b.w.shared.memory (word_of access))) (present_at t.target b.w.shared.memory b.w.shared.unused (b.w.who c).entry (b.w.who c).entry.routine b.w.shared.present)
  pub world : beside.w ≡ record { shared = stepped.kept.s'; who = put b.w.who c stepped.kept.x' }
  pub present : beside.w.shared.present ≡ present_after t.target t.setting (view t.setting state) (Steps c) z.unused b.w.shared.present

-- what holds of a state beside its shadow, and of what a fold over the events carries, holds along a run of states that stay sound
pub along_run : (t : Plan) (X : Type 0) (fold : List CoreEvent → CoreState → Shadow → X → X) (on : CoreEvent → CoreState → Shadow → X → X) (P : CoreState → Shadow → X → Type 0)
    → ((state : CoreState) (z : Shadow) (x : X) → fold [] state z x ≡ x)
    → ((event : CoreEvent) (events : List CoreEvent) (state next : CoreState) (z : Shadow) (x : X) → core_event t.target t.setting state event ≡ Some next
    → fold (event ∷ events) state z x ≡ fold events next (shadow_run t.text (event_signs t.target t.setting state event) z) (on event state z x))
    → ((state : CoreState) → IsSound t.target t.setting state → IsShaped t.target t.setting state)
    → ((state behind : CoreState) (event : CoreEvent) → IsSound t.target t.setting state → core_event t.target t.setting state event ≡ Some behind → IsSound t.target t.setting behind)
    → EventsAreSeen t.target t.setting
    → ((event : CoreEvent) (state behind : CoreState) (z : Shadow) (x : X) → IsSound t.target t.setting state → IsShaped t.target t.setting state → P state z x → Moves t.target t.setting (view t.setting state) event (view t.setting behind)
    → HomeIs t.home (shadow_run t.text (event_signs t.target t.setting state event) z) → P behind (shadow_run t.text (event_signs t.target t.setting state event) z) (on event state z x))
    → (events : List CoreEvent) (state behind : CoreState) (z : Shadow) (x : X) → IsSound t.target t.setting state → P state z x → core_run t.target t.setting events state ≡ Some behind
    → HomeIs t.home (shadow_run t.text (run_signs t.target t.setting events state) z) → P behind (shadow_run t.text (run_signs t.target t.setting events state) z) (fold events state z x)
along_run t X fold on P empty more shaped stays seen one [] state behind z x sound p is homes =
    subst (λ (i : CoreState). P i z (fold [] state z x)) (let same : state ≡ behind = cc in same) (subst (P state z) (sym (empty state z x)) p)
along_run t X fold on P empty more shaped stays seen one (event ∷ events) state behind z x sound p is homes =
    of (λ next. along_run t X fold on P empty more shaped stays seen one events next behind) (core_event t.target t.setting state event) refl is homes where
      of : ((next : CoreState) (z : Shadow) (x : X) → IsSound t.target t.setting next → P next z x → core_run t.target t.setting events next ≡ Some behind
          → HomeIs t.home (shadow_run t.text (run_signs t.target t.setting events next) z) → P behind (shadow_run t.text (run_signs t.target t.setting events next) z) (fold events next z x))
          → (o : Option CoreState) → core_event t.target t.setting state event ≡ o → run_on o (core_run t.target t.setting events) ≡ Some behind
          → HomeIs t.home (shadow_run t.text (event_signs t.target t.setting state event ++ signs_on o (run_signs t.target t.setting events)) z)
          → P behind (shadow_run t.text (event_signs t.target t.setting state event ++ signs_on o (run_signs t.target t.setting events)) z) (fold (event ∷ events) state z x)
      of rest None at runs homes = absurd (let y : None ≡ Some behind = runs in cc)
      of rest (Some next) at runs homes =
          let append = run_append t.text (event_signs t.target t.setting state event) (run_signs t.target t.setting events next) z in
          let mid : Shadow = shadow_run t.text (event_signs t.target t.setting state event) z in
          let homes2 : HomeIs t.home (shadow_run t.text (run_signs t.target t.setting events next) mid) = subst (λ (i : Shadow). HomeIs t.home i) append homes in
          subst (λ (i : Shadow). P behind i (fold (event ∷ events) state z x)) (sym append)
          (subst (P behind (shadow_run t.text (run_signs t.target t.setting events next) mid)) (sym (more event events state next z x at))
          (rest next mid (on event state z x) (stays state next event sound at)
          (one event state next z x sound (shaped state sound) p (seen.moves state next event (shaped state sound) at) (home_before t.text t.home (run_signs t.target t.setting events next) mid homes2)) runs homes2))

-- the slots' names after a run, by its first event
pub present_more : (t : Plan) (event : CoreEvent) (events : List CoreEvent) (state next : CoreState) (z : Shadow) (present : ℕ → ℕ) → core_event t.target t.setting state event ≡ Some next
    → present_run t.target t.text t.setting (event ∷ events) state z present
    ≡ present_run t.target t.text t.setting events next (shadow_run t.text (event_signs t.target t.setting state event) z) (present_after t.target t.setting (view t.setting state) event z.unused present)
present_more t event events state next z present at = ap (λ (o : Option CoreState).
    present_on o (λ next. present_run t.target t.text t.setting events next (shadow_run t.text (event_signs t.target t.setting state event) z) (present_after t.target t.setting (view t.setting state) event z.unused present))
    (present_after t.target t.setting (view t.setting state) event z.unused present)) at

-- and events of the pool lead there
pub record PooledBeside (t : Plan) (state : CoreState) (z : Shadow) (present : ℕ → ℕ) : Type 0 where
  pub named : NamedBeside t state z present
  pub pooled : Pooled t.target t.setting state

module _ (t : Plan) (normal : IsNormal t.text) (within : IsWithinLimits t.text) (null_home : t.home 0 ≡ 0) (optimistic : t.setting.reclamation ≡ Optimistic) (test : Entry → Bool) (keeps : StepsKeep t test) (proper : IsProperFor t.setting.sizes.callers t.text) (events_seen : EventsAreSeen t.target t.setting) where
  abbrev seen : CoreState → CoreView
  seen state = view t.setting state

  abbrev n : ℕ
  n = t.setting.sizes.callers

  pub take_went : (state behind : CoreState) (z : Shadow) (c : ℕ) (call : Call) → (b : Beside t state z) → Moves t.target t.setting (seen state) (Takes c call) (seen behind) → TookCall t state behind z c call b
  take_went state behind z c call b m =
      let lt = m.0 in
      let e = b.entry c lt in
      let who : (seen behind).who ≡ put (seen state).who c (taken Optimistic call ((seen state).who c)) = m.4 ∙ ap (put (seen state).who c) (taken_is t.setting call ((seen state).who c) optimistic) in
      let k = take_kept t b.w.shared c (b.w.who c) call (b.holds.caller_holds c lt) (ap (λ (e : Entry). is_idle e.routine) e ∙ m.1) in
      record {
        kept = k;
        world = refl;
        beside = record {
          w = record { shared = b.w.shared; who = put b.w.who c k.x' };
          v = b.v;
          holds = record {
            shared_holds = b.holds.shared_holds;
            caller_holds = each_put (λ d (x : Caller). d < n → CallerHolds t b.w.shared d x) b.w.who c k.x' (λ lt. k.caller_holds) (λ d ne lt. b.holds.caller_holds d lt);
          };
          memory = b.memory ∙ sym m.3;
          entry = entry_put (λ (y : Caller). y.entry) n b.w.who (seen state).who (seen behind).who c k.x' (taken Optimistic call ((seen state).who c)) b.entry (k.entry ∙ ap (taken Optimistic call) e) who;
          sourced = b.sourced;
          source = b.source;
          caller = each_put (λ d (x : Caller). d < n → slice_get b.v.machine.callers d ≡ Some x.source) b.w.who c k.x' (λ lt. b.caller c lt ∙ ap Some (sym k.source)) (λ d ne lt. b.caller d lt);
          run = each_put (λ d (x : Caller). d < n → b.v.runs d ≡ x.watch) b.w.who c k.x' (λ lt. b.run c lt ∙ sym k.watch) (λ d ne lt. b.run d lt);
          unused = b.unused;
          called = called_put t.target n (seen state).who (seen behind).who c (taken Optimistic call ((seen state).who c)) b.called (λ run. m.2) who;
        };
      }

  take_beside : (state behind : CoreState) (z : Shadow) (c : ℕ) (call : Call) (b : Beside t state z) → Moves t.target t.setting (seen state) (Takes c call) (seen behind) → NamedBeside t behind z b.w.shared.present
  take_beside state behind z c call b m = let took = take_went state behind z c call b m in (took.beside, ap (λ (w : World). w.shared.present) took.world)

  pub step_went : (state behind : CoreState) (z : Shadow) (c : ℕ) → test ((seen state).who c) ≡ true → IsSound t.target t.setting state → IsShaped t.target t.setting state → (b : Beside t state z) → TakesReady (seen state).memory ((seen state).who c).routine → Moves t.target t.setting (seen state) (Steps c) (seen behind)
      → HomeIs t.home (shadow_run t.text (event_signs t.target t.setting state (Steps c)) z) → Went t state behind z (shadow_run t.text (event_signs t.target t.setting state (Steps c)) z) c b
  step_went state behind z c passes sound shaped b ready m homes =
      let a : WordAccess = m.0 in
      let lt = m.1 in
      let s : Shared = b.w.shared in
      let x : Caller = b.w.who c in
      let e : x.entry ≡ (seen state).who c = b.entry c lt in
      let want : wants t.target ((seen state).who c) ≡ Some a = m.2 in
      let made : Moved = after_moves Optimistic t.target t.setting x.entry (s.memory (word_of a)) in
      let same_move : made ≡ after_moves Optimistic t.target t.setting ((seen state).who c) ((seen state).memory (word_of a)) =
      ap (λ (e : Entry). after_moves Optimistic t.target t.setting e (s.memory (word_of a))) e
      ∙ ap (λ (k : Word → ℕ). after_moves Optimistic t.target t.setting ((seen state).who c) (k (word_of a))) b.memory in
      let same : signed c made.signs ≡ event_signs t.target t.setting state (Steps c) =
      ap (λ (k : Moved). signed c k.signs) same_move
      ∙ (ap (signed c) (sym (signs_are t.target t.setting ((seen state).who c) ((seen state).memory (word_of a)) optimistic)) ∙ sym (events_seen.signs state c a shaped lt want)) in
      let placed : Placed b.v z c (point s x) = record { caller = b.caller c lt; memory = b.source; run = b.run c lt; unused = b.unused } in
      let draws : DrawsHome t.home made.signs s.unused =
      subst (λ (u : ℕ). DrawsHome t.home made.signs u) b.unused
      (draws_home t.text t.home c made.signs z (subst (λ (k : List Signed). HomeIs t.home (shadow_run t.text k z)) (sym same) homes)) in
      let run : is_idle ((seen state).who c).routine ≡ false = busy t.target ((seen state).who c) a (is_idle ((seen state).who c).routine) refl want in
      let stepped : Stepped t c s x (NamesAfter t s c x x.entry.routine) (set_after_access t.target x.entry x.entry.routine (s.memory (word_of a)) x.was_set) (after_access s.memory a) made (present_at t.target s.memory s.unused x.entry x.entry.routine s.present) =
      keeps.step c s x a (ap test e ∙ passes) lt b.holds.shared_holds (b.holds.caller_holds c lt)
      (subst (λ (e : Entry). TakesReady s.memory e.routine) (sym e) (subst (λ (k : Word → ℕ). TakesReady k ((seen state).who c).routine) (sym b.memory) ready))
      (subst (λ (e : Entry). Belongs t.target t.setting e) (sym e) (belongs_seen t.target t.setting state c sound lt))
      (ap (λ (e : Entry). is_call t.target e.running.call) e ∙ b.called c lt run)
      (stays_proper t.text n c z b.v (point s x) normal within proper b.sourced placed)
      (ap (wants t.target) e ∙ want) m.3 draws in
      let k : KeptWith t c s x stepped.row (set_after_access t.target x.entry x.entry.routine (s.memory (word_of a)) x.was_set) (after_access s.memory a) made (present_at t.target s.memory s.unused x.entry x.entry.routine s.present) = stepped.kept in
      let l : Lifted t.text n c b.v (point k.s' k.x') (shadow_run t.text (event_signs t.target t.setting state (Steps c)) z) =
      subst (λ (i : List Signed). Lifted t.text n c b.v (point k.s' k.x') (shadow_run t.text i z)) same
      (lift t.text n c made.signs (point s x) (point k.s' k.x') k.plays z b.v b.sourced placed) in
      let next : Entry = after t.target t.setting ((seen state).who c) ((seen state).memory (word_of a)) in
      record {
        access = a;
        at = want;
        there = m.3;
        stepped = stepped;
        world = refl;
        present = k.present ∙ (ap (λ (memory : Word → ℕ). present_at t.target memory s.unused x.entry x.entry.routine s.present) b.memory
            ∙ (ap (λ (drawn : ℕ). present_at t.target (seen state).memory drawn x.entry x.entry.routine s.present) (sym b.unused)
            ∙ ap (λ (e : Entry). present_at t.target (seen state).memory z.unused e e.routine s.present) e));
        beside = record {
          w = record { shared = k.s'; who = put b.w.who c k.x' };
          v = l.v';
          holds = holds_on t b.w c stepped.row (set_after_access t.target x.entry x.entry.routine (s.memory (word_of a)) x.was_set) (after_access s.memory a) made (present_at t.target s.memory s.unused x.entry x.entry.routine s.present) null_home b.holds k;
          memory = k.memory ∙ (ap (λ (i : Word → ℕ). after_access i a) b.memory ∙ sym m.4);
          entry = entry_put (λ (y : Caller). y.entry) n b.w.who (seen state).who (seen behind).who c k.x' next b.entry
              (k.entry ∙ (ap (λ (i : Moved). i.entry) same_move ∙ sym (after_is t.target t.setting ((seen state).who c) ((seen state).memory (word_of a)) optimistic)))
              m.5;
          sourced = l.sourced;
          source = l.placed.memory;
          caller = each_put (λ d (y : Caller). d < n → slice_get l.v'.machine.callers d ≡ Some y.source) b.w.who c k.x' (λ lt. l.placed.caller) (λ d ne lt. (l.others d ne).0 ∙ b.caller d lt);
          run = each_put (λ d (y : Caller). d < n → l.v'.runs d ≡ y.watch) b.w.who c k.x' (λ lt. l.placed.run) (λ d ne lt. (l.others d ne).1 ∙ b.run d lt);
          unused = l.placed.unused;
          called = called_put t.target n (seen state).who (seen behind).who c next b.called
              (λ on. ap (is_call t.target) (call_stays (counted ((seen state).who c)) next (after_turns t.target t.setting ((seen state).who c) ((seen state).memory (word_of a)) run)) ∙ b.called c lt run)
              m.5;
        };
      }

  pub step_beside : (state behind : CoreState) (z : Shadow) (c : ℕ) → test ((seen state).who c) ≡ true → IsSound t.target t.setting state → IsShaped t.target t.setting state → (b : Beside t state z) → TakesReady (seen state).memory ((seen state).who c).routine → Moves t.target t.setting (seen state) (Steps c) (seen behind)
      → HomeIs t.home (shadow_run t.text (event_signs t.target t.setting state (Steps c)) z)
      → NamedBeside t behind (shadow_run t.text (event_signs t.target t.setting state (Steps c)) z) (present_after t.target t.setting (seen state) (Steps c) z.unused b.w.shared.present)
  step_beside state behind z c passes sound shaped b ready m homes = let went = step_went state behind z c passes sound shaped b ready m homes in (went.beside, went.present)

  event_beside : ((e : Entry) → test e ≡ true) → (event : CoreEvent) (state behind : CoreState) (z : Shadow) → IsSound t.target t.setting state → IsShaped t.target t.setting state → (b : Beside t state z) → ((c : ℕ) → TakesReady (seen state).memory ((seen state).who c).routine) → Moves t.target t.setting (seen state) event (seen behind)
      → HomeIs t.home (shadow_run t.text (event_signs t.target t.setting state event) z)
      → NamedBeside t behind (shadow_run t.text (event_signs t.target t.setting state event) z) (present_after t.target t.setting (seen state) event z.unused b.w.shared.present)
  event_beside all (Takes c call) state behind z sound shaped b ready m homes = take_beside state behind z c call b m
  event_beside all (Steps c) state behind z sound shaped b ready m homes = step_beside state behind z c (all ((seen state).who c)) sound shaped b (ready c) m homes

  -- the induction, over what stays sound
  pub run_beside : AreKinds t.setting.sizes → t.setting.sizes.slots < t.setting.sizes.tops → NewsFit t.target t.setting.sizes → Suits t.setting.sizes (beginning_of t.target t.setting) → ((e : Entry) → test e ≡ true) → ((state : CoreState) → IsSound t.target t.setting state → IsShaped t.target t.setting state)
      → ((state behind : CoreState) (event : CoreEvent) → IsSound t.target t.setting state → core_event t.target t.setting state event ≡ Some behind → IsSound t.target t.setting behind)
      → (events : List CoreEvent) (state behind : CoreState) (z : Shadow) (present : ℕ → ℕ) → IsSound t.target t.setting state → PooledBeside t state z present → core_run t.target t.setting events state ≡ Some behind
      → HomeIs t.home (shadow_run t.text (run_signs t.target t.setting events state) z)
      → PooledBeside t behind (shadow_run t.text (run_signs t.target t.setting events state) z) (present_run t.target t.text t.setting events state z present)
  run_beside are few news suits all shaped stays events state behind z present sound b is homes = along_run t (ℕ → ℕ) (present_run t.target t.text t.setting)
      (λ event state z present. present_after t.target t.setting (view t.setting state) event z.unused present) (PooledBeside t) (λ state z present. refl)
      (present_more t)
      shaped stays events_seen
      (λ event state behind z present sound shaped b m homes.
      let one = event_beside all event state behind z sound shaped b.named.0 (λ c. takes_ready t.target t.setting state c are few suits b.pooled) m homes in
      record { named = (one.0, one.1 ∙ ap (present_after t.target t.setting (view t.setting state) event z.unused) b.named.1); pooled = pool_goes t state behind _ event are few news suits shaped m b.pooled one.0 })
      events state behind z present sound b is homes
