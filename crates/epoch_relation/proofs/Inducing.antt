-- From each step to every run.
use Rattle.std.proofs.Common.{ℕ, ◌≡◌, ◌≤◌, ◌<◌, ◌∙◌, true, false, List, Some, sym, ap, subst, refl}
use Rattle.std.specs.Prelude.{slice_get}
use Rattle.oa_words.specs.Words.{Word, Status}
use Rattle.oa_words.specs.Within.{AreKinds}
use Rattle.oa_words.specs.Starts.{Suits}
use Rattle.phase_pools.specs.Accesses.{WordAccess, word_of}
use Rattle.phase_pools.specs.Pools.{Retirement}
use Rattle.chain_laws.specs.Machine as pool
use Rattle.chain_laws.specs.Memories.{after_access}
use Rattle.source_machine.specs.Proper.{IsProperFor}
use Rattle.source_machine.proofs.Places.{each_put}
use Rattle.caller_parts.specs.declared.call.Call.{Call}
use Rattle.caller_parts.specs.declared.routine.Routine.{Routine}
use Rattle.caller_parts.specs.declared.routine.Routine.TheVariants.{Idle, Retires}
use Rattle.caller_parts.specs.Calls.{is_call}
use Rattle.caller_steps.specs.Asking.{NewsFit}
use Rattle.caller_steps.specs.Signs.{Moved}
use Rattle.caller_steps.specs.Entries.{Entry, is_idle}
use Rattle.caller_steps.specs.Wants.{wants}
use Rattle.caller_steps.specs.After.{after, signs, taken, counted}
use Rattle.caller_steps.specs.After.{moved as after_moves}
use Rattle.caller_steps.specs.Belongs.{Belongs}
use Rattle.core_runs.specs.Machine.{CoreState, CoreEvent, Takes, Steps, core_event, core_run, beginning_of}
use Rattle.core_runs.specs.core_sound.Sound.{IsSound}
use Rattle.core_runs.specs.core_pools.Pooled.{Pooled, RetiresUsed, standings}
use Rattle.core_runs.specs.Views.{CoreView, EventsAreSeen, IsShaped, Moves, view}
use Rattle.core_runs.specs.RunSigns.{Signed, signed, event_signs, run_signs}
use Rattle.core_runs.proofs.Turning.{after_turns}
use Rattle.core_runs.proofs.core_pools.Pooling.{event_pooled}
use Rattle.oa_simulation.specs.Beside.{Placed}
use Rattle.oa_simulation.specs.Present.{present_after, present_run}
use Rattle.oa_simulation.specs.Relation.{HomeIs}
use Rattle.oa_simulation.specs.Shadow.{Shadow, shadow_run}
use Rattle.oa_simulation.specs.sim_relation.Callers.{IsRetiring}
use Rattle.oa_simulation.specs.sim_relation.Naming.{present_at}
use Rattle.oa_simulation.specs.sim_relation.Points.{DrawsHome}
use Rattle.oa_simulation.specs.sim_relation.Steps.{TakesReady}
use Rattle.oa_simulation.specs.sim_relation.Views.{Plan, Shared, Retiring}
use Rattle.oa_simulation.proofs.Homes.{draws_home}
use Rattle.oa_simulation.proofs.Induction.{along_run, belongs_seen, busy, call_stays, idle_is, present_more, called_put, entry_put}
use Rattle.oa_simulation.proofs.Lifting.{Lifted, lift, stays_proper}
use Rattle.oa_simulation.proofs.Pools.{retires_at, takes_ready, owners_retire}
use Rattle.epoch_relation.specs.Beside.{Beside}
use Rattle.epoch_relation.specs.Callers.{Caller}
use Rattle.epoch_relation.specs.Keeping.{point_at, KeptWith}
use Rattle.epoch_relation.specs.Reckoned.{reckoned}
use Rattle.epoch_relation.specs.Walking.{IsPlan, IsIdle, HoldsAt}
use Rattle.epoch_relation.specs.Worlds.{with_caller, after_step}
use Rattle.epoch_relation.proofs.Dispatching.{steps_keep}
use Rattle.epoch_relation.proofs.Worlds.{calls_are_taken, world_step}

-- each slot has the name that is given
abbrev pub NamedBeside : (t : Plan) (state : CoreState) (z : Shadow) → (ℕ → ℕ) → Type 0
NamedBeside t state z present = (b : Beside t state z) × (b.w.shared.present ≡ present)

-- and events of the pool lead there
pub record PooledBeside (t : Plan) (state : CoreState) (z : Shadow) (present : ℕ → ℕ) : Type 0 where
  pub named : NamedBeside t state z present
  pub pooled : Pooled t.target t.setting state

-- ---- what a caller retires is used, and nobody else retires it

module _ (t : Plan) (state : CoreState) (z : Shadow) (b : Beside t state z) where
  retiring : (c : ℕ) (own : Retirement) → c < t.setting.sizes.callers → standings (view t.setting state).who c ≡ pool.Retires own → b.w.shared.owner own.slot ≡ Retiring c
  retiring c own lt at =
      let there = retires_at ((view t.setting state).who c).routine own at in
      let routine : (b.w.who c).entry.routine ≡ Retires own there.0 = ap (λ (e : Entry). e.routine) (b.entry c lt) ∙ there.1 in
      let spot : HoldsAt t b.w.shared b.w.since c (b.w.who c) (Retires own there.0) = subst (λ (r : Routine). HoldsAt t b.w.shared b.w.since c (b.w.who c) r) routine (b.holds.caller_holds c lt).spot in
      let k : IsRetiring b.w.shared c own.slot spot.0.0 _ = spot.0.1 in
      k.owner

  pub retires_used : RetiresUsed t.setting (view t.setting state).memory (standings (view t.setting state).who)
  retires_used = owners_retire t.setting state (reckoned b.w.shared b.w.since) b.holds.shared_holds.holds.slot (λ j. ap (λ (memory : Word → ℕ). memory (Status j)) b.memory) retiring

-- ---- a step's entry and signs are those of its move

after_is : (t : Plan) (e : Entry) (word : ℕ) → after t.target t.setting e word ≡ (after_moves t.setting.reclamation t.target t.setting e word).entry
unfolding after
after_is t e word = refl

signs_are : (t : Plan) (e : Entry) (word : ℕ) → signs t.target t.setting e word ≡ (after_moves t.setting.reclamation t.target t.setting e word).signs
unfolding signs
signs_are t e word = refl

module _ (t : Plan) (plan : IsPlan t) (proper : IsProperFor t.setting.sizes.callers t.text) (events_seen : EventsAreSeen t.target t.setting) where
  abbrev seen : CoreState → CoreView
  seen state = view t.setting state

  abbrev n : ℕ
  n = t.setting.sizes.callers

  -- a caller takes a call
  take_beside : (state behind : CoreState) (z : Shadow) (c : ℕ) (call : Call) (b : Beside t state z) → Moves t.target t.setting (seen state) (Takes c call) (seen behind) → NamedBeside t behind z b.w.shared.present
  take_beside state behind z c call b m =
      let lt = m.0 in
      let e = b.entry c lt in
      let there : (b.w.who c).entry.routine ≡ Idle = idle_is (b.w.who c).entry.routine (ap (λ (e : Entry). is_idle e.routine) e ∙ m.1) in
      let idle : IsIdle (b.w.who c) = subst (λ (r : Routine). HoldsAt t b.w.shared b.w.since c (b.w.who c) r) there (b.holds.caller_holds c lt).spot in
      let x' : Caller = record (b.w.who c) { entry = taken t.setting.reclamation call (b.w.who c).entry } in (
        record {
          w = with_caller b.w c x';
          v = b.v;
          holds = calls_are_taken t plan c b.w call b.holds idle;
          memory = b.memory ∙ sym m.3;
          entry = entry_put (λ (y : Caller). y.entry) n b.w.who (seen state).who (seen behind).who c x' (taken t.setting.reclamation call ((seen state).who c)) b.entry (ap (taken t.setting.reclamation call) e) m.4;
          sourced = b.sourced;
          source = b.source;
          caller = each_put (λ d (x : Caller). d < n → slice_get b.v.machine.callers d ≡ Some x.source) b.w.who c x' (λ lt. b.caller c lt) (λ d ne lt. b.caller d lt);
          run = each_put (λ d (x : Caller). d < n → b.v.runs d ≡ x.watch) b.w.who c x' (λ lt. b.run c lt) (λ d ne lt. b.run d lt);
          unused = b.unused;
          called = called_put t.target n (seen state).who (seen behind).who c (taken t.setting.reclamation call ((seen state).who c)) b.called (λ run. m.2) m.4;
        },
        refl,
      )

  -- it makes the access that it wants
  step_beside : (state behind : CoreState) (z : Shadow) (c : ℕ) → IsSound t.target t.setting state → IsShaped t.target t.setting state → (b : Beside t state z) → TakesReady (seen state).memory ((seen state).who c).routine → Moves t.target t.setting (seen state) (Steps c) (seen behind)
      → HomeIs t.home (shadow_run t.text (event_signs t.target t.setting state (Steps c)) z)
      → NamedBeside t behind (shadow_run t.text (event_signs t.target t.setting state (Steps c)) z) (present_after t.target t.setting (seen state) (Steps c) z.unused b.w.shared.present)
  step_beside state behind z c sound shaped b ready m homes =
      let a : WordAccess = m.0 in
      let lt = m.1 in
      let s : Shared = b.w.shared in
      let x : Caller = b.w.who c in
      let e : x.entry ≡ (seen state).who c = b.entry c lt in
      let want : wants t.target ((seen state).who c) ≡ Some a = m.2 in
      let made : Moved = after_moves t.setting.reclamation t.target t.setting x.entry (s.memory (word_of a)) in
      let same_move : made ≡ after_moves t.setting.reclamation t.target t.setting ((seen state).who c) ((seen state).memory (word_of a)) =
      ap (λ (e : Entry). after_moves t.setting.reclamation t.target t.setting e (s.memory (word_of a))) e
      ∙ ap (λ (k : Word → ℕ). after_moves t.setting.reclamation t.target t.setting ((seen state).who c) (k (word_of a))) b.memory in
      let same : signed c made.signs ≡ event_signs t.target t.setting state (Steps c) =
      ap (λ (k : Moved). signed c k.signs) same_move
      ∙ (ap (signed c) (sym (signs_are t ((seen state).who c) ((seen state).memory (word_of a)))) ∙ sym (events_seen.signs state c a shaped lt want)) in
      let placed : Placed b.v z c (point_at s x) = record { caller = b.caller c lt; memory = b.source; run = b.run c lt; unused = b.unused } in
      let draws : DrawsHome t.home made.signs s.unused =
      subst (λ (u : ℕ). DrawsHome t.home made.signs u) b.unused
      (draws_home t.text t.home c made.signs z (subst (λ (k : List Signed). HomeIs t.home (shadow_run t.text k z)) (sym same) homes)) in
      let run : is_idle ((seen state).who c).routine ≡ false = busy t.target ((seen state).who c) a (is_idle ((seen state).who c).routine) refl want in
      let k : KeptWith t c s b.w.since x (after_access s.memory a) made (present_at t.target s.memory s.unused x.entry x.entry.routine s.present) =
      steps_keep t plan c s b.w.since x a lt b.holds.shared_holds (b.holds.caller_holds c lt)
      (subst (λ (e : Entry). TakesReady s.memory e.routine) (sym e) (subst (λ (k : Word → ℕ). TakesReady k ((seen state).who c).routine) (sym b.memory) ready))
      (subst (λ (e : Entry). Belongs t.target t.setting e) (sym e) (belongs_seen t.target t.setting state c sound lt))
      (ap (λ (e : Entry). is_call t.target e.running.call) e ∙ b.called c lt run)
      (stays_proper t.text n c z b.v (point_at s x) plan.normal plan.within proper b.sourced placed)
      (ap (wants t.target) e ∙ want) draws in
      let l : Lifted t.text n c b.v (point_at k.s' k.x') (shadow_run t.text (event_signs t.target t.setting state (Steps c)) z) =
      subst (λ (i : List Signed). Lifted t.text n c b.v (point_at k.s' k.x') (shadow_run t.text i z)) same
      (lift t.text n c made.signs (point_at s x) (point_at k.s' k.x') k.plays z b.v b.sourced placed) in
      let next : Entry = after t.target t.setting ((seen state).who c) ((seen state).memory (word_of a)) in
      let entry_is : k.x'.entry ≡ next = k.entry ∙ (ap (λ (i : Moved). i.entry) same_move ∙ sym (after_is t ((seen state).who c) ((seen state).memory (word_of a)))) in (
        record {
          w = after_step t c b.w (after_access s.memory a) made (present_at t.target s.memory s.unused x.entry x.entry.routine s.present) k;
          v = l.v';
          holds = world_step t c b.w (after_access s.memory a) made (present_at t.target s.memory s.unused x.entry x.entry.routine s.present) plan b.holds k;
          memory = k.memory ∙ (ap (λ (i : Word → ℕ). after_access i a) b.memory ∙ sym m.4);
          entry = entry_put (λ (y : Caller). y.entry) n b.w.who (seen state).who (seen behind).who c k.x' next b.entry entry_is m.5;
          sourced = l.sourced;
          source = l.placed.memory;
          caller = each_put (λ d (y : Caller). d < n → slice_get l.v'.machine.callers d ≡ Some y.source) b.w.who c k.x' (λ lt. l.placed.caller) (λ d ne lt. (l.others d ne).0 ∙ b.caller d lt);
          run = each_put (λ d (y : Caller). d < n → l.v'.runs d ≡ y.watch) b.w.who c k.x' (λ lt. l.placed.run) (λ d ne lt. (l.others d ne).1 ∙ b.run d lt);
          unused = l.placed.unused;
          called = called_put t.target n (seen state).who (seen behind).who c next b.called
              (λ on. subst (λ (call : Call). is_call t.target call ≡ true) (sym (call_stays (counted ((seen state).who c)) next (after_turns t.target t.setting ((seen state).who c) ((seen state).memory (word_of a)) run))) (b.called c lt run))
              m.5;
        },
        k.present ∙ (ap (λ (memory : Word → ℕ). present_at t.target memory s.unused x.entry x.entry.routine s.present) b.memory
            ∙ (ap (λ (drawn : ℕ). present_at t.target (seen state).memory drawn x.entry x.entry.routine s.present) (sym b.unused)
            ∙ ap (λ (e : Entry). present_at t.target (seen state).memory z.unused e e.routine s.present) e)),
      )

  event_beside : (event : CoreEvent) (state behind : CoreState) (z : Shadow) → IsSound t.target t.setting state → IsShaped t.target t.setting state → (b : Beside t state z) → ((c : ℕ) → TakesReady (seen state).memory ((seen state).who c).routine)
      → Moves t.target t.setting (seen state) event (seen behind) → HomeIs t.home (shadow_run t.text (event_signs t.target t.setting state event) z)
      → NamedBeside t behind (shadow_run t.text (event_signs t.target t.setting state event) z) (present_after t.target t.setting (seen state) event z.unused b.w.shared.present)
  event_beside (Takes c call) state behind z sound shaped b ready m homes = take_beside state behind z c call b m
  event_beside (Steps c) state behind z sound shaped b ready m homes = step_beside state behind z c sound shaped b (ready c) m homes

  -- the induction, over what stays sound
  pub run_beside : AreKinds t.setting.sizes → t.setting.sizes.slots < t.setting.sizes.tops → NewsFit t.target t.setting.sizes → Suits t.setting.sizes (beginning_of t.target t.setting) → ((state : CoreState) → IsSound t.target t.setting state → IsShaped t.target t.setting state)
      → ((state behind : CoreState) (event : CoreEvent) → IsSound t.target t.setting state → core_event t.target t.setting state event ≡ Some behind → IsSound t.target t.setting behind)
      → (events : List CoreEvent) (state behind : CoreState) (z : Shadow) (present : ℕ → ℕ) → IsSound t.target t.setting state → PooledBeside t state z present → core_run t.target t.setting events state ≡ Some behind
      → HomeIs t.home (shadow_run t.text (run_signs t.target t.setting events state) z)
      → PooledBeside t behind (shadow_run t.text (run_signs t.target t.setting events state) z) (present_run t.target t.text t.setting events state z present)
  run_beside are few news suits shaped stays events state behind z present sound b is homes = along_run t (ℕ → ℕ) (present_run t.target t.text t.setting)
      (λ event state z present. present_after t.target t.setting (view t.setting state) event z.unused present) (PooledBeside t) (λ state z present. refl)
      (present_more t)
      shaped stays events_seen
      (λ event state behind z present sound shaped b m homes.
      let one = event_beside event state behind z sound shaped b.named.0 (λ c. takes_ready t.target t.setting state c are few suits b.pooled) m homes in
      record {
        named = (one.0, one.1 ∙ ap (present_after t.target t.setting (view t.setting state) event z.unused) b.named.1);
        pooled = event_pooled t.target t.setting are few suits news state behind event shaped m b.pooled (retires_used t behind _ one.0);
      })
      events state behind z present sound b is homes
