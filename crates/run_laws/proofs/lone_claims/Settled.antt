-- In each state that a run comes to, each slot whose status is used holds a name that isn't retired, or a caller works on it.
use Rattle.std.proofs.Common.{ℕ, ◌≡◌, ◌≢◌, ◌≤◌, ◌<◌, ◌⊎◌, ◌∙◌, true, false, List, [], Some, arith, inl, inr, ⊎_elim, sym, ap, subst, refl}
use Rattle.std.proofs.lemmas.Bool.{cases_eq}
use Rattle.norm_lang.specs.declared.text.Text.{Text}
use Rattle.target_code.specs.declared.target.Target.{Target}
use Rattle.target_code.specs.Barred.{IsBarred}
use Rattle.oa_words.specs.declared.packed.Kind.TheVariants as kinds
use Rattle.oa_words.specs.Words.{Word, Status}
use Rattle.oa_words.specs.Within.{AreKinds}
use Rattle.oa_words.specs.Starts.{Suits}
use Rattle.source_machine.specs.declared.state.Memory.{Memory}
use Rattle.source_machine.specs.declared.state.SourceMachine.{SourceMachine}
use Rattle.source_machine.specs.MethodRuns.{put}
use Rattle.source_machine.specs.Proper.{IsProperFor, has}
use Rattle.source_machine.proofs.Places.{put_same, put_other}
use Rattle.caller_parts.specs.declared.call.Call.{Call}
use Rattle.caller_parts.specs.declared.routine.Routine.{Routine}
use Rattle.caller_parts.specs.declared.routine.Routine.TheVariants.{Retires, Zeroes}
use Rattle.caller_parts.specs.Settings.{Setting, Fits, IsSetting}
use Rattle.caller_steps.specs.Entries.{Entry, is_idle}
use Rattle.caller_steps.specs.Wants.{wants}
use Rattle.caller_steps.specs.Asking.{NewsFit}
use Rattle.core_runs.proofs.caller_laws.Together.{methods}
use Rattle.core_runs.proofs.caller_laws.Methods.{news_fit, setting_sane}
use Rattle.core_runs.specs.Machine.{CoreState, CoreEvent, Takes, Steps, beginning_of, core_event, core_run, core_start}
use Rattle.core_runs.specs.RunSigns.{event_signs, run_signs}
use Rattle.core_runs.specs.Views.{EventsAreSeen, IsShaped, Moves, view}
use Rattle.core_runs.proofs.Seeing.{events_are_seen}
use Rattle.core_runs.proofs.Starting.{start_is_seen}
use Rattle.core_runs.specs.core_sound.Sound.{IsSound}
use Rattle.core_runs.proofs.core_sound.Machine.{event_sound}
use Rattle.core_runs.proofs.core_sound.StartSound.{start_sound}
use Rattle.core_runs.proofs.core_sound.Reached.{sound_is_shaped, start_suits}
use Rattle.core_runs.specs.core_pools.Pooled.{Pooled}
use Rattle.core_runs.proofs.core_pools.Pooling.{start_pooled}
use Rattle.target_laws.specs.target_runs.Runnable.{MayBeWalked}
use Rattle.target_laws.proofs.target_runs.SaneTargets.{runnable_is_sane}
use Rattle.oa_simulation.specs.sim_relation.Views.{Plan, IsPlan, Caller}
use Rattle.oa_simulation.specs.sim_relation.Worlds.{World}
use Rattle.oa_simulation.proofs.sim_steps.Pools.Core.{wants_is}
use Rattle.chain_laws.proofs.Routines.{status_tells}
use Rattle.chain_laws.specs.Chains.{IsOf}
use Rattle.oa_simulation.proofs.sim_steps.Dispatching.{steps_keep}
use Rattle.oa_simulation.proofs.Starting.{IsFirst}
use Rattle.oa_simulation.proofs.FirstWords.{first_words}
use Rattle.oa_simulation.specs.Shadow.{Shadow, shadow, shadow_run, shadow_start}
use Rattle.oa_simulation.specs.Beside.{Beside}
use Rattle.oa_simulation.specs.Relation.{HomeIs}
use Rattle.oa_simulation.specs.Present.{first_present, present_after, present_run, present_in}
use Rattle.oa_simulation.proofs.Homes.{home_stays}
use Rattle.oa_simulation.proofs.Induction.{TookCall, Went, along_run, present_more, take_went, step_went}
use Rattle.oa_simulation.proofs.Lifting.{machine_is}
use Rattle.oa_simulation.proofs.Pools.{pool_goes, takes_ready}
use Rattle.oa_simulation.proofs.FirstSlots.{first_null}
use Rattle.oa_simulation.proofs.Refining.{plan_of, start_beside}
use Rattle.run_laws.proofs.lone_claims.InUse.{IsNamed, Works, WorksAt, step_settles}
use Rattle.caller_parts.specs.declared.setting.Reclamation.TheVariants.{Optimistic}

-- a caller works on the slot
abbrev pub SomeWorks : ℕ → (ℕ → Caller) → ℕ → Type 0
SomeWorks callers who j = (d : ℕ) × (d < callers) × Works (who d).entry j

abbrev pub AllSettled : ℕ → World → Type 0
AllSettled callers w = (j : ℕ) → 1 ≤ j → IsOf kinds.Used (w.shared.memory (Status j)) → IsNamed w.shared j ⊎ SomeWorks callers w.who j

-- a state beside its shadow, with the names that its slots have
pub record SettledBeside (t : Plan) (state : CoreState) (z : Shadow) (present : ℕ → ℕ) : Type 0 where
  pub beside : Beside t state z
  pub names : beside.w.shared.present ≡ present
  pub settled : AllSettled t.setting.sizes.callers beside.w

-- an idle caller works on nothing, and one that takes a call neither
idle_rests : (e : Entry) (r : Routine) (j : ℕ) → is_idle r ≡ true → WorksAt e r j → ⊥
idle_rests e (Retires retirement go) j is works = let no : false ≡ true = is in absurd (let bad : ⊥ = cc in bad)
idle_rests e (Zeroes k field) j is works = let no : false ≡ true = is in absurd (let bad : ⊥ = cc in bad)
idle_rests e _ j is works = works

module _ (callers c : ℕ) (who : ℕ → Caller) (x' : Caller) (j : ℕ) where
  -- another caller works on it
  abbrev OtherWorks : Type 0
  OtherWorks = (d : ℕ) × (d < callers) × (d ≢ c) × Works (who d).entry j

  own_or_other : SomeWorks callers who j → Works (who c).entry j ⊎ OtherWorks
  own_or_other works = ⊎_elim
      (λ (same : works.0 ≡ c). inl (subst (λ (d : ℕ). Works (who d).entry j) same works.2))
      (λ (away : works.0 ≢ c). inr (works.0, works.1, away, works.2))
      (cases_eq works.0 c)

  other_still : OtherWorks → SomeWorks callers (put who c x') j
  other_still works = (works.0, works.1, subst (λ (y : Caller). Works y.entry j) (sym (put_other who c works.0 x' works.2)) works.3)

  own_now : c < callers → Works x'.entry j → SomeWorks callers (put who c x') j
  own_now lt works = (c, lt, subst (λ (y : Caller). Works y.entry j) (sym (put_same who c x')) works)

-- and events of the pool lead there
pub record SettledWithPool (t : Plan) (state : CoreState) (z : Shadow) (present : ℕ → ℕ) : Type 0 where
  pub settled : SettledBeside t state z present
  pub pooled : Pooled t.target t.setting state

module _ (t : Plan) (plan : IsPlan t) (proper : IsProperFor t.setting.sizes.callers t.text) (events_seen : EventsAreSeen t.target t.setting) (are : AreKinds t.setting.sizes) (few : t.setting.sizes.slots < t.setting.sizes.tops) (news : NewsFit t.target t.setting.sizes) (suits : Suits t.setting.sizes (beginning_of t.target t.setting)) where
  abbrev n : ℕ
  n = t.setting.sizes.callers

  took_settled : (state behind : CoreState) (z : Shadow) (c : ℕ) (call : Call) (b : Beside t state z) → is_idle (b.w.who c).entry.routine ≡ true → AllSettled n b.w → (k : TookCall t state behind z c call b) → AllSettled n k.beside.w
  took_settled state behind z c call b idle all k = subst (AllSettled n) (sym k.world) (λ j le used. ⊎_elim
      (λ (named : IsNamed b.w.shared j). inl named)
      (λ (works : SomeWorks n b.w.who j). ⊎_elim
      (λ (own : Works (b.w.who c).entry j). absurd (idle_rests (b.w.who c).entry (b.w.who c).entry.routine j idle own))
      (λ (other : OtherWorks n c b.w.who k.kept.x' j). inr (other_still n c b.w.who k.kept.x' j other))
      (own_or_other n c b.w.who k.kept.x' j works))
      (all j le used))

  went_settled : (state behind : CoreState) (z z' : Shadow) (c : ℕ) (b : Beside t state z) → c < n → AllSettled n b.w → (k : Went t state behind z z' c b) → AllSettled n k.beside.w
  went_settled state behind z z' c b lt all k = subst (AllSettled n) (sym k.world) (λ j le used. ⊎_elim
      (λ (named : IsNamed k.stepped.kept.s' j). inl named)
      (λ (works : Works k.stepped.kept.x'.entry j ⊎ OtherWorks n c b.w.who k.stepped.kept.x' j). inr (⊎_elim
      (λ (own : Works k.stepped.kept.x'.entry j). own_now n c b.w.who k.stepped.kept.x' j lt own)
      (λ (other : OtherWorks n c b.w.who k.stepped.kept.x' j). other_still n c b.w.who k.stepped.kept.x' j other)
      works))
      (step_settles t c b.w.shared (b.w.who c) k.access b.holds.shared_holds
      (sym (wants_is t.target (b.w.who c).entry (b.w.who c).entry.routine refl) ∙ (ap (wants t.target) (b.entry c lt) ∙ k.at))
      (record {
        s' = k.stepped.kept.s';
        x' = k.stepped.kept.x';
        memory = k.stepped.kept.memory;
        present = k.stepped.kept.present;
        entry = k.stepped.kept.entry;
        shared_holds = k.stepped.kept.shared_holds;
        retires = k.stepped.kept.retires;
        caller_holds = k.stepped.kept.caller_holds;
      }) (OtherWorks n c b.w.who k.stepped.kept.x' j) j
      (λ was. ⊎_elim (λ (named : IsNamed b.w.shared j). inl named) (λ (works : SomeWorks n b.w.who j). inr (own_or_other n c b.w.who k.stepped.kept.x' j works)) (all j le was))
      used))

  event_settled : (event : CoreEvent) (state behind : CoreState) (z : Shadow) (present : ℕ → ℕ) → IsSound t.target t.setting state → IsShaped t.target t.setting state → SettledBeside t state z present → Pooled t.target t.setting state → Moves t.target t.setting (view t.setting state) event (view t.setting behind)
      → HomeIs t.home (shadow_run t.text (event_signs t.target t.setting state event) z)
      → SettledBeside t behind (shadow_run t.text (event_signs t.target t.setting state event) z) (present_after t.target t.setting (view t.setting state) event z.unused present)
  event_settled (Takes c call) state behind z present sound shaped b pooled m homes =
      let k = take_went t plan.compiled.normal plan.compiled.within plan.null plan.optimistic (λ e. true) (steps_keep t plan) proper events_seen state behind z c call b.beside m in
      record {
        beside = k.beside;
        names = ap (λ (w : World). w.shared.present) k.world ∙ b.names;
        settled = took_settled state behind z c call b.beside (ap (λ (e : Entry). is_idle e.routine) (b.beside.entry c m.0) ∙ m.1) b.settled k;
      }
  event_settled (Steps c) state behind z present sound shaped b pooled m homes =
      let k = step_went t plan.compiled.normal plan.compiled.within plan.null plan.optimistic (λ e. true) (steps_keep t plan) proper events_seen state behind z c refl sound shaped b.beside (takes_ready t.target t.setting state c are few suits pooled) m homes in
      record {
        beside = k.beside;
        names = k.present ∙ ap (present_after t.target t.setting (view t.setting state) (Steps c) z.unused) b.names;
        settled = went_settled state behind z (shadow_run t.text (event_signs t.target t.setting state (Steps c)) z) c b.beside m.1 b.settled k;
      }

  -- the induction, over what stays sound
  run_settled : ((state : CoreState) → IsSound t.target t.setting state → IsShaped t.target t.setting state)
      → ((state behind : CoreState) (event : CoreEvent) → IsSound t.target t.setting state → core_event t.target t.setting state event ≡ Some behind → IsSound t.target t.setting behind)
      → (events : List CoreEvent) (state behind : CoreState) (z : Shadow) (present : ℕ → ℕ) → IsSound t.target t.setting state → SettledWithPool t state z present → core_run t.target t.setting events state ≡ Some behind
      → HomeIs t.home (shadow_run t.text (run_signs t.target t.setting events state) z)
      → SettledWithPool t behind (shadow_run t.text (run_signs t.target t.setting events state) z) (present_run t.target t.text t.setting events state z present)
  run_settled shaped stays events state behind z present sound b is homes = along_run t (ℕ → ℕ) (present_run t.target t.text t.setting)
      (λ event state z present. present_after t.target t.setting (view t.setting state) event z.unused present) (SettledWithPool t) (λ state z present. refl) (present_more t) shaped stays events_seen
      (λ event state behind z present sound shaped b m homes.
      let one = event_settled event state behind z present sound shaped b.settled b.pooled m homes in
      record { settled = one; pooled = pool_goes t state behind _ event are few news suits shaped m b.pooled one.beside })
      events state behind z present sound b is homes

-- at the start initial nodes have their names, and each other slot is ready
start_settled : (t : Plan) (state : CoreState) (callers : ℕ) (b : Beside t state (shadow_start t.text t.setting)) → b.w.shared.present ≡ first_present t.setting → IsFirst t (view t.setting state).memory → AllSettled callers b.w
start_settled t state callers b names first j le used = ⊎_elim not_first first_named (cases_eq (first_present t.setting j) 0) where
  retired : b.w.shared.source.retired ≡ []
  retired = ap (λ (memory : Memory). memory.retired) (sym b.source) ∙ ap (λ (machine : SourceMachine). machine.memory.retired) (machine_is t.text t.setting.sizes.callers (shadow_start t.text t.setting) b.v b.sourced)

  first_named : first_present t.setting j ≢ 0 → IsNamed b.w.shared j ⊎ SomeWorks callers b.w.who j
  first_named some = inl ((λ z. some (sym (ap (λ (present : ℕ → ℕ). present j) names) ∙ z)), ap (has (b.w.shared.present j)) retired)

  not_first : first_present t.setting j ≡ 0 → IsNamed b.w.shared j ⊎ SomeWorks callers b.w.who j
  not_first none =
      let other = first.ready j (λ z. omega (arith, le, z)) none in
      absurd (let no : kinds.Used ≡ kinds.Ready = (status_tells used.0 other.0 kinds.Used kinds.Ready (sym used.1 ∙ (ap (λ (memory : Word → ℕ). memory (Status j)) b.memory ∙ other.1))).1 in cc)

-- every state that a run comes to
pub settles : (target : Target) (text : Text) (setting : Setting) → MayBeWalked target text → IsBarred target text → IsSetting setting → Fits target setting → setting.reclamation ≡ Optimistic → IsProperFor setting.sizes.callers text → (events : List CoreEvent) (state : CoreState) → core_run target setting events (core_start target setting) ≡ Some state
    → SettledBeside (plan_of target text setting events) state (shadow target text setting events) (present_in target text setting events)
settles target text setting runs barred own fits optimistic proper events state is =
    let t : Plan = plan_of target text setting events in
    let z0 : Shadow = shadow_start text setting in
    let homes : HomeIs t.home z0 = λ n lt. home_stays text (run_signs target setting events (core_start target setting)) z0 n lt in
    let plan : IsPlan t = record {
      compiled = record { normal = runs.normal; within = runs.small; barred = barred };
      sane = runnable_is_sane target text runs;
      some = own;
      fits = fits;
      optimistic = optimistic;
      callers = own.sizes.callers;
      null = homes 0 (omega arith) ∙ first_null setting;
    } in
    let words : IsFirst t (view setting (core_start target setting)).memory = first_words t runs own fits homes in
    let first = start_beside t own (start_is_seen target setting) (start_suits target text setting runs own fits).suits words in
    (run_settled t plan proper (events_are_seen target setting) (setting_sane setting own).kinds own.sizes.tops (news_fit target setting (methods target text runs) (setting_sane setting own) fits) (start_suits target text setting runs own fits).suits
    (λ s sound. sound_is_shaped target setting s (methods target text runs) (setting_sane setting own) fits sound)
    (λ s next event sound at. event_sound target setting s next event (methods target text runs) (setting_sane setting own) fits sound at)
    events (core_start target setting) state z0 (first_present setting) (start_sound target setting (methods target text runs) runs.within own fits)
    (record {
      settled = record { beside = first.0; names = first.1; settled = start_settled t (core_start target setting) setting.sizes.callers first.0 first.1 words };
      pooled = start_pooled target setting (setting_sane setting own).kinds own.sizes.tops (start_suits target text setting runs own fits).suits;
    }) is (λ n lt. refl)).settled
