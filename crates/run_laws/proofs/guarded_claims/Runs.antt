-- The marks of a run stand beside the relation, event by event.
use Rattle.std.proofs.Common.{ℕ, ◌≡◌, ◌≢◌, ◌≤◌, ◌<◌, ◌⊎◌, ◌∙◌, if◌then◌else◌, Bool, true, false, List, length, Option, Some, None, arith, inl, inr, ⊎_elim, sym, ap, subst, refl}
use Rattle.std.proofs.lemmas.Bool.{cases_eq}
use Rattle.std.specs.Prelude.{slice_get, slice_index, unwrap_or}
use Rattle.target_code.specs.declared.target.Target.{Target}
use Rattle.oa_words.specs.Words.{Word, Hazard, in_row, address_of}
use Rattle.phase_pools.specs.Accesses.{WordAccess, word_of}
use Rattle.target_laws.proofs.local_laws.Inside.{there_is}
use Rattle.source_machine.specs.MethodRuns.{put}
use Rattle.source_machine.specs.Proper.{IsProperFor}
use Rattle.source_machine.proofs.Places.{each_put, put_same, put_other}
use Rattle.caller_parts.specs.declared.call.Call.{Call}
use Rattle.caller_parts.specs.Settings.{Setting}
use Rattle.caller_steps.specs.Entries.{Entry, idle_entry, is_idle}
use Rattle.caller_steps.specs.Belongs.{Belongs}
use Rattle.caller_steps.specs.Wants.{wants}
use Rattle.caller_steps.specs.Asking.{NewsFit}
use Rattle.caller_steps.specs.After.{moved as after_moves}
use Rattle.core_runs.specs.Machine.{CoreState, CoreEvent, Takes, Steps, beginning_of, core_event, core_run, found_by}
use Rattle.core_runs.specs.RunSigns.{event_signs, run_signs}
use Rattle.core_runs.specs.Views.{EventsAreSeen, IsShaped, Moves, view}
use Rattle.core_runs.proofs.Keeping.{idle_wants}
use Rattle.core_runs.specs.core_sound.Sound.{IsSound}
use Rattle.oa_simulation.specs.sim_relation.Views.{Plan, IsPlan, Caller}
use Rattle.oa_simulation.specs.sim_relation.Naming.{present_at}
use Rattle.chain_laws.specs.Memories.{after_access}
use Rattle.oa_simulation.specs.sim_relation.Steps.{NamesAfter, Stepped, TakesReady, is_between}
use Rattle.oa_simulation.specs.sim_relation.WasSet.{set_after_access}
use Rattle.oa_simulation.specs.sim_relation.Worlds.{World, Holds}
use Rattle.oa_simulation.proofs.sim_steps.Dispatching.{steps_keep}
use Rattle.oa_simulation.specs.Shadow.{Shadow, shadow_run}
use Rattle.oa_simulation.specs.Beside.{Beside}
use Rattle.oa_simulation.specs.Relation.{HomeIs}
use Rattle.core_runs.specs.core_pools.Pooled.{Pooled}
use Rattle.oa_words.specs.Within.{AreKinds}
use Rattle.oa_words.specs.Starts.{Suits}
use Rattle.oa_simulation.proofs.Pools.{pool_goes, takes_ready}
use Rattle.oa_simulation.proofs.Induction.{TookCall, Went, along_run, belongs_seen, take_went, step_went}
use Rattle.run_laws.specs.guarded_claims.Marks.{Marks, Validated, step_marks, wanted_marks, entry_marks, event_marks, marks_on, run_marks}
use Rattle.run_laws.proofs.guarded_claims.Passing.{KnowsWhere}
use Rattle.run_laws.proofs.guarded_claims.Covered.{Covered, covered_of, covered_took}
use Rattle.run_laws.proofs.guarded_claims.Covering.{covered_on}
use Rattle.run_laws.proofs.guarded_claims.Marked.{Marked, step_marked, step_validated, others_marked}
use Rattle.caller_parts.specs.declared.setting.Reclamation.TheVariants.{Optimistic}
use Rattle.oa_simulation.proofs.sim_relation.Schemes.{never_holds}

-- of one caller: its marks, and the slots under its validated guards
pub record MarkedAt (t : Plan) (w : World) (c : ℕ) (marks : Marks) : Type 0 where
  pub own : Marked t w.shared c (w.who c) marks
  pub covered : (r : ℕ) → marks.hazards r ≡ Validated → Covered t w c r

abbrev pub AllMarked : Plan → World → (ℕ → Marks) → Type 0
AllMarked t w marks = (c : ℕ) → c < t.setting.sizes.callers → MarkedAt t w c (marks c)

-- a state beside its shadow, and the marks beside the relation
pub record MarkedBeside (t : Plan) (state : CoreState) (z : Shadow) (marks : ℕ → Marks) : Type 0 where
  pub beside : Beside t state z
  pub marked : AllMarked t beside.w marks

-- the marks after a step, by the word that its access finds
marks_are : (target : Target) (setting : Setting) (state : CoreState) (c : ℕ) (a : WordAccess) (marks : ℕ → Marks) → c < length state.entries → wants target ((view setting state).who c) ≡ Some a → in_row setting.sizes (word_of a) ≡ true
    → event_marks target setting state (Steps c) marks ≡ put marks c (step_marks target setting ((view setting state).who c) ((view setting state).memory (word_of a)) (marks c))
marks_are target setting state c a marks lt want row = of (slice_get state.entries c) refl where
  of : (o : Option Entry) → slice_get state.entries c ≡ o → entry_marks target setting state c (slice_get state.entries c) marks ≡ put marks c (step_marks target setting ((view setting state).who c) ((view setting state).memory (word_of a)) (marks c))
  of None is = absurd (let there = there_is state.entries c lt in let z : None ≡ Some there.0 = sym is ∙ there.1 in cc)
  of (Some e) is =
      let same : (view setting state).who c ≡ e = ap (λ (o : Option Entry). unwrap_or o (idle_entry c)) is in
      let want' : wants target e ≡ Some a = ap (wants target) (sym same) ∙ want in
      let found : (view setting state).memory (word_of a) ≡ found_by setting state a = ap (λ (b : Bool). if b then slice_index state.words (address_of setting.sizes (word_of a)) else 0) row in
      ap (λ (o : Option Entry). entry_marks target setting state c o marks) is
      ∙ (ap (λ (o : Option WordAccess). wanted_marks target setting state c e o marks) want'
      ∙ (ap (λ (w : ℕ). put marks c (step_marks target setting e w (marks c))) (sym found)
      ∙ ap (λ (e : Entry). put marks c (step_marks target setting e ((view setting state).memory (word_of a)) (marks c))) (sym same)))

busy : (target : Target) (e : Entry) (a : WordAccess) (b : Bool) → is_idle e.routine ≡ b → wants target e ≡ Some a → is_idle e.routine ≡ false
busy target e a true is want = absurd (idle_wants target e a is want)
busy target e a false is want = is

-- and events of the pool lead there
pub record MarkedWithPool (t : Plan) (state : CoreState) (z : Shadow) (marks : ℕ → Marks) : Type 0 where
  pub marked : MarkedBeside t state z marks
  pub pooled : Pooled t.target t.setting state

module _ (t : Plan) (plan : IsPlan t) (proper : IsProperFor t.setting.sizes.callers t.text) (events_seen : EventsAreSeen t.target t.setting) (are : AreKinds t.setting.sizes) (few : t.setting.sizes.slots < t.setting.sizes.tops) (news : NewsFit t.target t.setting.sizes) (suits : Suits t.setting.sizes (beginning_of t.target t.setting)) where
  took_marked : (state behind : CoreState) (z : Shadow) (c : ℕ) (call : Call) (b : Beside t state z) (marks : ℕ → Marks) → c < t.setting.sizes.callers → AllMarked t b.w marks → (k : TookCall t state behind z c call b) → MarkedBeside t behind z marks
  took_marked state behind z c call b marks lt all k = record {
    beside = k.beside;
    marked = subst (λ (w : World). AllMarked t w marks) (sym k.world) (λ d below. record {
      own = each_put (λ d (x : Caller). d < t.setting.sizes.callers → Marked t b.w.shared d x (marks d)) b.w.who c k.kept.x'
          (λ lt. record {
            was_set = k.kept.was_set ∙ (all c lt).own.was_set;
            published = λ r is between calm. absurd (let z : true ≡ false = sym (ap (λ (e : Entry). is_between e.routine) k.kept.entry) ∙ between in cc);
          })
          (λ d ne lt. (all d lt).own) d below;
      covered = λ r is. covered_took t b.w c k.kept.x' d r (ap (λ (e : Entry). e.cradles) k.kept.entry)
          (subst (λ (e : Entry). KnowsWhere b.w.shared d r (b.w.shared.memory (Hazard d r)) e.routine) (sym k.kept.entry) tt) ((all d below).covered r is);
    });
  }

  -- a step, in the worlds before and after it
  step_all : (w : World) (h : Holds t w) (c : ℕ) (a : WordAccess) (marks : ℕ → Marks) → c < t.setting.sizes.callers → AllMarked t w marks → Belongs t.target t.setting (w.who c).entry → TakesReady w.shared.memory (w.who c).entry.routine → wants t.target (w.who c).entry ≡ Some a
      → (k : Stepped t c w.shared (w.who c) (NamesAfter t w.shared c (w.who c) (w.who c).entry.routine) (set_after_access t.target (w.who c).entry (w.who c).entry.routine (w.shared.memory (word_of a)) (w.who c).was_set)
      (after_access w.shared.memory a) (after_moves Optimistic t.target t.setting (w.who c).entry (w.shared.memory (word_of a))) (present_at t.target w.shared.memory w.shared.unused (w.who c).entry (w.who c).entry.routine w.shared.present))
      → Holds t (record { shared = k.kept.s'; who = put w.who c k.kept.x' })
      → AllMarked t (record { shared = k.kept.s'; who = put w.who c k.kept.x' }) (put marks c (step_marks t.target t.setting (w.who c).entry (w.shared.memory (word_of a)) (marks c)))
  step_all w h c a marks lt all belongs ready want k h' d below = record { own = own d below; covered = λ r. covered r (cases_eq d c) } where
    is_busy : is_idle (w.who c).entry.routine ≡ false
    is_busy = busy t.target (w.who c).entry a (is_idle (w.who c).entry.routine) refl want

    own : (d : ℕ) → d < t.setting.sizes.callers → Marked t k.kept.s' d (put w.who c k.kept.x' d) (put marks c (step_marks t.target t.setting (w.who c).entry (w.shared.memory (word_of a)) (marks c)) d)
    own = each_put (λ d (x : Caller). d < t.setting.sizes.callers → Marked t k.kept.s' d x (put marks c (step_marks t.target t.setting (w.who c).entry (w.shared.memory (word_of a)) (marks c)) d)) w.who c k.kept.x'
        (λ lt. subst (λ (own : Marks). Marked t k.kept.s' c k.kept.x' own) (sym (put_same marks c (step_marks t.target t.setting (w.who c).entry (w.shared.memory (word_of a)) (marks c))))
        (step_marked t w.shared c (w.who c) (marks c) a k.row _ (all c lt).own (h.caller_holds c lt).base want is_busy (never_holds t w.shared c (w.who c) (h.caller_holds c lt)) k.kept k.names))
        (λ d ne lt. subst (λ (theirs : Marks). Marked t k.kept.s' d (w.who d) theirs) (sym (put_other marks c d (step_marks t.target t.setting (w.who c).entry (w.shared.memory (word_of a)) (marks c)) ne))
        (others_marked t w.shared k.kept.s' c d (w.who d) (marks d) k.kept.goes (h.caller_holds d lt).base (all d lt).own))

    stays : (d r : ℕ) → Covered t w d r → k.kept.s'.memory (Hazard d r) ≡ w.shared.memory (Hazard d r) → Covered t (record { shared = k.kept.s'; who = put w.who c k.kept.x' }) d r
    stays d r v same = covered_on t w h c lt d r v a k.row _ plan.optimistic belongs ready want k.kept same

    covered : (r : ℕ) → (d ≡ c) ⊎ (d ≢ c) → (put marks c (step_marks t.target t.setting (w.who c).entry (w.shared.memory (word_of a)) (marks c)) d).hazards r ≡ Validated
        → Covered t (record { shared = k.kept.s'; who = put w.who c k.kept.x' }) d r
    covered r (inl same) is = subst (λ (d : ℕ). Covered t (record { shared = k.kept.s'; who = put w.who c k.kept.x' }) d r) (sym same) (⊎_elim
        (λ (old : ((marks c).hazards r ≡ Validated) × (k.kept.s'.memory (Hazard c r) ≡ w.shared.memory (Hazard c r))). stays c r ((all c lt).covered r old.0) old.1)
        (λ (now : k.kept.s'.protects c r ≢ 0). covered_of t (record { shared = k.kept.s'; who = put w.who c k.kept.x' }) h' c r now)
        (step_validated t w.shared c (w.who c) (marks c) a k.row _ (all c lt).own (h.caller_holds c lt).base want is_busy (never_holds t w.shared c (w.who c) (h.caller_holds c lt)) k.kept k.names r
        (sym (ap (λ (m : Marks). m.hazards r) (put_same marks c (step_marks t.target t.setting (w.who c).entry (w.shared.memory (word_of a)) (marks c))))
        ∙ (ap (λ (i : ℕ). (put marks c (step_marks t.target t.setting (w.who c).entry (w.shared.memory (word_of a)) (marks c)) i).hazards r) (sym same) ∙ is))))
    covered r (inr ne) is =
        stays d r ((all d below).covered r (sym (ap (λ (m : Marks). m.hazards r) (put_other marks c d (step_marks t.target t.setting (w.who c).entry (w.shared.memory (word_of a)) (marks c)) ne)) ∙ is)) (k.kept.goes.hazard d r ne)

  went_marked : (state behind : CoreState) (z z' : Shadow) (c : ℕ) (b : Beside t state z) (marks : ℕ → Marks) → c < t.setting.sizes.callers → c < length state.entries → AllMarked t b.w marks → Belongs t.target t.setting ((view t.setting state).who c) → TakesReady (view t.setting state).memory ((view t.setting state).who c).routine → Went t state behind z z' c b
      → MarkedBeside t behind z' (event_marks t.target t.setting state (Steps c) marks)
  went_marked state behind z z' c b marks lt there all belongs ready k =
      let x : Caller = b.w.who c in
      let e : x.entry ≡ (view t.setting state).who c = b.entry c lt in
      let want : wants t.target x.entry ≡ Some k.access = ap (wants t.target) e ∙ k.at in
      let ready' : TakesReady b.w.shared.memory x.entry.routine =
      subst (λ (e : Entry). TakesReady b.w.shared.memory e.routine) (sym e) (subst (λ (m : Word → ℕ). TakesReady m ((view t.setting state).who c).routine) (sym b.memory) ready) in
      let mine : Marks = step_marks t.target t.setting x.entry (b.w.shared.memory (word_of k.access)) (marks c) in
      let marks' : event_marks t.target t.setting state (Steps c) marks ≡ put marks c mine =
      marks_are t.target t.setting state c k.access marks there k.at k.there
      ∙ (ap (λ (e : Entry). put marks c (step_marks t.target t.setting e ((view t.setting state).memory (word_of k.access)) (marks c))) (sym e)
      ∙ ap (λ (memory : _). put marks c (step_marks t.target t.setting x.entry (memory (word_of k.access)) (marks c))) (sym b.memory)) in
      record {
        beside = k.beside;
        marked = subst (λ (w : World). AllMarked t w (event_marks t.target t.setting state (Steps c) marks)) (sym k.world)
            (subst (λ (marks : ℕ → Marks). AllMarked t (record { shared = k.stepped.kept.s'; who = put b.w.who c k.stepped.kept.x' }) marks) (sym marks')
            (step_all b.w b.holds c k.access marks lt all (subst (λ (e : Entry). Belongs t.target t.setting e) (sym e) belongs) ready' want k.stepped (subst (Holds t) k.world k.beside.holds)));
      }

  event_marked : (event : CoreEvent) (state behind : CoreState) (z : Shadow) (marks : ℕ → Marks) → IsSound t.target t.setting state → IsShaped t.target t.setting state → MarkedWithPool t state z marks → Moves t.target t.setting (view t.setting state) event (view t.setting behind)
      → HomeIs t.home (shadow_run t.text (event_signs t.target t.setting state event) z) → MarkedBeside t behind (shadow_run t.text (event_signs t.target t.setting state event) z) (event_marks t.target t.setting state event marks)
  event_marked (Takes c call) state behind z marks sound shaped b m homes =
      took_marked state behind z c call b.marked.beside marks m.0 b.marked.marked (take_went t plan.compiled.normal plan.compiled.within plan.null plan.optimistic (λ e. true) (steps_keep t plan) proper events_seen state behind z c call b.marked.beside m)
  event_marked (Steps c) state behind z marks sound shaped b m homes =
      let lt = m.1 in
      let callers = shaped.callers in
      let ready = takes_ready t.target t.setting state c are few suits b.pooled in
      went_marked state behind z (shadow_run t.text (event_signs t.target t.setting state (Steps c)) z) c b.marked.beside marks lt (omega (arith, lt, callers)) b.marked.marked (belongs_seen t.target t.setting state c sound lt) ready
      (step_went t plan.compiled.normal plan.compiled.within plan.null plan.optimistic (λ e. true) (steps_keep t plan) proper events_seen state behind z c refl sound shaped b.marked.beside ready m homes)

  -- the induction, over what stays sound
  pub run_marked : ((state : CoreState) → IsSound t.target t.setting state → IsShaped t.target t.setting state)
      → ((state behind : CoreState) (event : CoreEvent) → IsSound t.target t.setting state → core_event t.target t.setting state event ≡ Some behind → IsSound t.target t.setting behind)
      → (events : List CoreEvent) (state behind : CoreState) (z : Shadow) (marks : ℕ → Marks) → IsSound t.target t.setting state → MarkedWithPool t state z marks → core_run t.target t.setting events state ≡ Some behind
      → HomeIs t.home (shadow_run t.text (run_signs t.target t.setting events state) z) → MarkedWithPool t behind (shadow_run t.text (run_signs t.target t.setting events state) z) (run_marks t.target t.setting events state marks)
  run_marked shaped stays events state behind z marks sound b is homes = along_run t (ℕ → Marks) (λ events state z marks. run_marks t.target t.setting events state marks) (λ event state z marks. event_marks t.target t.setting state event marks)
      (MarkedWithPool t) (λ state z marks. refl)
      (λ event events state next z marks at. ap (λ (o : Option CoreState). marks_on o (run_marks t.target t.setting events) (event_marks t.target t.setting state event marks)) at)
      shaped stays events_seen
      (λ event state behind z marks sound shaped b m homes.
      let one = event_marked event state behind z marks sound shaped b m homes in
      record { marked = one; pooled = pool_goes t state behind _ event are few news suits shaped m b.pooled one.beside })
      events state behind z marks sound b is homes
