-- A caller that was warned stays so until a method run of it begins, and each check that it comes to fails.
use Rattle.std.proofs.Common.{ℕ, ◌≡◌, ◌≢◌, ◌==◌, ◌≤◌, ◌<◌, ◌∙◌, ◌&&◌, not, Bool, true, false, List, [], ◌∷◌, Option, Some, None, arith, sym, ap, subst, refl, if◌then◌else◌}
use Rattle.std.specs.Prelude.{slice_get, unwrap_or}
use Rattle.std.proofs.lemmas.Bool.Decides.{nat_tests}
use Rattle.norm_lang.specs.declared.registers.Registers.{Registers}
use Rattle.norm_lang.specs.declared.text.FieldDecl.{FieldDecl}
use Rattle.target_code.specs.declared.target.TargetInstr.{TargetInstr}
use Rattle.target_code.specs.declared.target.TargetInstr.TheVariants.{Check}
use Rattle.target_code.specs.declared.target.Target.{Target}
use Rattle.oa_words.specs.Words.{Word, Warning}
use Rattle.phase_pools.specs.Accesses.{WordAccess, Loads, word_of}
use Rattle.source_machine.proofs.Places.{each_put}
use Rattle.caller_parts.specs.declared.routine.Routine.{Routine}
use Rattle.caller_parts.specs.declared.routine.Routine.TheVariants.{At}
use Rattle.caller_parts.specs.Settings.{Setting}
use Rattle.caller_steps.specs.Entries.{Entry, idle_entry, instr_in}
use Rattle.caller_steps.specs.Belongs.{Belongs}
use Rattle.caller_steps.specs.Wants.{wants, wanted, instr_wanted}
use Rattle.caller_steps.specs.After.{taken, after, accepted, counted, instr_accepted, check_passed, check_failed}
use Rattle.core_runs.specs.Machine.{CoreState, CoreEvent, Takes, Steps, core_event, core_run, run_on}
use Rattle.core_runs.specs.Views.{CoreView, view, Moves, IsShaped, EventsAreSeen}
use Rattle.core_runs.specs.core_sound.Sound.{IsSound}
use Rattle.oa_simulation.specs.Throughout.{on_state}
use Rattle.oa_simulation.proofs.Induction.{belongs_seen}
use Rattle.oa_simulation.specs.sim_steps.Renewing.{fails_at, renews_at}
use Rattle.run_laws.specs.stale_laws.Stale.{begins_run, begins_none, IsWarned}
use Rattle.run_laws.proofs.stale_laws.Rising.{warnings_rise}
use Rattle.oa_simulation.proofs.sim_steps.Seen.{after_stays}
use Rattle.caller_parts.specs.declared.setting.Reclamation.TheVariants.{Optimistic}
use Rattle.oa_simulation.proofs.sim_relation.Schemes.{after_is, never_belongs}

-- ---- the word that a check finds

by_instr : (fields : List FieldDecl) (c : ℕ) (o : Option TargetInstr) (registers : Registers) (seen : ℕ) (memory : Word → ℕ) (a : WordAccess) → instr_wanted fields c o registers ≡ Some a
    → fails_at o seen (memory (Warning c)) ≡ false → fails_at o seen (memory (word_of a)) ≡ false
by_instr fields c (Some Check) registers seen memory a want goes = let same : Loads (Warning c) ≡ a = cc in subst (λ (b : WordAccess). not (memory (word_of b) == seen) ≡ false) same goes
by_instr fields c _ registers seen memory a want goes = refl

by_routine : (target : Target) (e : Entry) (r : Routine) (memory : Word → ℕ) (a : WordAccess) → wanted target e r ≡ Some a → renews_at target e r (memory (Warning e.number)) ≡ false → renews_at target e r (memory (word_of a)) ≡ false
by_routine target e At memory a want goes = by_instr target.fields e.number (instr_in target e) e.hand.registers e.hand.seen memory a want goes
by_routine target e _ memory a want goes = goes

found_begins : (target : Target) (e : Entry) (memory : Word → ℕ) (a : WordAccess) → wants target e ≡ Some a → renews_at target e e.routine (memory (Warning e.number)) ≡ false → renews_at target e e.routine (memory (word_of a)) ≡ false
unfolding wants
found_begins target e memory a want goes = by_routine target e e.routine memory a want goes

-- ---- one event

-- what was seen is below the warning
abbrev pub IsBelow : CoreView → ℕ → Type 0
IsBelow seen c = (seen.who c).hand.seen < seen.memory (Warning c)

second : (a b : Bool) → a ≡ true → (a && b) ≡ false → b ≡ false
second true b is goes = goes
second false b is goes = absurd (let no : false ≡ true = is in cc)

below_on : (target : Target) (setting : Setting) → setting.reclamation ≡ Optimistic → (before later : CoreView) (c : ℕ) (event : CoreEvent) → ((d : ℕ) → d < setting.sizes.callers → Belongs target setting (before.who d)) → Moves target setting before event later → begins_run target before c event ≡ false → IsBelow before c → IsBelow later c
below_on target setting optimistic before later c (Takes d call) belongs m goes below =
    let seen : (later.who c).hand.seen ≡ (before.who c).hand.seen =
    subst (λ (who : ℕ → Entry). (who c).hand.seen ≡ (before.who c).hand.seen) (sym m.4) (each_put (λ i (e : Entry). e.hand.seen ≡ (before.who i).hand.seen) before.who d (taken setting.reclamation call (before.who d)) refl (λ i ne. refl) c) in
    let word : later.memory (Warning c) ≡ before.memory (Warning c) = ap (λ (memory : Word → ℕ). memory (Warning c)) m.3 in
    omega (arith, below, seen, word)
below_on target setting optimistic before later c (Steps d) belongs m goes below =
    let a : WordAccess = m.0 in
    let rises : before.memory (Warning c) ≤ later.memory (Warning c) =
    subst (λ (memory : Word → ℕ). before.memory (Warning c) ≤ memory (Warning c)) (sym m.4) (warnings_rise target setting (before.who d) a optimistic (belongs d m.1) m.2 before.memory c) in
    let seen : (later.who c).hand.seen ≡ (before.who c).hand.seen =
    subst (λ (who : ℕ → Entry). (who c).hand.seen ≡ (before.who c).hand.seen) (sym m.5)
    (each_put (λ i (e : Entry). i ≡ c → e.hand.seen ≡ (before.who i).hand.seen) before.who d (after target setting (before.who d) (before.memory (word_of a))) (own a m.2) (λ i ne is. refl) c refl) in
    omega (arith, below, seen, rises)
  where
    own : (a : WordAccess) → wants target (before.who d) ≡ Some a → d ≡ c → (after target setting (before.who d) (before.memory (word_of a))).hand.seen ≡ (before.who d).hand.seen
    own a want is =
        let none : renews_at target (before.who c) (before.who c).routine (before.memory (Warning (before.who c).number)) ≡ false = second (d == c) _ (grind (arith, nat_tests, is)) goes in
        let here : renews_at target (before.who d) (before.who d).routine (before.memory (Warning (before.who d).number)) ≡ false =
        subst (λ (i : ℕ). renews_at target (before.who i) (before.who i).routine (before.memory (Warning (before.who i).number)) ≡ false) (sym is) none in
        after_stays target setting (before.memory (word_of a)) (before.who d) optimistic (never_belongs target setting (before.who d) optimistic (belongs d m.1)) (found_begins target (before.who d) before.memory a want here)

-- ---- a run

-- a sound state in which the caller was warned
pub record Stays (target : Target) (setting : Setting) (state : CoreState) (c : ℕ) : Type 0 where
  pub sound : IsSound target setting state
  pub below : IsBelow (view setting state) c

both : (a b : Bool) → (not a && b) ≡ true → (a ≡ false) × (b ≡ true)
both true b is = absurd (let no : false ≡ true = is in cc)
both false b is = (refl, is)

module _ (target : Target) (setting : Setting) (optimistic : setting.reclamation ≡ Optimistic) (seen : EventsAreSeen target setting) (shaped : (state : CoreState) → IsSound target setting state → IsShaped target setting state)
    (keeps : (state later : CoreState) (event : CoreEvent) → IsSound target setting state → core_event target setting state event ≡ Some later → IsSound target setting later) (c : ℕ) where
  pub stays_on : (events : List CoreEvent) (state later : CoreState) → Stays target setting state c → core_run target setting events state ≡ Some later → begins_none target setting c events state ≡ true → Stays target setting later c
  stays_on [] state later s runs none = subst (λ (i : CoreState). Stays target setting i c) (let same : state ≡ later = cc in same) s
  stays_on (event ∷ events) state later s runs none =
      let parts = both (begins_run target (view setting state) c event) (on_state (core_event target setting state event) (begins_none target setting c events)) none in
      of (stays_on events) (core_event target setting state event) refl parts.0 runs parts.1 where
        of : ((next last : CoreState) → Stays target setting next c → core_run target setting events next ≡ Some last → begins_none target setting c events next ≡ true → Stays target setting last c)
            → (o : Option CoreState) → core_event target setting state event ≡ o → begins_run target (view setting state) c event ≡ false
            → run_on o (core_run target setting events) ≡ Some later → on_state o (begins_none target setting c events) ≡ true → Stays target setting later c
        of more None at goes runs rest = absurd (let no : None ≡ Some later = runs in cc)
        of more (Some next) at goes runs rest = more next later (record {
          sound = keeps state next event s.sound at;
          below = below_on target setting optimistic (view setting state) (view setting next) c event (λ d lt. belongs_seen target setting state d s.sound lt) (seen.moves state next event (shaped state s.sound) at) goes s.below;
        }) runs rest

-- ---- checks

fails_below : (target : Target) (setting : Setting) (e : Entry) (word : ℕ) → setting.reclamation ≡ Optimistic → e.routine ≡ At → instr_in target e ≡ Some Check → word ≢ e.hand.seen → after target setting e word ≡ (check_failed target setting.sizes word (counted e)).entry
fails_below target setting e word optimistic at is ne =
    after_is target setting e word optimistic
    ∙ (ap (λ (r : Routine). (accepted Optimistic target setting word (counted e) r).entry) at
    ∙ (ap (λ (o : Option TargetInstr). (instr_accepted Optimistic target setting.sizes o word (counted e)).entry) is
    ∙ ap (λ (b : Bool). (if b then check_passed target setting.sizes (counted e) else check_failed target setting.sizes word (counted e)).entry) (let test : (word == e.hand.seen) ≡ false = grind (arith, nat_tests, ne) in test)))

finds_warning : (target : Target) (e : Entry) (a : WordAccess) → e.routine ≡ At → instr_in target e ≡ Some Check → wants target e ≡ Some a → Loads (Warning e.number) ≡ a
unfolding wants
finds_warning target e a at is want =
    let wanted_is : Some (Loads (Warning e.number)) ≡ Some a = sym (ap (λ (r : Routine). wanted target e r) at ∙ ap (λ (o : Option TargetInstr). instr_wanted target.fields e.number o e.hand.registers) is) ∙ want in cc

pub warned_fails : (target : Target) (setting : Setting) (state : CoreState) (c : ℕ) → setting.reclamation ≡ Optimistic → c < setting.sizes.callers → Stays target setting state c → IsWarned target setting (view setting state) c
warned_fails target setting state c optimistic lt s = record {
  differs = differs;
  fails = λ a at is want.
      (let loads : Loads (Warning ((view setting state).who c).number) ≡ a = finds_warning target ((view setting state).who c) a at is want in
      let word : (view setting state).memory (word_of a) ≡ (view setting state).memory (Warning c) =
      ap (λ (b : WordAccess). (view setting state).memory (word_of b)) (sym loads) ∙ ap (λ (i : ℕ). (view setting state).memory (Warning i)) number in
      fails_below target setting ((view setting state).who c) ((view setting state).memory (word_of a)) optimistic at is (λ z. differs (sym word ∙ z)));
} where
  differs : (view setting state).memory (Warning c) ≢ ((view setting state).who c).hand.seen
  differs z = let below = s.below in let no : ⊥ = omega (arith, below, z) in no

  number : ((view setting state).who c).number ≡ c
  number = of (slice_get state.entries c) refl where
    of : (o : Option Entry) → slice_get state.entries c ≡ o → (unwrap_or o (idle_entry c)).number ≡ c
    of None is = refl
    of (Some e) is = (s.sound.belong c e is).1
