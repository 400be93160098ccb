-- What the events of a run show.
use Rattle.std.proofs.Common.{ℕ, zero, suc, ◌+◌, ◌<◌, ◌≤◌, ◌≡◌, ◌∙◌, ◌++◌, true, false, List, [], ◌∷◌, length, take, get_or, replicate, Option, Some, None, sym, ap, refl, subst, ⊎_elim, arith}
use Rattle.std.specs.Prelude.{slice_get, IsSomeAnd}
use Rattle.std.proofs.lemmas.Bool.{cases_lt}
use Rattle.std.proofs.lemmas.List.{take_all, take_more, length-replicate}
use Rattle.std.proofs.lemmas.Option.{slice_get-get_or}
use Rattle.norm_lang.specs.declared.text.Text.{Text}
use Rattle.source_machine.specs.declared.event.SourceEvent.{SourceEvent}
use Rattle.source_machine.specs.declared.state.SourceMachine.{SourceMachine}
use Rattle.source_machine.specs.State.{source_start}
use Rattle.source_machine.specs.Run.{mover, is_enabled, source_step, IsSourceRun}
use Rattle.source_machine.specs.MethodRuns.{MethodRun, Watched, watched_start, watched_step, method_runs}
use Rattle.source_machine.specs.Proper.{IsProperState, has}
use Rattle.source_machine.proofs.Along.{source_run_more, watched_more, watched_machine}
use Rattle.source_machine.proofs.Names.{untrue}
use Rattle.proper_judge.specs.declared.breach.Breach.{Breach}
use Rattle.proper_judge.specs.declared.breach.Breach.TheVariants.{Twice, Root, Got}
use Rattle.proper_judge.specs.declared.judging.SoFar.TheVariants.{Proper, Improper, NotEnabled}
use Rattle.proper_judge.specs.declared.event.Kept.{Kept}
use Rattle.proper_judge.specs.declared.event.Effect.{Effect}
use Rattle.proper_judge.specs.declared.event.Told.{Told}
use Rattle.proper_judge.specs.declared.event.Told.TheVariants as tolds
use Rattle.proper_judge.specs.declared.event.Told.TheVariants.{Made}
use Rattle.proper_judge.specs.declared.numbers.Numbers.{Numbers}
use Rattle.proper_judge.specs.Numbers.{numbering, retirement, is_second, with_retirement}
use Rattle.proper_judge.specs.Changes.{retired_by}
use Rattle.proper_judge.specs.Runs.{HoldsOf, Follows}
use Rattle.proper_judge.specs.Breaches.{IsTold, IsBreach, Shown}
use Rattle.proper_judge.specs.Events.{Keeps, is_made, breach_of, IsEffect, doubts_of, Settles, JudgesEvent}
use Rattle.proper_judge.specs.Judging.{IsFirstKept, IsProperUpTo, Judged, ImproperIsImproper}
use Rattle.proper_judge.proofs.Settling.{keeps, shown}

-- a breach is none of a proper state
pub breach_breaks : (state : SourceMachine) (runs : ℕ → MethodRun) (breach : Breach) → IsBreach state runs breach → IsProperState state runs → ⊥
breach_breaks state runs Twice b proper = b proper.once
breach_breaks state runs (Root name) b proper = untrue (has name state.memory.retired) (proper.roots b.1.root name b.1.reference b.1.stands b.1.leads) b.1.retired
breach_breaks state runs (Got c name) b proper = untrue (has name (runs c).old) (proper.got c b.2.leads.0 name b.2.runs_on b.2.leads.1 b.2.leads.2) b.2.old

pub improper_is_improper : ImproperIsImproper
improper_is_improper text callers at events breach judged proper =
    breach_breaks judged.0.state (method_runs text callers (take (at + 1) events)) breach judged.0.breaks (proper callers (take (at + 1) events) judged.0.state (omega arith) judged.0.run)

-- the method runs after one more event
runs_more : (text : Text) (callers : ℕ) (events : List SourceEvent) (event : SourceEvent) (state : SourceMachine) → IsSourceRun text callers events state
    → (watched_step text (record { machine = state; runs = method_runs text callers events }) event).runs ≡ method_runs text callers (events ++ event ∷ [])
runs_more text callers events event state run =
    sym (ap (λ (w : Watched). w.runs) (watched_more text events event (watched_start text callers))
    ∙ ap (λ (m : SourceMachine). (watched_step text (record { machine = m; runs = method_runs text callers events }) event).runs) (watched_machine text callers events state run))

same_state : (text : Text) (callers : ℕ) (events : List SourceEvent) (a b : SourceMachine) → IsSourceRun text callers events a → IsSourceRun text callers events b → a ≡ b
same_state text callers events a b p q = let z : Some a ≡ Some b = sym p.runs ∙ q.runs in cc

-- ---- one event

-- what was found of an event
pub judges : (text : Text) (event : SourceEvent) (old new : SourceMachine) (kept kept' : Kept) (effect : Effect) (found : Option Breach)
    → is_enabled text old event ≡ true → new ≡ source_step text old event → length new.callers ≡ length old.callers
    → IsEffect text event old (numbering kept.retirements) effect → Settles new (mover event) effect kept kept' found → JudgesEvent text event old new kept kept' (Made found)
judges text event old new kept kept' effect found enabled stepped many e s =
    record {
      enabled = enabled;
      stepped = stepped;
      judged = λ runs k proper.
          (keeps text event old new kept kept' effect found enabled stepped many e s runs k proper, shown text event old new kept kept' effect found enabled stepped many e s runs k proper);
    }

-- the same, of what is read
pub judges_read : (text t : Text) (event : SourceEvent) (old m0 new m : SourceMachine) (c : ℕ) (kept between kept' : Kept) (effect : Effect) (found : Option Breach)
    → t ≡ text → m0 ≡ old → m ≡ new → c ≡ mover event → between.runs.items ≡ kept.runs.items → between.retirements ≡ kept.retirements
    → is_enabled text old event ≡ true → new ≡ source_step text old event → length new.callers ≡ length old.callers
    → IsEffect t event m0 (numbering kept.retirements) effect → Settles m c effect between kept' found → JudgesEvent text event old new kept kept' (Made found)
judges_read text t event old m0 new m c kept between kept' effect found lang first read own runs numbers enabled stepped many e s =
    judges text event old new kept kept' effect found enabled stepped many
    (subst (λ x. IsEffect x event old (numbering kept.retirements) effect) lang (subst (λ x. IsEffect t event x (numbering kept.retirements) effect) first e))
    (subst (λ x. Settles new x effect kept kept' found) own (subst (λ x. Settles x c effect kept kept' found) read (record {
      numbers = subst (λ (x : Numbers). (name : ℕ) → numbering kept'.retirements name ≡ with_retirement (numbering x) (retired_by effect.change) (length m.memory.retired) name) numbers s.numbers;
      added = s.added;
      follows = subst (λ x. Follows effect.gain m c x kept'.runs.items s.added) runs s.follows;
      told = subst (λ (x : Numbers). IsTold (doubts_of effect (is_second (numbering x) (retired_by effect.change))) (numbering kept'.retirements) m kept'.runs.items c s.added found) numbers s.told;
    })))

-- ---- along the events

pub record Along (text : Text) (callers : ℕ) (events : List SourceEvent) (at : ℕ) (state : SourceMachine) (kept : Kept) : Type 0 where
  pub run : IsSourceRun text callers (take at events) state
  pub keeps : Keeps state kept (method_runs text callers (take at events))
  pub proper : IsProperUpTo text callers events at

first_holds : (n c : ℕ) → HoldsOf [] (slice_get (replicate n (record { got = []; before = 0 })) c) (record { got = []; old = [] })
first_holds zero c = tt
first_holds (suc n) zero = record { got = λ name. refl; near = omega arith; old = refl }
first_holds (suc n) (suc c) = first_holds n c

pub along_start : (text : Text) (callers : ℕ) (events : List SourceEvent) (state : SourceMachine) (kept : Kept) → 1 ≤ callers → state ≡ source_start text callers
    → IsFirstKept callers kept → length state.callers ≡ callers → Along text callers events 0 state kept
along_start text callers events state kept some first is many = record {
  run = record { some = some; runs = ap Some (sym first) };
  keeps = record {
    retirements = λ name. is.retirements name ∙ sym (ap (λ (s : SourceMachine). retirement s.memory.retired name) first);
    holds = λ c. subst (λ ks. HoldsOf state.memory.retired (slice_get ks c) (record { got = []; old = [] })) (sym is.runs)
        (subst (λ (s : SourceMachine). HoldsOf s.memory.retired (slice_get (replicate callers (record { got = []; before = 0 })) c) (record { got = []; old = [] })) (sym first) (first_holds callers c));
    many = ap length is.runs ∙ (length-replicate callers (record { got = []; before = 0 }) ∙ sym many);
  };
  proper = λ k s le run. of k s (let z : k ≡ 0 = omega (arith, le) in z) run;
} where
  start_proper : IsProperState (source_start text callers) (λ c. record { got = []; old = [] })
  start_proper = record { once = tt; roots = λ x other reference stands reaches. refl; got = λ c name other on gets reaches. refl }

  of : (k : ℕ) (s : SourceMachine) → k ≡ 0 → IsSourceRun text callers (take k events) s → IsProperState s (method_runs text callers (take k events))
  of zero s z run = subst (λ t. IsProperState t (λ c. record { got = []; old = [] })) (let same : Some (source_start text callers) ≡ Some s = run.runs in cc) start_proper
  of (suc k) s z run = absurd (let no : ⊥ = omega (arith, z) in no)

module _ (text : Text) (callers at : ℕ) (events : List SourceEvent) (d : SourceEvent) (old new : SourceMachine) (kept kept' : Kept) (lt : at < length events)
    (a : Along text callers events at old kept) where
  now_proper : IsProperState old (method_runs text callers (take at events))
  now_proper = a.proper at old (omega arith) a.run

  runs_on : (found : Option Breach) → JudgesEvent text (get_or events at d) old new kept kept' (Made found) → IsSourceRun text callers (take (at + 1) events) new
  runs_on found j =
      subst (λ es. IsSourceRun text callers es new) (sym (take_more events at d lt))
      (subst (IsSourceRun text callers (take at events ++ get_or events at d ∷ [])) (sym j.stepped) (source_run_more text callers (take at events) (get_or events at d) old a.run j.enabled))

  runs_are : (watched_step text (record { machine = old; runs = method_runs text callers (take at events) }) (get_or events at d)).runs ≡ method_runs text callers (take (at + 1) events)
  runs_are = runs_more text callers (take at events) (get_or events at d) old a.run ∙ ap (method_runs text callers) (sym (take_more events at d lt))

  shown_on : (found : Option Breach) → JudgesEvent text (get_or events at d) old new kept kept' (Made found)
      → Keeps new kept' (method_runs text callers (take (at + 1) events)) × Shown new (method_runs text callers (take (at + 1) events)) found
  shown_on found j = subst (λ runs. Keeps new kept' runs × Shown new runs found) runs_are (j.judged (method_runs text callers (take at events)) a.keeps now_proper)

  pub along_next : JudgesEvent text (get_or events at d) old new kept kept' (Made None) → Along text callers events (at + 1) new kept'
  along_next j = record {
    run = runs_on None j;
    keeps = (shown_on None j).0;
    proper = λ k s le run. ⊎_elim
        (λ (less : k < at + 1). a.proper k s (omega (arith, less)) run)
        (λ (more : at + 1 ≤ k). of k s (let z : k ≡ at + 1 = omega (arith, le, more) in z) run)
        (cases_lt k (at + 1));
  } where
    of : (k : ℕ) (s : SourceMachine) → k ≡ at + 1 → IsSourceRun text callers (take k events) s → IsProperState s (method_runs text callers (take k events))
    of k s z run =
        subst (λ j. IsProperState s (method_runs text callers (take j events))) (sym z)
        (subst (λ t. IsProperState t (method_runs text callers (take (at + 1) events)))
        (same_state text callers (take (at + 1) events) new s (runs_on None j) (subst (λ j. IsSourceRun text callers (take j events) s) z run))
        (shown_on None j).1)

  pub along_breach : (breach : Breach) → JudgesEvent text (get_or events at d) old new kept kept' (Made (Some breach)) → Judged text callers events (Improper breach at)
  along_breach breach j = (record { state = new; run = runs_on (Some breach) j; breaks = (shown_on (Some breach) j).1 }, a.proper)

  pub along_stop : JudgesEvent text (get_or events at d) old new kept kept' tolds.NotEnabled → Judged text callers events (NotEnabled at)
  along_stop e = (record { state = old; run = a.run; refused = subst (λ o. IsSomeAnd o (λ x. is_enabled text old x ≡ false)) (sym (slice_get-get_or events at d lt)) e }, a.proper)

  -- the same, of what was told
  pub stop_told : (told : Told) → is_made told ≡ false → JudgesEvent text (get_or events at d) old new kept kept' told → Judged text callers events (NotEnabled at)
  stop_told tolds.NotEnabled e j = along_stop j
  stop_told (Made found) e j = absurd (let z : true ≡ false = e in cc)

  pub breach_told : (told : Told) (breach : Breach) → breach_of told ≡ Some breach → JudgesEvent text (get_or events at d) old new kept kept' told → Judged text callers events (Improper breach at)
  breach_told tolds.NotEnabled breach e j = absurd (let z : None ≡ Some breach = e in cc)
  breach_told (Made found) breach e j = along_breach breach (subst (λ o. JudgesEvent text (get_or events at d) old new kept kept' (Made o)) e j)

  pub next_told : (told : Told) → is_made told ≡ true → breach_of told ≡ None → JudgesEvent text (get_or events at d) old new kept kept' told → Along text callers events (at + 1) new kept'
  next_told tolds.NotEnabled m e j = absurd (let z : false ≡ true = m in cc)
  next_told (Made found) m e j = along_next (subst (λ o. JudgesEvent text (get_or events at d) old new kept kept' (Made o)) e j)

pub along_end : (text : Text) (callers : ℕ) (events : List SourceEvent) (state : SourceMachine) (kept : Kept) → Along text callers events (length events) state kept → Judged text callers events Proper
along_end text callers events state kept a =
    let whole : take (length events) events ≡ events = take_all (length events) events (omega arith) in
    ((state, subst (λ es. IsSourceRun text callers es state) whole a.run), a.proper)
