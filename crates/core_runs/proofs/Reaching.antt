-- Events one after another.
use Rattle.std.proofs.Common.{◌≡◌, ◌⊎◌, inl, inr, true, List, [], ◌∷◌, ◌++◌, Option, Some, None, refl, sym, ap, ◌∙◌, subst}
use Rattle.target_code.specs.declared.target.Target.{Target}
use Rattle.caller_parts.specs.Settings.{Setting}
use Rattle.core_runs.specs.Machine.{CoreState, CoreEvent, core_event, core_run, run_on, core_start, Reachable, OneMore, EventsLead, OfAll}

pub some_is : (a b : CoreState) → Some a ≡ Some b → a ≡ b
some_is a b e = cc

-- events, and then more
pub run_both : (target : Target) (setting : Setting) (events more : List CoreEvent) (first mid : CoreState) → core_run target setting events first ≡ Some mid
    → core_run target setting (events ++ more) first ≡ core_run target setting more mid
run_both target setting [] more first mid runs = ap (core_run target setting more) (some_is first mid runs)
run_both target setting (x ∷ events) more first mid runs = of (λ next r. run_both target setting events more next mid r) (core_event target setting first x) runs where
  of : ((next : CoreState) → core_run target setting events next ≡ Some mid → core_run target setting (events ++ more) next ≡ core_run target setting more mid)
      → (o : Option CoreState) → run_on o (core_run target setting events) ≡ Some mid → run_on o (core_run target setting (events ++ more)) ≡ core_run target setting more mid
  of further None r = absurd (let z : None ≡ Some mid = r in cc)
  of further (Some next) r = further next r

run_one : (target : Target) (setting : Setting) (event : CoreEvent) (state later : CoreState) → core_event target setting state event ≡ Some later → core_run target setting (event ∷ []) state ≡ Some later
run_one target setting event state later goes = ap (λ (o : Option CoreState). run_on o (core_run target setting [])) goes

pub run_more : (target : Target) (setting : Setting) (events : List CoreEvent) (event : CoreEvent) (first mid later : CoreState) → core_run target setting events first ≡ Some mid
    → core_event target setting mid event ≡ Some later → core_run target setting (events ++ event ∷ []) first ≡ Some later
run_more target setting events event first mid later runs goes = run_both target setting events (event ∷ []) first mid runs ∙ run_one target setting event mid later goes

pub starts : (target : Target) (setting : Setting) → Reachable target setting (core_start target setting)
starts target setting = record { events = []; runs = refl }

pub reaches : (target : Target) (setting : Setting) (state later : CoreState) (event : CoreEvent) → Reachable target setting state → core_event target setting state event ≡ Some later
    → Reachable target setting later
reaches target setting state later event r goes =
    record { events = r.events ++ event ∷ []; runs = run_more target setting r.events event (core_start target setting) state later r.runs goes }

-- what holds at the start and is kept by each enabled event, from a state on
holds_on : (target : Target) (setting : Setting) (Holds : CoreState → Type 0)
    → ((state later : CoreState) (event : CoreEvent) → Holds state → core_event target setting state event ≡ Some later → Holds later)
    → (events : List CoreEvent) (first state : CoreState) → Holds first → core_run target setting events first ≡ Some state → Holds state
holds_on target setting Holds keeps [] first state held runs = subst Holds (some_is first state runs) held
holds_on target setting Holds keeps (event ∷ events) first state held runs =
    of (λ next h r. holds_on target setting Holds keeps events next state h r) (core_event target setting first event) refl runs where
      of : ((next : CoreState) → Holds next → core_run target setting events next ≡ Some state → Holds state)
          → (o : Option CoreState) → core_event target setting first event ≡ o → run_on o (core_run target setting events) ≡ Some state → Holds state
      of further None goes r = absurd (let z : None ≡ Some state = r in cc)
      of further (Some next) goes r = further next (keeps first next event held goes) r

pub induct : (target : Target) (setting : Setting) (Holds : CoreState → Type 0) → Holds (core_start target setting)
    → ((state later : CoreState) (event : CoreEvent) → Holds state → core_event target setting state event ≡ Some later → Holds later)
    → (state : CoreState) → Reachable target setting state → Holds state
induct target setting Holds first keeps state r = holds_on target setting Holds keeps r.events (core_start target setting) state first r.runs

-- and with the knowledge that each state on the way is reachable
pub induct_reached : (target : Target) (setting : Setting) (Holds : CoreState → Type 0) → Holds (core_start target setting)
    → ((state later : CoreState) (event : CoreEvent) → Reachable target setting state → Holds state → core_event target setting state event ≡ Some later → Holds later)
    → (state : CoreState) → Reachable target setting state → Holds state
induct_reached target setting Holds first keeps state r =
    (induct target setting (λ s. Reachable target setting s × Holds s) (starts target setting, first)
    (λ now later event held goes. (reaches target setting now later event held.0 goes, keeps now later event held.0 held.1 goes)) state r).1

came : (target : Target) (setting : Setting) (state : CoreState) → Reachable target setting state → (state ≡ core_start target setting) ⊎ OneMore target setting state
came target setting state r =
    induct_reached target setting (λ s. (s ≡ core_start target setting) ⊎ OneMore target setting s) (inl refl)
    (λ now later event reached held goes. inr (record { before = now; event = event; reachable = reached; leads = goes })) state r

goes_there : (target : Target) (setting : Setting) (state : CoreState) → (state ≡ core_start target setting) ⊎ OneMore target setting state → Reachable target setting state
goes_there target setting state (inl is) = subst (Reachable target setting) (sym is) (starts target setting)
goes_there target setting state (inr one) = reaches target setting one.before state one.event one.reachable one.leads

pub events_lead : OfAll EventsLead
events_lead target setting = record {
  reach = λ state. (came target setting state, goes_there target setting state);
  holds = λ test first keeps state r. induct target setting (λ s. test s ≡ true) first keeps state r;
}
