-- That an answer tells one condition and one place.
use Rattle.std.proofs.Common.{ℕ, ◌+◌, ◌<◌, ◌≤◌, ◌≡◌, ◌∙◌, true, false, Bool, List, take, Some, refl, sym, subst, ⊎_elim, arith}
use Rattle.std.proofs.lemmas.Bool.{cases_lt}
use Rattle.norm_lang.specs.declared.text.Text.{Text}
use Rattle.source_machine.specs.declared.event.SourceEvent.{SourceEvent}
use Rattle.source_machine.specs.declared.state.SourceMachine.{SourceMachine}
use Rattle.source_machine.specs.Run.{IsSourceRun}
use Rattle.source_machine.specs.MethodRuns.{MethodRun, method_runs}
use Rattle.source_machine.specs.Proper.{IsProperState, has}
use Rattle.proper_judge.specs.declared.breach.Breach.{Breach}
use Rattle.proper_judge.specs.declared.breach.Breach.TheVariants.{Twice, Root, Got}
use Rattle.proper_judge.specs.Breaches.{IsBreach, IsRootBreach, AreRootsKept, number_of}
use Rattle.proper_judge.specs.Judging.{IsProperUpTo, IsBreachAfter}
use Rattle.proper_rows.specs.Conditions.{OneConditionIsFirst, OneAnswer}

both : (b : Bool) → b ≡ false → b ≡ true → ⊥
both b denied told = let e : true ≡ false = sym told ∙ denied in cc

-- a root leads to a retired node, and none does
lead_and_none : (state : SourceMachine) (name : ℕ) → IsRootBreach state name → AreRootsKept state → ⊥
lead_and_none state name b kept = both (has name state.memory.retired) (kept b.root name b.reference b.stands b.leads) b.retired

pub one_condition_is_first : OneConditionIsFirst
one_condition_is_first state runs Twice Twice b o = refl
one_condition_is_first state runs Twice (Root name) b o = absurd (b o.0)
one_condition_is_first state runs Twice (Got c name) b o = absurd (b o.0)
one_condition_is_first state runs (Root name) Twice b o = absurd (o b.0)
one_condition_is_first state runs (Root name) (Root other) b o = refl
one_condition_is_first state runs (Root name) (Got c other) b o = absurd (lead_and_none state name b.1 o.1)
one_condition_is_first state runs (Got c name) Twice b o = absurd (o b.0)
one_condition_is_first state runs (Got c name) (Root other) b o = absurd (lead_and_none state other o.1 b.1)
one_condition_is_first state runs (Got c name) (Got d other) b o = refl

-- a breach is none of a proper state
pub breach_breaks : (state : SourceMachine) (runs : ℕ → MethodRun) (breach : Breach) → IsBreach state runs breach → IsProperState state runs → ⊥
breach_breaks state runs Twice b proper = b proper.once
breach_breaks state runs (Root name) b proper = lead_and_none state name b.1 proper.roots
breach_breaks state runs (Got c name) b proper = both (has name (runs c).old) (proper.got c b.2.leads.0 name b.2.runs_on b.2.leads.1 b.2.leads.2) b.2.old

pub same_state : (text : Text) (callers : ℕ) (events : List SourceEvent) (a b : SourceMachine) → IsSourceRun text callers events a → IsSourceRun text callers events b → a ≡ b
same_state text callers events a b p q = let z : Some a ≡ Some b = sym p.runs ∙ q.runs in cc

-- two breaches after the same events
pub same_number : (text : Text) (callers : ℕ) (events : List SourceEvent) (breach other : Breach) → IsBreachAfter text callers events breach
    → IsBreachAfter text callers events other → number_of breach ≡ number_of other
same_number text callers events breach other b o =
    one_condition_is_first b.state (method_runs text callers events) breach other b.breaks
    (subst (λ (s : SourceMachine). IsBreach s (method_runs text callers events) other) (same_state text callers events o.state b.state o.run b.run) o.breaks)

-- no breach comes before another
not_before : (text : Text) (callers at place : ℕ) (events : List SourceEvent) (breach : Breach) → at < place → IsBreachAfter text callers (take (at + 1) events) breach
    → IsProperUpTo text callers events place → ⊥
not_before text callers at place events breach lt b proper =
    breach_breaks b.state (method_runs text callers (take (at + 1) events)) breach b.breaks (proper (at + 1) b.state (omega (arith, lt)) b.run)

one_place : (at place : ℕ) → (at < place → ⊥) → (place < at → ⊥) → at ≡ place
one_place at place a b =
    ⊎_elim
    (λ (lt : at < place). absurd (a lt))
    (λ (le : place ≤ at).
    ⊎_elim
    (λ (lt : place < at). absurd (b lt))
    (λ (ge : at ≤ place). omega (arith, le, ge))
    (cases_lt place at))
    (cases_lt at place)

pub one_answer : OneAnswer
one_answer text callers at place events breach other j k =
    let same : at ≡ place =
    one_place at place (λ lt. not_before text callers at place events breach lt j.0 k.1) (λ lt. not_before text callers place at events other lt k.0 j.1) in
    (same_number text callers (take (place + 1) events) breach other (subst (λ (n : ℕ). IsBreachAfter text callers (take (n + 1) events) breach) same j.0) k.0, same)
