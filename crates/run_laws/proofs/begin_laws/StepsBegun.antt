-- What a step under optimistic access makes of the calls that an entry has begun.
use Rattle.std.proofs.Common.{◌≡◌, ◌==◌, ℕ, Bool, true, false, List, [], ◌∷◌, ◌++◌, map, refl, sym, ap, ◌∙◌, subst, ⊎_elim, arith, if◌then◌else◌}
use Rattle.std.proofs.lemmas.Bool.Decides.{nat_tests}
use Rattle.std.proofs.lemmas.List.{map-append, append-nil}
use Rattle.target_code.specs.declared.target.Target.{Target}
use Rattle.caller_parts.specs.declared.call.Call.{Call}
use Rattle.caller_parts.specs.declared.call.Replied.{Replied}
use Rattle.caller_parts.specs.declared.call.Running.{Running}
use Rattle.caller_parts.specs.Pairing.{replied_by}
use Rattle.caller_parts.specs.Settings.{Setting}
use Rattle.caller_steps.specs.Entries.{Entry, one_more, is_idle}
use Rattle.caller_steps.specs.After.{after, taken, counted, signs}
use Rattle.core_runs.specs.Advances.{RunsOn, Ends}
use Rattle.core_runs.proofs.Turning.{after_turns}
use Rattle.run_laws.specs.begin_laws.Begins.{call_replied, started_of, started}
use Rattle.run_laws.proofs.begin_laws.EventsBegun.{BeginsBy}
use Rattle.run_laws.proofs.begin_laws.SignsBegun.{begun, waits, never_waits, begins_waiting, after_starts}
use Rattle.caller_parts.specs.declared.setting.Reclamation.{Reclamation}
use Rattle.caller_parts.specs.declared.setting.Reclamation.TheVariants.{Optimistic}
use Rattle.oa_simulation.proofs.sim_relation.Schemes.{NeverAnnounces, taken_is}

-- a call that runs waits for its first step exactly if none was made for it, and its caller announces nothing
abbrev pub Counts : Entry → Type 0
Counts e = is_idle e.routine ≡ false → (waits Optimistic e.routine ≡ (e.running.steps == 0)) × NeverAnnounces e.routine

-- ---- one caller

more_than_none : (n : ℕ) → (one_more n == 0) ≡ false
more_than_none n = grind (arith, nat_tests)

abbrev call_if : Bool → Call → List Call
call_if b call = if b then call ∷ [] else []

-- a call that runs has begun after a step
after_started : (target : Target) (setting : Setting) (e : Entry) (w : ℕ) → is_idle e.routine ≡ false → started (after target setting e w) ≡ map call_replied e.replies ++ e.running.call ∷ []
after_started target setting e w busy =
    let e' : Entry = after target setting e w in
    let kept : List Call = map call_replied e.replies in
    ⊎_elim
    (λ (t : RunsOn (counted e) e'). ap (λ (b : Bool). map call_replied e'.replies ++ started_of b e'.running) t.0
    ∙ (ap (λ (l : List Replied). map call_replied l ++ started_of false e'.running) t.1
    ∙ (ap (λ (r : Running). kept ++ started_of false r) t.2 ∙ ap (λ (b : Bool). kept ++ (if b then [] else e.running.call ∷ [])) (more_than_none e.running.steps))))
    (λ (t : Ends (counted e) e'). ap (λ (b : Bool). map call_replied e'.replies ++ started_of b e'.running) t.1
    ∙ (append-nil (map call_replied e'.replies) ∙ (ap (map call_replied) t.2 ∙ map-append call_replied e.replies (replied_by t.0 (counted e).running ∷ []))))
    (after_turns target setting e w busy)

-- and before it has begun unless it waits for its first step
before_started : (e : Entry) → is_idle e.routine ≡ false → (b : Bool) → (e.running.steps == 0) ≡ b → started e ++ call_if b e.running.call ≡ map call_replied e.replies ++ e.running.call ∷ []
before_started e busy true none = ap (λ (i : Bool). (map call_replied e.replies ++ started_of i e.running) ++ e.running.call ∷ []) busy
    ∙ (ap (λ (b : Bool). (map call_replied e.replies ++ (if b then [] else e.running.call ∷ [])) ++ e.running.call ∷ []) none
    ∙ ap (λ (l : List Call). l ++ e.running.call ∷ []) (append-nil (map call_replied e.replies)))
before_started e busy false some = append-nil (started e) ∙ (ap (λ (i : Bool). map call_replied e.replies ++ started_of i e.running) busy
    ∙ ap (λ (b : Bool). map call_replied e.replies ++ (if b then [] else e.running.call ∷ [])) some)

step_started : (target : Target) (setting : Setting) (e : Entry) (w : ℕ) → is_idle e.routine ≡ false → Counts e → started (after target setting e w) ≡ started e ++ begun (signs target setting e w)
step_started target setting e w busy counts =
    after_started target setting e w busy
    ∙ sym (ap (λ (l : List Call). started e ++ l) ((after_starts target setting e w).0 ∙ ap (λ (b : Bool). call_if b e.running.call) (begins_waiting e.routine (counts busy).1 ∙ (counts busy).0))
    ∙ before_started e busy (e.running.steps == 0) refl)

step_counts : (target : Target) (setting : Setting) (e : Entry) (w : ℕ) → setting.reclamation ≡ Optimistic → is_idle e.routine ≡ false → Counts e → Counts (after target setting e w)
step_counts target setting e w optimistic busy counts runs =
    let e' : Entry = after target setting e w in
    let on : waits Optimistic e'.routine ≡ false = sym (ap (λ (by : Reclamation). waits by e'.routine) optimistic) ∙ (after_starts target setting e w).1 (counts busy).1 in
    ⊎_elim
    (λ (t : RunsOn (counted e) e'). (on ∙ sym (ap (λ (r : Running). r.steps == 0) t.2 ∙ more_than_none e.running.steps), never_waits e'.routine on))
    (λ (t : Ends (counted e) e'). absurd (let z : true ≡ false = sym t.1 ∙ runs in cc))
    (after_turns target setting e w busy)

-- a caller that takes a call has begun nothing by that
take_started : (setting : Setting) (e : Entry) (call : Call) → setting.reclamation ≡ Optimistic → is_idle e.routine ≡ true → started (taken setting.reclamation call e) ≡ started e
take_started setting e call optimistic idle = ap started (taken_is setting call e optimistic) ∙ sym (ap (λ (i : Bool). map call_replied e.replies ++ started_of i e.running) idle)

take_counts : (setting : Setting) (e : Entry) (call : Call) → setting.reclamation ≡ Optimistic → Counts (taken setting.reclamation call e)
take_counts setting e call optimistic = subst Counts (sym (taken_is setting call e optimistic)) (λ busy. (refl, λ announcing is. cc))

-- both, along a run
pub begins_by : (target : Target) (setting : Setting) → setting.reclamation ≡ Optimistic → BeginsBy target setting Counts started
begins_by target setting optimistic = record {
  steps_known = λ e word busy counts. step_counts target setting e word optimistic busy counts;
  steps_started = λ e word busy counts. step_started target setting e word busy counts;
  takes_known = λ e call idle. take_counts setting e call optimistic;
  takes_started = λ e call idle. take_started setting e call optimistic idle;
  first_known = λ c busy. absurd (let z : true ≡ false = busy in cc);
  first_started = λ c. refl;
}
