-- Several steps of one caller.
use Rattle.std.proofs.Common.{◌≡◌, ◌⊎◌, inl, inr, ⊎_elim, ℕ, true, false, List, [], ◌∷◌, ◌++◌, sym, ap, ◌∙◌, subst}
use Rattle.target_code.specs.declared.target.Target.{Target}
use Rattle.caller_parts.specs.declared.call.Replied.{Replied}
use Rattle.caller_parts.specs.declared.call.Running.{Running}
use Rattle.caller_parts.specs.Pairing.{replied_by}
use Rattle.caller_parts.specs.Settings.{Setting}
use Rattle.caller_steps.specs.Entries.{Entry, is_idle}
use Rattle.caller_steps.specs.After.{after, counted}
use Rattle.core_runs.specs.Machine.{OfAll}
use Rattle.core_runs.specs.Advances.{Advances, counted_on, RunsOn, Ends, Stays, Stops, RunsEnd}
use Rattle.core_runs.proofs.Turning.{after_turns, after_number}

pub advances_more : (target : Target) (setting : Setting) (e0 e : Entry) (ws : List ℕ) (w : ℕ) → Advances target setting e0 ws e → is_idle e.routine ≡ false
    → Advances target setting e0 (ws ++ w ∷ []) (after target setting e w)
advances_more target setting e0 e [] w h busy = (ap (λ (x : Entry). is_idle x.routine) (sym h) ∙ busy, ap (λ (x : Entry). after target setting x w) h)
advances_more target setting e0 e (x ∷ xs) w h busy = (h.0, advances_more target setting (after target setting e0 x) e xs w h.1 busy)

pub advances_number : (target : Target) (setting : Setting) (e e' : Entry) (ws : List ℕ) → Advances target setting e ws e' → e'.number ≡ e.number
advances_number target setting e e' [] h = ap (λ (x : Entry). x.number) h
advances_number target setting e e' (w ∷ ws) h = advances_number target setting (after target setting e w) e' ws h.1 ∙ after_number target setting e w

one_step : (target : Target) (setting : Setting) (e : Entry) (w : ℕ) → is_idle e.routine ≡ false → Stays e (w ∷ []) (after target setting e w) ⊎ Stops e (w ∷ []) (after target setting e w)
one_step target setting e w busy =
    let e' : Entry = after target setting e w in
    ⊎_elim
    (λ (t : RunsOn (counted e) e'). inl (record { busy = t.0; replies = t.1; running = t.2 }))
    (λ (t : Ends (counted e) e'). inr (record { idle = t.1; reply = t.0; replies = t.2 ∙ ap (λ (r : Running). e.replies ++ replied_by t.0 r ∷ []) (sym t.3); running = t.3 }))
    (after_turns target setting e w busy)

stays_then : (e mid e' : Entry) (w : ℕ) (ws : List ℕ) → Stays e (w ∷ []) mid → Stays mid ws e' ⊎ Stops mid ws e' → Stays e (w ∷ ws) e' ⊎ Stops e (w ∷ ws) e'
stays_then e mid e' w ws h r =
    let on : record mid.running { steps = counted_on mid.running.steps ws } ≡ record e.running { steps = counted_on e.running.steps (w ∷ ws) }
    = ap (λ (x : Running). record x { steps = counted_on x.steps ws }) h.running in
    ⊎_elim
    (λ (t : Stays mid ws e'). inl (record { busy = t.busy; replies = t.replies ∙ h.replies; running = t.running ∙ on }))
    (λ (t : Stops mid ws e'). inr (record { idle = t.idle; reply = t.reply; replies = t.replies ∙ ap (λ (l : List Replied). l ++ replied_by t.reply e'.running ∷ []) h.replies; running = t.running ∙ on }))
    r

none_after : (e : Entry) → is_idle e.routine ≡ true → is_idle e.routine ≡ false → ⊥
none_after e idle busy = let no : true ≡ false = sym idle ∙ busy in cc

all_end : (target : Target) (setting : Setting) (e e' : Entry) (ws : List ℕ) → is_idle e.routine ≡ false → Advances target setting e ws e' → Stays e ws e' ⊎ Stops e ws e'
all_end target setting e e' [] busy h =
    inl (record { busy = ap (λ (x : Entry). is_idle x.routine) h ∙ busy; replies = ap (λ (x : Entry). x.replies) h; running = ap (λ (x : Entry). x.running) h })
all_end target setting e e' (w ∷ []) busy h = subst (λ (x : Entry). Stays e (w ∷ []) x ⊎ Stops e (w ∷ []) x) (sym h.1) (one_step target setting e w busy)
all_end target setting e e' (w ∷ v ∷ ws) busy h =
    let mid = after target setting e w in
    ⊎_elim
    (λ (t : Stays e (w ∷ []) mid). stays_then e mid e' w (v ∷ ws) t (all_end target setting mid e' (v ∷ ws) t.busy h.1))
    (λ (t : Stops e (w ∷ []) mid). absurd (none_after mid t.idle h.1.0))
    (one_step target setting e w busy)

pub runs_end : OfAll RunsEnd
runs_end target setting = record {
  one = λ e word busy. after_turns target setting e word busy;
  all = λ e e' ws busy h. all_end target setting e e' ws busy h;
  number = λ e word. after_number target setting e word;
}
