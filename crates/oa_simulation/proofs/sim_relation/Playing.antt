-- A caller's signs, played one after another.
use Rattle.std.proofs.Common.{ℕ, ◌≡◌, true, List, [], ◌∷◌, Some, refl, subst}
use Rattle.norm_lang.specs.declared.text.Text.{Text}
use Rattle.source_machine.specs.declared.event.SourceEvent.{SourceEvent}
use Rattle.source_machine.specs.declared.state.Memory.{Memory}
use Rattle.source_machine.specs.declared.state.SourceCaller.{SourceCaller}
use Rattle.source_machine.specs.Step.{caller_turn}
use Rattle.source_machine.specs.Run.{is_enabled_for}
use Rattle.source_machine.specs.MethodRuns.{MethodRun, run_after}
use Rattle.caller_steps.specs.Signs.{Sign}
use Rattle.oa_simulation.specs.sim_relation.Points.{Point, Plays, done, makes, event_of, unused_after, played}

-- memory, a caller and its method run are those of a turn
abbrev pub IsAfter : Memory → SourceCaller → MethodRun → Memory → SourceCaller → MethodRun → Type 0
IsAfter memory caller run memory' caller' run' = (memory' ≡ memory) × (caller' ≡ caller) × (run' ≡ run)

-- an event is enabled, and leads there
abbrev pub PlaysEvent : Text → SourceEvent → Memory → SourceCaller → MethodRun → Memory → SourceCaller → MethodRun → Type 0
PlaysEvent text event memory caller run memory' caller' run' =
    (is_enabled_for text event (Some caller) memory ≡ true)
    × IsAfter (caller_turn text event memory caller).memory (caller_turn text event memory caller).caller (run_after text event memory caller run) memory' caller' run'

abbrev pub point_of : ℕ → Memory → SourceCaller → MethodRun → Point
point_of unused memory caller run = record { unused = unused; memory = memory; caller = caller; run = run }

pub points_same : (p q : Point) → q.unused ≡ p.unused → q.memory ≡ p.memory → q.caller ≡ p.caller → q.run ≡ p.run → q ≡ p
points_same p q unused memory caller run =
    subst (λ (u : ℕ). q ≡ point_of u p.memory p.caller p.run) unused
    (subst (λ (m : Memory). q ≡ point_of q.unused m p.caller p.run) memory
    (subst (λ (x : SourceCaller). q ≡ point_of q.unused q.memory x p.run) caller
    (subst (λ (r : MethodRun). q ≡ point_of q.unused q.memory q.caller r) run refl)))

-- no sign
pub plays_none : (text : Text) (c : ℕ) (p q : Point) → q ≡ p → Plays text c [] p q
plays_none text c p q same = subst (λ (from : Point). Plays text c [] from q) same (done q)

-- the first sign of several
pub plays_first : (text : Text) (c : ℕ) (sign : Sign) (signs : List Sign) (p q r : Point) → PlaysEvent text (event_of c p.unused sign) p.memory p.caller p.run q.memory q.caller q.run
    → q.unused ≡ unused_after sign p.unused → Plays text c signs q r → Plays text c (sign ∷ signs) p r
plays_first text c sign signs p q r event unused rest =
    makes sign signs p r event.0 (subst (λ (from : Point). Plays text c signs from r) (points_same (played text c sign p) q unused event.1.0 event.1.1 event.1.2) rest)

-- and the only one
pub plays_one : (text : Text) (c : ℕ) (sign : Sign) (p q : Point) → PlaysEvent text (event_of c p.unused sign) p.memory p.caller p.run q.memory q.caller q.run
    → q.unused ≡ unused_after sign p.unused → Plays text c (sign ∷ []) p q
plays_one text c sign p q event unused = plays_first text c sign [] p q q event unused (done q)

-- from where the signs begin
pub plays_from : (text : Text) (c : ℕ) (signs : List Sign) (p q r : Point) → q ≡ p → Plays text c signs q r → Plays text c signs p r
plays_from text c signs p q r same plays = subst (λ (from : Point). Plays text c signs from r) same plays
