-- What a caller's signs do to its own part of the source, the whole source does.
use Rattle.std.proofs.Common.{ℕ, ◌≡◌, ◌∙◌, true, false, List, Some, sym, ap, subst, refl, arith}
use Rattle.std.specs.Prelude.{slice_get}
use Rattle.norm_lang.specs.declared.text.Text.{Text}
use Rattle.norm_lang.specs.Limits.{IsWithinLimits}
use Rattle.norm_lang.specs.NormalForm.{IsNormal}
use Rattle.run_ahead.specs.TypedCallers.{IsTypedCaller}
use Rattle.run_ahead.proofs.TypedRuns.{callers_are_typed}
use Rattle.source_machine.specs.declared.event.SourceEvent.{SourceEvent}
use Rattle.source_machine.specs.declared.event.SourceEvent.TheVariants.{Restart}
use Rattle.source_machine.specs.declared.state.Memory.{Memory}
use Rattle.source_machine.specs.declared.state.SourceCaller.{SourceCaller}
use Rattle.source_machine.specs.declared.state.SourceMachine.{SourceMachine}
use Rattle.source_machine.specs.Run.{mover, is_enabled, is_enabled_for}
use Rattle.source_machine.specs.MethodRuns.{MethodRun, Watched, watched_start, watched_step, watched_run}
use Rattle.source_machine.specs.Proper.{runs_method, IsProperFor, IsProperState}
use Rattle.source_machine.proofs.Along.{source_run_more, watched_more, watched_machine}
use Rattle.caller_steps.specs.Signs.{Sign, Begins, Renews}
use Rattle.core_runs.specs.RunSigns.{signed}
use Rattle.oa_simulation.specs.sim_relation.Points.{event_of}
use Rattle.oa_simulation.specs.Shadow.{Shadow, is_told, shadow_step, shadow_run}
use Rattle.oa_simulation.specs.sim_relation.Points.{Point, Plays, done, makes, leaves_out, is_open, played, IsProperPoint, StaysProper}
use Rattle.oa_simulation.proofs.sim_steps.Turning.{Others, enabled_is, stepped}
use Rattle.oa_simulation.specs.Beside.{Sourced, Placed}

mover_is : (c u : ℕ) (sign : Sign) → mover (event_of c u sign) ≡ c
mover_is c u (Begins call) = refl
mover_is c u _ = refl

told_open : (sign : Sign) → is_told sign true ≡ true
told_open (Begins call) = refl
told_open _ = refl

-- the source after signs, and where their caller then stands
pub record Lifted (text : Text) (callers c : ℕ) (v : Watched) (q : Point) (z' : Shadow) : Type 0 where
  pub v' : Watched
  pub sourced : Sourced text callers z' v'
  pub placed : Placed v' z' c q
  pub others : Others v v' c

abbrev point_at : Watched → Shadow → ℕ → SourceCaller → Point
point_at v z c x = record { unused = z.unused; memory = v.machine.memory; caller = x; run = v.runs c }

point_is : (v : Watched) (z : Shadow) (c : ℕ) (p : Point) → Placed v z c p → point_at v z c p.caller ≡ p
point_is v z c p at =
    ap (λ (u : ℕ). let k : Point = record { unused = u; memory = v.machine.memory; caller = p.caller; run = v.runs c } in k) at.unused
    ∙ (ap (λ (m : Memory). let k : Point = record { unused = p.unused; memory = m; caller = p.caller; run = v.runs c } in k) at.memory
    ∙ ap (λ (r : MethodRun). let k : Point = record { unused = p.unused; memory = p.memory; caller = p.caller; run = r } in k) at.run)

pub machine_is : (text : Text) (callers : ℕ) (z : Shadow) (v : Watched) → Sourced text callers z v → v.machine ≡ z.machine
machine_is text callers z v s = ap (λ (u : Watched). u.machine) s.watched ∙ watched_machine text callers z.events z.machine s.run

open_at : (text : Text) (callers c : ℕ) (sign : Sign) (z : Shadow) (v : Watched) (x : SourceCaller) → Sourced text callers z v → slice_get v.machine.callers c ≡ Some x
    → is_open text c sign (point_at v z c x) → Lifted text callers c v (played text c sign (point_at v z c x)) (shadow_step text z (record { caller = c; sign = sign }))
open_at text callers c sign z v x s at open_ =
    let event : SourceEvent = event_of c z.unused sign in
    let machine = machine_is text callers z v s in
    let e : is_enabled text z.machine event ≡ true = subst (λ m. is_enabled text m event ≡ true) machine (enabled_is text v event c x true (mover_is c z.unused sign) at open_) in
    let k = stepped text v event c x (mover_is c z.unused sign) at in
    rw e (rw (told_open sign) (record {
      v' = watched_step text v event;
      sourced = record {
        run = source_run_more text callers z.events event z.machine s.run e;
        watched = ap (λ u. watched_step text u event) s.watched ∙ sym (watched_more text z.events event (watched_start text callers));
      };
      placed = record { caller = k.caller; memory = k.memory; run = k.run; unused = refl };
      others = k.others;
    }))

open_lifted : (text : Text) (callers c : ℕ) (sign : Sign) (z : Shadow) (v : Watched) (p : Point) → Sourced text callers z v → Placed v z c p → is_open text c sign p
    → Lifted text callers c v (played text c sign p) (shadow_step text z (record { caller = c; sign = sign }))
open_lifted text callers c sign z v p s at open_ =
    let same = point_is v z c p at in
    subst (λ (k : Point). Lifted text callers c v (played text c sign k) (shadow_step text z (record { caller = c; sign = sign }))) same
    (open_at text callers c sign z v p.caller s at.caller (subst (λ (k : Point). is_open text c sign k) (sym same) open_))

left_out : (text : Text) (c : ℕ) (z : Shadow) → is_enabled text z.machine (Restart c) ≡ false → shadow_step text z (record { caller = c; sign = Renews }) ≡ z
left_out text c z e = rw e refl

pub lift : (text : Text) (callers c : ℕ) (signs : List Sign) (p q : Point) → Plays text c signs p q → (z : Shadow) (v : Watched) → Sourced text callers z v → Placed v z c p
    → Lifted text callers c v q (shadow_run text (signed c signs) z)
lift text callers c signs p q (done k) z v s at = record { v' = v; sourced = s; placed = at; others = λ d ne. (refl, refl) }
lift text callers c signs p q (makes sign rest k l open_ plays) z v s at =
    let one = open_lifted text callers c sign z v k s at open_ in
    let more = lift text callers c rest (played text c sign k) l plays (shadow_step text z (record { caller = c; sign = sign })) one.v' one.sourced one.placed in
    record {
      v' = more.v';
      sourced = more.sourced;
      placed = more.placed;
      others = λ d ne. ((more.others d ne).0 ∙ (one.others d ne).0, (more.others d ne).1 ∙ (one.others d ne).1);
    }
lift text callers c signs p q (leaves_out rest k l shut plays) z v s at =
    let e : is_enabled text z.machine (Restart c) ≡ false =
    subst (λ m. is_enabled text m (Restart c) ≡ false) (machine_is text callers z v s)
    (enabled_is text v (Restart c) c k.caller false refl at.caller (subst (λ (m : Memory). is_enabled_for text (Restart c) (Some k.caller) m ≡ false) (sym at.memory) shut)) in
    subst (λ (y : Shadow). Lifted text callers c v l (shadow_run text (signed c rest) y)) (sym (left_out text c z e)) (lift text callers c rest k l plays z v s at)

-- a proper text makes each point proper
proper_at : (text : Text) (v : Watched) (z : Shadow) (c : ℕ) (x : SourceCaller) → IsProperState v.machine v.runs → IsTypedCaller text v.machine.memory.nodes x → slice_get v.machine.callers c ≡ Some x → IsProperPoint text (point_at v z c x)
proper_at text v z c x s kinds at = record {
  once = s.once;
  roots = s.roots;
  got = λ runs name other got reaches. s.got c name other (ap runs_method at ∙ runs) got reaches;
  kinds = kinds;
}

proper_point : (text : Text) (callers c : ℕ) (z : Shadow) (v : Watched) (p : Point) → IsNormal text → IsWithinLimits text → IsProperFor callers text → Sourced text callers z v → Placed v z c p → IsProperPoint text p
proper_point text callers c z v p normal within proper s at =
    let machine = machine_is text callers z v s in
    subst (IsProperPoint text) (point_is v z c p at)
    (proper_at text v z c p.caller (subst (λ (u : Watched). IsProperState u.machine u.runs) (sym s.watched)
    (subst (λ (m : SourceMachine). IsProperState m (watched_run text z.events (watched_start text callers)).runs) (sym (watched_machine text callers z.events z.machine s.run))
    (proper callers z.events z.machine (omega arith) s.run)))
    (subst (λ (m : SourceMachine). IsTypedCaller text m.memory.nodes p.caller) (sym machine)
    (callers_are_typed text normal within callers z.events z.machine s.run c p.caller (ap (λ (m : SourceMachine). slice_get m.callers c) (sym machine) ∙ at.caller))) at.caller)

pub stays_proper : (text : Text) (callers c : ℕ) (z : Shadow) (v : Watched) (p : Point) → IsNormal text → IsWithinLimits text → IsProperFor callers text → Sourced text callers z v → Placed v z c p → StaysProper text c p
stays_proper text callers c z v p normal within proper s at signs q plays =
    let l = lift text callers c signs p q plays z v s at in
    proper_point text callers c (shadow_run text (signed c signs) z) l.v' q normal within proper l.sourced l.placed
