-- Replies agree, from what is known of a caller: the source's replies are the entry's, or one more of the running call.
use Rattle.std.proofs.Common.{ℕ, ◌≡◌, ◌+◌, ◌∙◌, Bool, true, false, length, inl, inr, ap, subst, refl}
use Rattle.std.specs.Prelude.{nat_lt}
use Rattle.norm_lang.specs.Registers.{first_registers, with_count}
use Rattle.source_machine.specs.declared.state.SourceCaller.{SourceCaller}
use Rattle.caller_parts.specs.declared.routine.AfterRetire.TheVariants as onward
use Rattle.caller_parts.specs.declared.routine.AnnounceReason.{AnnounceReason}
use Rattle.caller_parts.specs.declared.routine.AnnounceReason.TheVariants.{Begin, Again, Swept}
use Rattle.caller_parts.specs.declared.routine.Announcing.{Announcing}
use Rattle.caller_parts.specs.declared.routine.Announcing.TheVariants as announces
use Rattle.caller_parts.specs.declared.routine.Routine.{Routine}
use Rattle.caller_parts.specs.declared.routine.Routine.TheVariants.{Idle, At, InList, Retires, Claims, Zeroes, Announces}
use Rattle.caller_parts.specs.Operands.{list_of}
use Rattle.caller_steps.specs.Entries.{is_idle, instr_in}
use Rattle.run_ahead.specs.Standing.{first_spot, run_from}
use Rattle.oa_simulation.specs.sim_relation.Callers.{replies_of, call_of}
use Rattle.oa_simulation.specs.sim_relation.Views.{Plan, Shared}
use Rattle.oa_simulation.proofs.Induction.{idle_is}
use Rattle.oa_simulation.proofs.sim_steps.Agreeing.{HasAbout, about, at_stand, replies_are}
use Rattle.epoch_relation.specs.Callers.{Caller}
use Rattle.epoch_relation.specs.Walking.{Running, InExecutor, AfterExchange, Waits, BeginsAt, AnnouncesAt, ClaimsIn, has_withdrawn, HoldsAt, CallerHolds}

module _ (t : Plan) (s : Shared) (since : ℕ → ℕ) (d : ℕ) (x : Caller) where
  running : Running t s d x → HasAbout (replies_of x.entry) x.source
  running w = about (replies_of x.entry) w.0.walk.call x.source _ (replies_are w.0.walk.call (call_of x.entry) w.1.call) w.3 (at_stand w.0.walk.method.op w.0.walk.method.wrapup w.0.walk.started x.entry.hand.accessed w.0.walk.call _)

  in_list : (k : ℕ) → InExecutor t s d x k → HasAbout (replies_of x.entry) x.source
  in_list k e = inl (ap (λ (c : SourceCaller). c.replies) e.3 ∙ replies_are e.0.walk.call (call_of x.entry) e.1.call)

  behind : (made : ℕ) (more : Bool) → AfterExchange t s d x made more → HasAbout (replies_of x.entry) x.source
  behind made true e = in_list made e
  behind made false e = about (replies_of x.entry) e.0.walk.call x.source _ (replies_are e.0.walk.call (call_of x.entry) e.1.call) e.3 (at_stand e.0.walk.method.op true (with_count e.0.mirror made) false e.0.walk.call _)

  waits : Waits t x → HasAbout (replies_of x.entry) x.source
  waits w = about (replies_of x.entry) (call_of x.entry) x.source _ refl w.7 (at_stand w.0.op false w.2 x.entry.hand.accessed (call_of x.entry) w.1)

  begins : (why : AnnounceReason) → BeginsAt t x why → HasAbout (replies_of x.entry) x.source
  begins Begin w = inl (ap (λ (c : SourceCaller). c.replies) w)
  begins Again w = about (replies_of x.entry) (call_of x.entry) x.source _ refl w.2
      (at_stand w.0.op false (first_registers (call_of x.entry).args) false (call_of x.entry) (run_from w.0.op false (first_spot (first_registers (call_of x.entry).args))))
  begins Swept w = waits w

  announcing : (a : Announcing) → AnnouncesAt t s x a → HasAbout (replies_of x.entry) x.source
  announcing (announces.Loads why) w = begins why w
  announcing (announces.Stores why p) w = begins why w.0
  announcing (announces.Leaves reply) w = inr (_, ap (λ (c : SourceCaller). c.replies) w)

  claiming : (withdrawn : Bool) → ClaimsIn t s d x withdrawn → HasAbout (replies_of x.entry) x.source
  claiming true w = waits w
  claiming false w = running w

  by_routine : (r : Routine) → HoldsAt t s since d x r → HasAbout (replies_of x.entry) x.source
  by_routine Idle w = inl (ap (λ (c : SourceCaller). c.replies) w)
  by_routine At w = running w
  by_routine (InList k) w = in_list k w
  by_routine (Retires retirement onward.Next) w =
      about (replies_of x.entry) w.1.0.walk.call x.source _ (replies_are w.1.0.walk.call (call_of x.entry) w.1.1.call) w.1.3 (at_stand w.1.0.walk.method.op w.1.0.walk.method.wrapup w.1.0.walk.started x.entry.hand.accessed w.1.0.walk.call _)
  by_routine (Retires retirement (onward.List k)) w = behind (k + 1) (nat_lt (k + 1) (length (list_of (instr_in t.target x.entry)))) w.1
  by_routine (Claims claim) w = claiming (has_withdrawn claim.stage claim.sweeps) w.2
  by_routine (Zeroes k field) w = running w.2
  by_routine (Announces a) w = announcing a w
  by_routine _ w = absurd w

  pub running_agrees : CallerHolds t s since d x → HasAbout (replies_of x.entry) x.source
  running_agrees told = by_routine x.entry.routine told.spot

  -- an idle caller's are all there are
  pub idle_agrees : CallerHolds t s since d x → is_idle x.entry.routine ≡ true → x.source.replies ≡ replies_of x.entry
  idle_agrees told idle = ap (λ (c : SourceCaller). c.replies) (subst_idle (idle_is x.entry.routine idle) told.spot) where
    subst_idle : x.entry.routine ≡ Idle → HoldsAt t s since d x x.entry.routine → HoldsAt t s since d x Idle
    subst_idle is spot = subst (λ (r : Routine). HoldsAt t s since d x r) is spot
