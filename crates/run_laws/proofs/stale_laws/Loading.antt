-- A load of a field: the source's caller stands at the same load, its base register has the name, and the core's has the name's slot.
use Rattle.std.proofs.Common.{ℕ, ◌≡◌, ◌<◌, ◌∙◌, Bool, true, false, Option, Some, sym, ap, subst, refl}
use Rattle.std.specs.Prelude.{slice_get}
use Rattle.norm_lang.specs.declared.text.Reg.{Reg}
use Rattle.norm_lang.specs.declared.text.Instr.{Instr}
use Rattle.norm_lang.specs.declared.text.Instr.TheVariants as instr
use Rattle.norm_lang.specs.declared.text.Op.{Op}
use Rattle.norm_lang.specs.declared.registers.Registers.{Registers}
use Rattle.norm_lang.specs.Kept.{code_of}
use Rattle.norm_lang.specs.Local.{Spot}
use Rattle.norm_lang.specs.Registers.{reference_in}
use Rattle.target_code.specs.declared.target.TargetInstr.TheVariants.{Plain}
use Rattle.target_code.specs.Erasing.{source_place}
use Rattle.target_laws.specs.Methods.{code_in}
use Rattle.source_machine.specs.declared.state.Stand.TheVariants.{InWrapUp}
use Rattle.source_machine.specs.declared.state.SourceCaller.{SourceCaller}
use Rattle.source_machine.specs.Step.{wrap_up_stop}
use Rattle.caller_parts.specs.declared.routine.Routine.{Routine}
use Rattle.caller_parts.specs.Operands.{slot_in}
use Rattle.run_ahead.specs.Standing.{Call, running_at, caller_of, stands_at}
use Rattle.run_ahead.proofs.Mirroring.{references_agree, reads_first}
use Rattle.run_ahead.proofs.Plain.{at_place}
use Rattle.run_ahead.proofs.Quiet.{stands_there}
use Rattle.run_ahead.specs.Ahead.{erasing}
use Rattle.oa_simulation.specs.sim_relation.Views.{Plan, IsPlan, Shared, Caller, Resident}
use Rattle.oa_simulation.specs.sim_relation.Shared.{SharedHolds}
use Rattle.oa_simulation.specs.sim_relation.Callers.{CallerHolds, HoldsAt, Trail, Running, Calm, spot_of}
use Rattle.oa_simulation.specs.sim_relation.Points.{StaysProper, point}
use Rattle.oa_simulation.proofs.sim_relation.Codes.{instr_is}
use Rattle.oa_simulation.proofs.sim_steps.Accesses.Loads.{Reading, read_agrees, object_resident}
use Rattle.oa_simulation.proofs.sim_steps.Accesses.Stepping.{proper_here}
use Rattle.run_laws.specs.stale_laws.Stale.{caller_name, LoadsFrom}

-- the source's caller at a load has the registers with which it came there
name_at : (op : Op) (wrapup : Bool) (started : Registers) (accessed : Bool) (call : Call) (place f : ℕ) (mirror : Registers) (into base r : Reg) → slice_get (code_of op wrapup) place ≡ Some (instr.LoadField into base f)
    → caller_name (Some (stands_at op wrapup started accessed call (record { at = place; registers = mirror }))) r ≡ (reference_in mirror r).node
name_at op true started false call place f mirror into base r here =
    ap (λ (o : Option Instr). caller_name (Some (wrap_up_stop false op o (running_at call mirror (InWrapUp place started false)) (caller_of call))) r) here
name_at op _ started _ call place f mirror into base r here = refl

-- what is known of the base of a load
pub record Based (t : Plan) (s : Shared) (c : ℕ) (x : Caller) (base : Reg) : Type 0 where
  -- while the caller isn't warned, the name is resident
  pub resident : Calm s c x → Resident t s (caller_name (Some x.source) base)
  pub slot : slot_in x.entry.hand.registers base ≡ t.home (caller_name (Some x.source) base)

pub based : (t : Plan) (s : Shared) (c : ℕ) (x : Caller) (base : Reg) → IsPlan t → SharedHolds t s → CallerHolds t s c x → c < t.setting.sizes.callers → StaysProper t.text c (point s x) → LoadsFrom t.target x.entry base → Based t s c x base
based t s c x base plan f told below proper loads =
    let run : Running t s c x (spot_of x.entry.hand) = subst (λ (r : Routine). HoldsAt t s c x r) loads.at told.spot in
    by_run run
  where
    by_run : Running t s c x (spot_of x.entry.hand) → Based t s c x base
    by_run run =
        let m : Trail t = run.0 in
        let i : Instr = instr.LoadField loads.into base loads.field in
        let here : slice_get (code_in run.0.walk.method) x.entry.hand.at ≡ Some (Plain i) = sym (instr_is t s c x (spot_of x.entry.hand) run.0 run.1) ∙ loads.instr_is in
        let rd : Reading t s c x run.0 i = record { plan = plan; shared_holds = f; base = told.base; walks = run.1; gets = run.3; below = below; proper = proper_here t c s x proper run.2.tied; here = here } in
        let there = stands_there run.0.walk.method x.entry.hand.at run.0.mirror run.0.there i (erasing plan.compiled) here refl run.1.ahead.settles in
        let stands : x.source ≡ stands_at run.0.walk.method.op run.0.walk.method.wrapup run.0.walk.started x.entry.hand.accessed run.0.walk.call (record { at = source_place (code_in run.0.walk.method) x.entry.hand.at; registers = run.0.mirror }) =
        run.2.stands ∙ ap (λ (spot : Spot). stands_at run.0.walk.method.op run.0.walk.method.wrapup run.0.walk.started x.entry.hand.accessed run.0.walk.call spot) (sym there) in
        let name : caller_name (Some x.source) base ≡ (reference_in run.0.mirror base).node =
        ap (λ (caller : SourceCaller). caller_name (Some caller) base) stands
        ∙ name_at run.0.walk.method.op run.0.walk.method.wrapup run.0.walk.started x.entry.hand.accessed run.0.walk.call (source_place (code_in run.0.walk.method) x.entry.hand.at) loads.field run.0.mirror loads.into base base
        (at_place run.0.walk.method (erasing plan.compiled) x.entry.hand.at (Plain i) here).0 in
        let agree = references_agree t.home x.entry.hand.registers run.0.mirror base plan.null (read_agrees t s c x run.0 i base rd (reads_first base false)) in
        record {
          resident = λ calm. subst (λ (n : ℕ). Resident t s n) (sym name) (object_resident t s c x run.0 i base rd (reads_first base false) calm);
          slot = agree.0 ∙ ap t.home (sym name);
        }
