-- The code of an entry's method is that of its method run.
use Rattle.std.proofs.Common.{ℕ, ◌≡◌, Bool, false, Option, Some, List, sym, ap, ◌∙◌}
use Rattle.std.specs.Prelude.{slice_get}
use Rattle.norm_lang.specs.Local.{Spot}
use Rattle.target_code.specs.declared.target.TargetInstr.{TargetInstr}
use Rattle.target_code.specs.declared.target.TargetOp.{TargetOp}
use Rattle.caller_steps.specs.Entries.{op_of, instr_in, code_in as core_code, Entry}
use Rattle.caller_parts.specs.Operands.{method_code}
use Rattle.target_laws.specs.Methods.{code_in}
use Rattle.norm_lang.specs.Registers.{first_registers, node_in}
use Rattle.norm_lang.specs.declared.text.Text.{Text}
use Rattle.target_code.specs.declared.target.Target.{Target}
use Rattle.run_ahead.specs.Following.{Walk}
use Rattle.oa_simulation.specs.sim_relation.Views.{Plan, Shared, Caller}
use Rattle.oa_simulation.specs.sim_relation.Callers.{Trail, Walks, call_of}
use Rattle.run_ahead.proofs.Starting.{first_is_blank}

pub code_of_entry : (t : Plan) (e : Entry) (walk : Walk t.target t.text) → walk.call ≡ call_of e → e.hand.wrapup ≡ walk.method.wrapup → walk.call.number ≡ walk.method.number → core_code t.target e ≡ code_in walk.method
code_of_entry t e walk call wrapup same =
    let number : e.running.call.op ≡ walk.method.number = sym (ap (λ call. call.number) call) ∙ same in
    let op : op_of t.target e ≡ Some walk.method.compiled = ap (λ (n : ℕ). slice_get t.target.ops n) number ∙ walk.method.in_target in
    ap (λ (o : Option TargetOp). method_code o e.hand.wrapup) op ∙ ap (λ (b : Bool). method_code (Some walk.method.compiled) b) wrapup

pub code_is : (t : Plan) (s : Shared) (d : ℕ) (x : Caller) (core : Spot) (m : Trail t) → Walks t s d x core m → core_code t.target x.entry ≡ code_in m.walk.method
code_is t s d x core m w = code_of_entry t x.entry m.walk w.call w.wrapup w.number

pub instr_is : (t : Plan) (s : Shared) (d : ℕ) (x : Caller) (core : Spot) (m : Trail t) → Walks t s d x core m → instr_in t.target x.entry ≡ slice_get (code_in m.walk.method) x.entry.hand.at
instr_is t s d x core m w = ap (λ (code : List TargetInstr). slice_get code x.entry.hand.at) (code_is t s d x core m w)

-- a generator starts with null in its reference registers
pub blank : {target : Target} {text : Text} (walk : Walk target text) → (walk.method.wrapup ≡ false → walk.started ≡ first_registers walk.call.args) → walk.method.wrapup ≡ false → (r : ℕ) → node_in walk.started r ≡ 0
blank walk generator is r = ap (λ registers. node_in registers r) (generator is) ∙ first_is_blank walk.call.args r
