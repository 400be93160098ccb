-- Local code keeps what a method run holds, and comes to an access, a `new`, a commit or an end.
use Rattle.std.proofs.Common.{◌≡◌, ℕ, zero, suc, Bool, true, false, List, Option, Some, None, refl, sym, ◌∙◌, subst}
use Rattle.std.specs.Prelude.{slice_get, IfSome}
use Rattle.norm_lang.specs.declared.text.Instr.{Instr}
use Rattle.norm_lang.specs.Grammar.{is_new}
use Rattle.norm_lang.specs.RegisterUse.{sets}
use Rattle.norm_lang.specs.Local.{Spot, local_step, go_on}
use Rattle.norm_lang.specs.declared.text.Reg.TheVariants.{Ref}
use Rattle.norm_lang.specs.Registers.{reference_in}
use Rattle.target_code.specs.declared.target.TargetInstr.{TargetInstr}
use Rattle.target_code.specs.declared.target.TargetInstr.TheVariants.{Plain}
use Rattle.target_code.specs.declared.target.Target.{Target}
use Rattle.target_code.specs.Paths.{IsTargetSuccessor, target_goes_from}
use Rattle.target_code.specs.LocalCode.{target_local_at, target_run}
use Rattle.caller_parts.specs.Operands.{code_at}
use Rattle.caller_parts.specs.Settings.{Setting}
use Rattle.caller_steps.specs.Belongs.{HaveKinds, NamesSlots, HasComeTo}
use Rattle.target_laws.specs.target_runs.Sane.{SaneAt, SaneCode}
use Rattle.target_laws.proofs.local_laws.Settled.{step_goes}
use Rattle.core_runs.proofs.caller_laws.Named.{local_names}
use Rattle.core_runs.proofs.caller_laws.KindSteps.{local_typed}
use Rattle.core_runs.proofs.caller_laws.Reaching.{local_touches, local_isnt_new, next_reached, Leaves}

-- a run of an operation's method has come to a spot, with registers that name slots of kinds that they may have there
abbrev pub Comes : Target → Setting → ℕ → Bool → Spot → Type 0
Comes target setting op wrapup spot = record {
  reached : HasComeTo (code_at target op wrapup) spot.at spot.registers;
  names : NamesSlots setting.sizes.slots spot.registers;
  kinds : HaveKinds target setting (slice_get target.ops op) wrapup spot.at spot.registers;
}

-- a local instruction leads from a spot to another
local_comes : (target : Target) (setting : Setting) (op : ℕ) (wrapup : Bool) (spot next : Spot) (i : Instr) → SaneCode target wrapup (code_at target op wrapup)
    → slice_get (code_at target op wrapup) spot.at ≡ Some (Plain i) → local_step i spot.at spot.registers ≡ Some next → Comes target setting op wrapup spot → Comes target setting op wrapup next
local_comes target setting op wrapup spot next i sane stands steps c = record {
  reached = next_reached code spot.at next.at (Plain i) spot.registers next.registers stands goes (site.goes next.at goes) c.reached leaves;
  names = subst (λ (o : Option Spot). IfSome o (λ (s : Spot). NamesSlots setting.sizes.slots s.registers)) steps (local_names setting.sizes.slots i spot.at spot.registers c.names);
  kinds = local_typed target setting wrapup (slice_get target.ops op) spot.at next.at i spot.registers spot.at next c.reached.path.0 c.reached.path.1 stands site.own.form.kinds steps way c.kinds;
} where
  code : List TargetInstr
  code = code_at target op wrapup

  site : SaneAt target wrapup code spot.at (Plain i)
  site = sane.each spot.at (Plain i) c.reached.path.0 stands c.reached.path.1

  goes : target_goes_from (Some (Plain i)) spot.at next.at ≡ true
  goes = (step_goes i spot.at spot.registers next steps).0

  way : IsTargetSuccessor code spot.at next.at
  way = (rw stands goes, site.goes next.at goes)

  fresh : is_new i ≡ false
  fresh = local_isnt_new i spot.at spot.registers next steps

  touched : (r : ℕ) → sets (Ref r) i ≡ false → reference_in next.registers (Ref r) ≡ reference_in spot.registers (Ref r)
  touched = subst (λ (o : Option Spot). IfSome o (λ (s : Spot). (r : ℕ) → sets (Ref r) i ≡ false → reference_in s.registers (Ref r) ≡ reference_in spot.registers (Ref r))) steps (local_touches i spot.at spot.registers)

  leaves : Leaves (Plain i) spot.registers next.registers
  leaves = record { made = λ r wrote new. absurd (let e : false ≡ true = sym fresh ∙ new in cc); kept = touched }

pub run_comes : (target : Target) (setting : Setting) (op : ℕ) (wrapup : Bool) (n : ℕ) (spot : Spot) → SaneCode target wrapup (code_at target op wrapup)
    → Comes target setting op wrapup spot → Comes target setting op wrapup (target_run (code_at target op wrapup) n spot)
run_comes target setting op wrapup zero spot sane c = c
run_comes target setting op wrapup (suc n) spot sane c = turn (λ next d. run_comes target setting op wrapup n next sane d) (slice_get code spot.at) refl where
  code : List TargetInstr
  code = code_at target op wrapup

  step : ((next : Spot) → Comes target setting op wrapup next → Comes target setting op wrapup (target_run code n next)) → (i : Instr) → slice_get code spot.at ≡ Some (Plain i)
      → (o : Option Spot) → local_step i spot.at spot.registers ≡ o → Comes target setting op wrapup (go_on o spot (target_run code n))
  step further i is None steps = c
  step further i is (Some next) steps = further next (local_comes target setting op wrapup spot next i sane is steps c)

  turn : ((next : Spot) → Comes target setting op wrapup next → Comes target setting op wrapup (target_run code n next)) → (o : Option TargetInstr) → slice_get code spot.at ≡ o
      → Comes target setting op wrapup (go_on (target_local_at o spot.at spot.registers) spot (target_run code n))
  turn further (Some (Plain i)) is = step further i is (local_step i spot.at spot.registers) refl
  turn further _ is = c
