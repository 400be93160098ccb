-- Methods whose line numbers fit 32 bits: those of a target within the limits.
use Rattle.std.specs.Prelude.{◌≡◌, ℕ, ◌≤◌, Bool, true, List, length, nat_le}
use Rattle.std.specs.List.{list_all}
use Rattle.norm_lang.specs.declared.text.FieldDecl.{FieldDecl}
use Rattle.norm_lang.specs.declared.text.Instr.{Instr}
use Rattle.norm_lang.specs.declared.text.Instr.TheVariants as instr
use Rattle.target_code.specs.declared.target.TargetInstr.{TargetInstr}
use Rattle.target_code.specs.declared.target.TargetInstr.TheVariants.{Plain, Check, Guard}
use Rattle.target_code.specs.declared.target.TargetOp.{TargetOp}
use Rattle.target_code.specs.declared.target.Target.{Target}
use Rattle.c_emission.specs.declared.operations.Places.{Places}
use Rattle.c_emission.specs.Operations.{generator_warned, wrap_up_line, restart_line, wrap_up_first, wrap_up_warned}

-- a list has at most four exchanges
abbrev pub has_few : Instr → Bool
has_few (instr.Commit exchanges) = nat_le (length exchanges) 4
has_few _ = true

abbrev pub has_few_exchanges : TargetInstr → Bool
has_few_exchanges (Plain i) = has_few i
has_few_exchanges Check = true
has_few_exchanges (Guard r) = true

-- a method of a target with so many kinds and these fields
pub record IsSmall (count : ℕ) (declared : List FieldDecl) (method : List TargetInstr) : Type 0 where
  pub kinds : count ≤ 4
  pub fields : length declared ≤ 16
  pub code : length method ≤ 4096
  pub lists : list_all has_few_exchanges method ≡ true

-- where the parts of an operation begin
pub record ArePlaces (target : Target) (op : TargetOp) (p : Places) : Type 0 where
  pub generator_warned : p.generator_warned ≡ generator_warned target op
  pub wrap_up : p.wrap_up ≡ wrap_up_line target op
  pub restart : p.restart ≡ restart_line target op
  pub wrap_up_first : p.wrap_up_first ≡ wrap_up_first target op
  pub wrap_up_warned : p.wrap_up_warned ≡ wrap_up_warned target op
