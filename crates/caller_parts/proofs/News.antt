-- Where a `new` stands.
use Rattle.std.proofs.Common.{◌≡◌, ℕ, true, false, Option, Some, refl}
use Rattle.norm_lang.specs.declared.text.Reg.{Reg}
use Rattle.norm_lang.specs.declared.text.Instr.TheVariants as instr
use Rattle.target_code.specs.declared.target.TargetInstr.{TargetInstr}
use Rattle.target_code.specs.declared.target.TargetInstr.TheVariants.{Plain}
use Rattle.caller_parts.specs.Operands.{is_new_at}

-- the register that it sets, and the kind of its node
pub new_there : (o : Option TargetInstr) → is_new_at o ≡ true → (d : Reg) × (kind : ℕ) × (o ≡ Some (Plain (instr.New d kind)))
new_there (Some (Plain (instr.New d kind))) is = (d, kind, refl)
new_there _ is = absurd (let z : false ≡ true = is in cc)
