-- Where a list of exchanges stands.
use Rattle.std.proofs.Common.{◌≡◌, ℕ, ◌<◌, List, length, Option, Some, refl, arith}
use Rattle.norm_lang.specs.declared.text.CasEntry.{CasEntry}
use Rattle.norm_lang.specs.declared.text.Instr.TheVariants as instr
use Rattle.target_code.specs.declared.target.TargetInstr.{TargetInstr}
use Rattle.target_code.specs.declared.target.TargetInstr.TheVariants.{Plain}
use Rattle.caller_parts.specs.Operands.{list_of}

-- a list has exchanges at a commit alone
pub list_there : (o : Option TargetInstr) (k : ℕ) → k < length (list_of o) → (exchanges : List CasEntry) × (o ≡ Some (Plain (instr.Commit exchanges)))
list_there (Some (Plain (instr.Commit exchanges))) k lt = (exchanges, refl)
list_there _ k lt = absurd (let none : k < 0 = lt in omega (arith, none))
