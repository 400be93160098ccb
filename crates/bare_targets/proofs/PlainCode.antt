-- The code of a bare target.
use Rattle.std.proofs.Common.{◌≡◌, ℕ, zero, suc, true, false, List, [], ◌∷◌, map, Option, Some, None, sym, ap, ◌∙◌, refl}
use Rattle.std.specs.Prelude.{slice_get, option_map}
use Rattle.std.proofs.lemmas.Option.{slice_get-map}
use Rattle.norm_lang.specs.declared.text.Instr.{Instr}
use Rattle.norm_lang.specs.declared.registers.Registers.{Registers}
use Rattle.norm_lang.specs.Local.{Spot, local_at, go_on, local_run}
use Rattle.target_code.specs.declared.target.TargetInstr.{TargetInstr}
use Rattle.target_code.specs.declared.target.TargetInstr.TheVariants.{Plain}
use Rattle.target_code.specs.LocalCode.{target_local_at, target_next_spot, target_run}
use Rattle.target_code.specs.Bare.{bare_op}
use Rattle.bare_targets.specs.BareLaws.{BareOpsAreTheTexts, BareCodeIsPlain, PlainStands, PlainRuns}

pub ops_are_the_texts : BareOpsAreTheTexts
ops_are_the_texts text number = slice_get-map bare_op text.ops number

pub code_is_plain : BareCodeIsPlain
code_is_plain op false = refl
code_is_plain op true = refl

pub plain_stands : PlainStands
plain_stands [] at i is = absurd (let no : None ≡ Some i = is in cc)
plain_stands (x ∷ code) zero i is = let same : Plain x ≡ i = cc in record { instr = x; is = sym same; stands = refl }
plain_stands (x ∷ code) (suc at) i is = let rest = plain_stands code at i is in record { instr = rest.instr; is = rest.is; stands = rest.stands }

-- what may stand at a place, step by step
plain_local : (o : Option Instr) (at : ℕ) (registers : Registers) → target_local_at (option_map Plain o) at registers ≡ local_at o at registers
plain_local None at registers = refl
plain_local (Some i) at registers = refl

next_same : (code : List Instr) (spot : Spot) → target_next_spot (map Plain code) spot ≡ local_at (slice_get code spot.at) spot.at spot.registers
next_same code spot =
    ap (λ (o : Option TargetInstr). target_local_at o spot.at spot.registers) (slice_get-map Plain code spot.at) ∙ plain_local (slice_get code spot.at) spot.at spot.registers

goes_same : (code : List Instr) (n : ℕ) (next : Option Spot) (spot : Spot) → ((there : Spot) → target_run (map Plain code) n there ≡ local_run code n there)
    → go_on next spot (target_run (map Plain code) n) ≡ go_on next spot (local_run code n)
goes_same code n None spot same = refl
goes_same code n (Some there) spot same = same there

pub plain_runs : PlainRuns
plain_runs code zero spot = refl
plain_runs code (suc n) spot =
    ap (λ (next : Option Spot). go_on next spot (target_run (map Plain code) n)) (next_same code spot)
    ∙ goes_same code n (local_at (slice_get code spot.at) spot.at spot.registers) spot (plain_runs code n)
