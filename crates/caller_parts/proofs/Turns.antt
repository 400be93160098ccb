-- A turn of the loop over local code.
use Rattle.std.proofs.Common.{◌≡◌, ℕ, suc, ◌+◌, ◌-◌, ◌<◌, ◌≤◌, max, List, length, Option, Some, None, refl, sym, ◌∙◌, arith}
use Rattle.std.specs.Prelude.{slice_get}
use Rattle.std.proofs.lemmas.Option.{slice_get_within}
use Rattle.target_code.specs.declared.target.TargetInstr.{TargetInstr}
use Rattle.norm_lang.specs.declared.registers.Registers.{Registers}
use Rattle.norm_lang.specs.Local.{Spot, go_on}
use Rattle.target_code.specs.LocalCode.{target_local_at, target_run}

turn : (code : List TargetInstr) (n i : ℕ) (spot : Spot) → i < n → target_run code (n - i) spot ≡ go_on (target_local_at (slice_get code spot.at) spot.at spot.registers) spot (target_run code (n - (i + 1)))
turn code n i spot lt = let k : n - i ≡ suc (n - (i + 1)) = omega arith in rw k refl

-- a local instruction was made
pub goes_further : (code : List TargetInstr) (n i at : ℕ) (registers : Registers) (instr : TargetInstr) (next : Spot) (whole : Spot)
    → i < n → Some instr ≡ slice_get code at → target_local_at (Some instr) at registers ≡ Some next
    → target_run code (n - i) (record { at = at; registers = registers }) ≡ whole → target_run code (n - (i + 1)) next ≡ whole
goes_further code n i at registers instr next whole lt fetch steps so_far =
    sym (turn code n i (record { at = at; registers = registers }) lt ∙ rw (← fetch, steps) refl) ∙ so_far

-- no local instruction stands there
pub ends_here : (code : List TargetInstr) (n i at : ℕ) (registers : Registers) (fetched : Option TargetInstr) (whole : Spot)
    → i < n → fetched ≡ slice_get code at → target_local_at fetched at registers ≡ None
    → target_run code (n - i) (record { at = at; registers = registers }) ≡ whole → whole ≡ record { at = at; registers = registers }
ends_here code n i at registers fetched whole lt fetch none so_far =
    sym so_far ∙ turn code n i (record { at = at; registers = registers }) lt ∙ rw (← fetch, none) refl

-- an instruction that stands in the code leads no further than its length, or to where a jump leads
pub stays_near : (code : List TargetInstr) (instr : TargetInstr) (start at next : ℕ) → Some instr ≡ slice_get code at
    → next ≤ max (at + 1) 65535 → at ≤ max start (max (length code) 65535) → next ≤ max start (max (length code) 65535)
stays_near code instr start at next fetch near so_far = omega (arith, slice_get_within code at instr (sym fetch))
