-- Code whose jumps lead forward, as in texts of the first form: whether or not it is in normal form, its local code settles.
use Rattle.std.specs.Prelude.{◌≡◌, ℕ, ◌<◌, List, length, Option, Some, None, slice_get}
use Rattle.norm_lang.specs.declared.text.Instr.{Instr}
use Rattle.norm_lang.specs.declared.text.Instr.TheVariants as instr
use Rattle.norm_lang.specs.Local.{Spot, local_run}
use Rattle.target_laws.specs.local_laws.Settling.{Settles}

-- where a local jump leads
abbrev pub local_jump : Option Instr → Option ℕ
local_jump (Some (instr.Jump l)) = Some l
local_jump (Some (instr.IfEq a b l)) = Some l
local_jump (Some (instr.IfLess a b l)) = Some l
local_jump (Some (instr.IfMarked a l)) = Some l
local_jump _ = None

-- each local jump leads forward
abbrev pub LeadsForward : List Instr → Type 0
LeadsForward code = (at l : ℕ) → local_jump (slice_get code at) ≡ Some l → at < l

-- then local code settles, and the bound is never why it stops
abbrev pub ForwardCodeSettles : Type 0
ForwardCodeSettles = (code : List Instr) → LeadsForward code → (here : Spot) → Settles code here (local_run code (length code) here)
