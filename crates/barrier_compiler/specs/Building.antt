-- What the compiler builds, part by part: of the kept registers of an operation it is told, and it finds out first where each
-- block begins, and then takes the jumps there.
use Rattle.std.specs.Prelude.{ℕ, ◌+◌, ◌≤◌, ◌&&◌, not, List, [], ◌∷◌, ◌++◌, length, if◌then◌else◌, slice_get, unwrap_or}
use Rattle.std.specs.List.{list_any, filter}
use Rattle.norm_lang.specs.declared.text.Reg.{Reg}
use Rattle.norm_lang.specs.declared.text.Instr.{Instr}
use Rattle.norm_lang.specs.declared.text.Op.{Op}
use Rattle.norm_lang.specs.Bounds.{last_target}
use Rattle.norm_lang.specs.RegisterUse.{same_register}
use Rattle.norm_lang.specs.Kept.{holds_reference}
use Rattle.norm_lang.specs.PathRules.{is_commit}
use Rattle.target_code.specs.declared.target.TargetInstr.{TargetInstr}
use Rattle.target_code.specs.declared.target.TargetInstr.TheVariants.{Plain, Check, Guard}
use Rattle.target_code.specs.Erasing.{redirected}
use Rattle.target_code.specs.Flaws.{exchanged}
use Rattle.target_code.specs.Keeping.{keeps}
use Rattle.target_code.specs.Blocks.{all_references, Marked, check_if, barrier}

-- a register after others, if it is of a reference and isn't among them
abbrev pub with_register : List Reg → Reg → List Reg
with_register rs r = if holds_reference r && not (list_any (same_register r) rs) then rs ++ r ∷ [] else rs

-- registers after others, one after another
abbrev pub with_registers : List Reg → List Reg → List Reg
with_registers rs [] = rs
with_registers rs (r ∷ more) = with_registers (with_register rs r) more

-- the references that an operation's wrap-up keeps
abbrev pub kept_references : Op → List Reg
kept_references op = filter (keeps op) all_references

-- what a commit hands over guarded, if these are kept
abbrev pub kept_by : List Reg → Instr → List Reg
kept_by kept i = if is_commit i then kept else []

-- the registers that an instruction needs guarded, if these are kept
abbrev pub guarded_by : List Reg → Instr → List Reg
guarded_by kept i = with_registers (with_registers [] (exchanged i)) (kept_by kept i)

-- the block of an instruction, its jump as it was
abbrev pub block_by : List Reg → Marked → List TargetInstr
block_by kept m = barrier m.before (guarded_by kept m.instr) ++ (Plain m.instr ∷ check_if m.after)

-- where the block of each instruction begins, if the first begins at a place
abbrev pub starts_from : List Reg → ℕ → List Marked → List ℕ
starts_from kept n [] = []
starts_from kept n (m ∷ marked) = n ∷ starts_from kept (n + length (block_by kept m)) marked

-- where the block of an instruction begins; past the last one that is the end
abbrev pub start_of : List ℕ → ℕ → ℕ → ℕ
start_of starts end at = unwrap_or (slice_get starts at) end

-- no block begins past what a jump can name
abbrev pub AreNear : List ℕ → ℕ → Type 0
AreNear starts end = (at : ℕ) → start_of starts end at ≤ last_target

-- an instruction whose jump is taken elsewhere
abbrev pub relocated : (ℕ → ℕ) → TargetInstr → TargetInstr
relocated place (Plain i) = Plain (redirected place i)
relocated place Check = Check
relocated place (Guard r) = Guard r
