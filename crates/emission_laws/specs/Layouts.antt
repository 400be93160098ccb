-- Blocks one after another stand where they start, and so do the parts of an operation.
use Rattle.std.specs.Prelude.{◌≡◌, ℕ, ◌+◌, List, ◌++◌, length, map, Some, slice_get}
use Rattle.target_code.specs.declared.target.TargetInstr.{TargetInstr}
use Rattle.target_code.specs.declared.target.TargetOp.{TargetOp}
use Rattle.target_code.specs.declared.target.Target.{Target}
use Rattle.caller_parts.specs.Spared.{none_spared, kept_by}
use Rattle.c_language.specs.declared.lines.Line.{Line}
use Rattle.c_runtime.specs.KindLines.{HasLines}
use Rattle.c_emission.specs.Blocks.{clear_size, copy_lines}
use Rattle.c_emission.specs.Layout.{Method, all_lines, start_of, start, block_at, method_lines}
use Rattle.c_emission.specs.Operations.{seen_lines, first_lines, warned_lines, wrap_up_lines, generator_line, first_block_line, generator_warned, wrap_up_line, restart_line, wrap_up_first, wrap_up_warned, generator, wrap_up, operation_lines}

pub record BlocksStand : Type 0 where
  -- of blocks of any sizes each stands where it starts, and the next one starts behind it
  pub stand : (before : List Line) (blocks : List (List Line)) (after : List Line) (at : ℕ) (block : List Line)
      → slice_get blocks at ≡ Some block
      → HasLines (before ++ (all_lines blocks ++ after)) (start_of (length before) (map length blocks) at) block
  pub next : (base : ℕ) (blocks : List (List Line)) (at : ℕ) (block : List Line) → slice_get blocks at ≡ Some block
      → start_of base (map length blocks) (at + 1) ≡ start_of base (map length blocks) at + length block
  -- and so does the block of each instruction of a method whose lines stand in a function
  pub methods : (code : List Line) (method : Method) (at : ℕ) (i : TargetInstr)
      → HasLines code method.first (method_lines method) → slice_get method.code at ≡ Some i
      → HasLines code (start method at) (block_at method at i)
  pub sizes : (method : Method) (at : ℕ) (i : TargetInstr) → slice_get method.code at ≡ Some i
      → start method (at + 1) ≡ start method at + length (block_at method at i)

-- the parts of an operation stand in its lines, where its jumps lead
pub record OperationStands (target : Target) (op : TargetOp) (code : List Line) : Type 0 where
  pub begins : HasLines code 0 (seen_lines ++ first_lines)
  pub generates : HasLines code first_block_line (method_lines (generator target op))
  pub warned : HasLines code (generator_warned target op)
      (warned_lines (generator_warned target op) none_spared generator_line)
  pub ends : HasLines code (wrap_up_line target op) (wrap_up_lines (wrap_up_line target op) (kept_by (Some op)))
  pub seen : HasLines code (wrap_up_line target op + 17 + clear_size (kept_by (Some op)) 0 8)
      (seen_lines ++ copy_lines 0 33 16)
  pub wraps_up : HasLines code (wrap_up_first target op) (method_lines (wrap_up target op))
  pub warned_late : HasLines code (wrap_up_warned target op)
      (warned_lines (wrap_up_warned target op) (kept_by (Some op)) (restart_line target op))

abbrev pub OperationsStand : Type 0
OperationsStand = (target : Target) (op : TargetOp) → OperationStands target op (operation_lines target op)
