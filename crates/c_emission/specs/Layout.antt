-- Blocks one after another: where each starts, and the lines of a method.
use Rattle.std.specs.Prelude.{ℕ, zero, suc, ◌+◌, List, [], ◌∷◌, ◌++◌, map, length}
use Rattle.norm_lang.specs.declared.text.FieldDecl.{FieldDecl}
use Rattle.norm_lang.specs.declared.text.Instr.{Instr}
use Rattle.norm_lang.specs.declared.text.Instr.TheVariants as instr
use Rattle.norm_lang.specs.KindFields.{place_of}
use Rattle.target_code.specs.declared.target.TargetInstr.{TargetInstr}
use Rattle.target_code.specs.declared.target.TargetInstr.TheVariants.{Plain, Check, Guard}
use Rattle.caller_parts.specs.KindCounts.{field_count}
use Rattle.caller_parts.specs.Operands.{cradle_of_kind}
use Rattle.c_language.specs.declared.lines.Line.{Line}
use Rattle.c_emission.specs.Blocks.{root_block, pick_block, load_block, put_block, check_block, guard_block}
use Rattle.c_emission.specs.Locals.{local_block}
use Rattle.c_emission.specs.Exchanges.{kind_of_field, cas_block, cas_size, commit_block, commit_size}
use Rattle.c_emission.specs.Ends.{new_block, new_size, return_block, none_block, again_block, end_size}

-- all lines of blocks
abbrev pub all_lines : List (List Line) → List Line
all_lines [] = []
all_lines (block ∷ blocks) = block ++ all_lines blocks

-- the sum of the first so many numbers
abbrev pub sum_first : List ℕ → ℕ → ℕ
sum_first [] at = 0
sum_first (n ∷ ns) zero = 0
sum_first (n ∷ ns) (suc at) = n + sum_first ns at

-- where a method's blocks start, if they begin at a line and have these sizes. Sizes don't depend on where jumps lead, so the blocks, which do,
-- may name these lines
abbrev pub start_of : ℕ → List ℕ → ℕ → ℕ
start_of base sizes at = base + sum_first sizes at

-- a method of an operation: how many kinds of nodes there are, their fields, the method's code, the line of its first block, where a caller goes on that
-- was warned, and where the wrap-up begins
pub record Method : Type 0 where
  pub kinds : ℕ
  pub fields : List FieldDecl
  pub code : List TargetInstr
  pub first : ℕ
  pub warned : ℕ
  pub wrap_up : ℕ

-- how many lines an instruction's block has
abbrev pub plain_size : ℕ → List FieldDecl → Instr → ℕ
plain_size kinds fields (instr.LoadRoot d x) = 1
plain_size kinds fields (instr.LoadPick d x count a) = 2
plain_size kinds fields (instr.LoadField d a f) = 2
plain_size kinds fields (instr.New d kind) = new_size (field_count fields kind)
plain_size kinds fields (instr.Put a f b) = 2
plain_size kinds fields (instr.Cas exchange l) = cas_size exchange
plain_size kinds fields (instr.Unmark d a) = 2
plain_size kinds fields (instr.Mark d a) = 3
plain_size kinds fields (instr.IfMarked a l) = 2
plain_size kinds fields (instr.Commit exchanges) = commit_size kinds exchanges
plain_size kinds fields (instr.Return a) = end_size
plain_size kinds fields instr.ReturnNone = end_size
plain_size kinds fields instr.Again = end_size
plain_size kinds fields _ = 1

abbrev pub block_size : ℕ → List FieldDecl → TargetInstr → ℕ
block_size kinds fields (Plain i) = plain_size kinds fields i
block_size kinds fields Check = 2
block_size kinds fields (Guard r) = 3

-- the sizes of a method's blocks
abbrev pub method_sizes : ℕ → List FieldDecl → List TargetInstr → List ℕ
method_sizes kinds fields code = map (block_size kinds fields) code

-- the line of an instruction's block
abbrev pub start : Method → ℕ → ℕ
start method at = start_of method.first (method_sizes method.kinds method.fields method.code) at

-- the block of the instruction at a place
abbrev pub plain_block : Method → ℕ → Instr → List Line
plain_block method at (instr.LoadRoot d x) = root_block d x
plain_block method at (instr.LoadPick d x count a) = pick_block d x count a
plain_block method at (instr.LoadField d a f) = load_block d a (kind_of_field method.fields f) (place_of method.fields f)
plain_block method at (instr.New d kind) = new_block (start method at) d kind (cradle_of_kind kind method.code at) (field_count method.fields kind)
plain_block method at (instr.Put a f b) = put_block a (kind_of_field method.fields f) (place_of method.fields f) b
plain_block method at (instr.Cas exchange l) = cas_block method.fields (start method at) exchange (start method l)
plain_block method at (instr.Commit exchanges) = commit_block method.fields method.kinds method.wrap_up (start method at) 0 exchanges
plain_block method at (instr.Return a) = return_block (start method at) a
plain_block method at instr.ReturnNone = none_block (start method at)
plain_block method at instr.Again = again_block (start method at) 0
plain_block method at i = local_block (start method) i

abbrev pub block_at : Method → ℕ → TargetInstr → List Line
block_at method at (Plain i) = plain_block method at i
block_at method at Check = check_block method.warned
block_at method at (Guard r) = guard_block r

-- the blocks of some of a method's instructions, of which the first has this number
abbrev pub blocks_from : Method → ℕ → List TargetInstr → List (List Line)
blocks_from method at [] = []
blocks_from method at (i ∷ code) = block_at method at i ∷ blocks_from method (at + 1) code

-- the lines of a method
abbrev pub method_lines : Method → List Line
method_lines method = all_lines (blocks_from method 0 method.code)

-- how many they are
abbrev pub method_size : Method → ℕ
method_size method = sum_first (method_sizes method.kinds method.fields method.code) (length method.code)
