-- Local instructions, as lines.
use Rattle.std.specs.Prelude.{ℕ, List, [], ◌∷◌}
use Rattle.norm_lang.specs.declared.text.Reg.{Reg}
use Rattle.norm_lang.specs.declared.text.Instr.{Instr}
use Rattle.norm_lang.specs.declared.text.Instr.TheVariants as instr
use Rattle.c_language.specs.declared.lines.Operand.TheVariants.{Number, Local}
use Rattle.c_language.specs.declared.lines.Value.TheVariants as values
use Rattle.c_language.specs.declared.lines.Test.TheVariants as tests
use Rattle.c_language.specs.declared.lines.Line.{Line}
use Rattle.c_language.specs.declared.lines.Line.TheVariants as lines
use Rattle.c_emission.specs.Blocks.{local_of}

abbrev pub set_block : Reg → ℕ → List Line
set_block d n = lines.Let (local_of d) (values.Is (Number n)) ∷ []

abbrev pub mov_block : Reg → Reg → List Line
mov_block d a = lines.Let (local_of d) (values.Is (Local (local_of a))) ∷ []

abbrev pub add_block : Reg → Reg → Reg → List Line
add_block d a b = lines.Let (local_of d) (values.Plus (Local (local_of a)) (Local (local_of b))) ∷ []

abbrev pub sub_block : Reg → Reg → Reg → List Line
sub_block d a b = lines.Let (local_of d) (values.Minus (Local (local_of a)) (Local (local_of b))) ∷ []

abbrev pub rem_block : Reg → Reg → ℕ → List Line
rem_block d a n = lines.Let (local_of d) (values.Rest (Local (local_of a)) (Number n)) ∷ []

abbrev pub null_block : Reg → List Line
null_block d = lines.Let (local_of d) (values.Is (Number 0)) ∷ []

-- without the mark
abbrev pub unmark_block : Reg → Reg → List Line
unmark_block d a = lines.Let 31 (values.Rest (Local (local_of a)) (Number 2)) ∷ lines.Let (local_of d) (values.Minus (Local (local_of a)) (Local 31)) ∷ []

-- with the mark: without it, and one more
abbrev pub mark_block : Reg → Reg → List Line
mark_block d a =
    lines.Let 31 (values.Rest (Local (local_of a)) (Number 2))
    ∷ lines.Let 31 (values.Minus (Local (local_of a)) (Local 31))
    ∷ lines.Let (local_of d) (values.Plus (Local 31) (Number 1))
    ∷ []

abbrev pub jump_block : ℕ → List Line
jump_block to = lines.Goto to ∷ []

abbrev pub equal_block : Reg → Reg → ℕ → List Line
equal_block a b to = lines.If (tests.Equal (Local (local_of a)) (Local (local_of b))) to ∷ []

abbrev pub less_block : Reg → Reg → ℕ → List Line
less_block a b to = lines.If (tests.Less (Local (local_of a)) (Local (local_of b))) to ∷ []

abbrev pub marked_block : Reg → ℕ → List Line
marked_block a to = lines.Let 31 (values.Rest (Local (local_of a)) (Number 2)) ∷ lines.If (tests.Equal (Local 31) (Number 1)) to ∷ []

-- the block of a local instruction, where each instruction's block starts at a line; none of another
abbrev pub local_block : (ℕ → ℕ) → Instr → List Line
local_block start (instr.Set d n) = set_block d n
local_block start (instr.Mov d a) = mov_block d a
local_block start (instr.Add d a b) = add_block d a b
local_block start (instr.Sub d a b) = sub_block d a b
local_block start (instr.Rem d a n) = rem_block d a n
local_block start (instr.Null d) = null_block d
local_block start (instr.Unmark d a) = unmark_block d a
local_block start (instr.Mark d a) = mark_block d a
local_block start (instr.Jump l) = jump_block (start l)
local_block start (instr.IfEq a b l) = equal_block a b (start l)
local_block start (instr.IfLess a b l) = less_block a b (start l)
local_block start (instr.IfMarked a l) = marked_block a (start l)
local_block start _ = []
