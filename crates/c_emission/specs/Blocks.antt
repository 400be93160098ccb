-- The lines of an instruction that is one access, its block; of a clear of hazards; and of tables of locals.
--
-- Locals of an operation: 0 to 7 are n0 to n7, and 8 to 15 are r0 to r7, as words. 16 to 19 are the arguments. 20 is the warning that was seen, and
-- 21 to 28 are what stands in the own hazards of r0 to r7. 29 is a word that was found, 30 a slot, 31 another word, and 32 how many exchanges of a
-- list succeeded. 33 to 48 are what the registers held at the wrap-up's start.
use Rattle.std.specs.Prelude.{ℕ, zero, suc, ◌+◌, Bool, List, [], ◌∷◌, ◌++◌, if◌then◌else◌}
use Rattle.norm_lang.specs.declared.text.Reg.{Reg}
use Rattle.norm_lang.specs.declared.text.Reg.TheVariants.{Num, Ref}
use Rattle.guard_words.specs.Guards.{is_spared}
use Rattle.caller_parts.specs.Operands.{register_number}
use Rattle.c_language.specs.declared.lines.Parameter.TheVariants.{Own}
use Rattle.c_language.specs.declared.lines.Operand.TheVariants.{Number, Local, Of}
use Rattle.c_language.specs.declared.lines.Value.TheVariants as values
use Rattle.c_language.specs.declared.lines.Place.TheVariants as places
use Rattle.c_language.specs.declared.lines.Test.TheVariants as tests
use Rattle.c_language.specs.declared.lines.Line.{Line}
use Rattle.c_language.specs.declared.lines.Line.TheVariants as lines

-- the local of a register
abbrev pub local_of : Reg → ℕ
local_of (Num r) = r
local_of (Ref r) = 8 + r

-- the slot that a register of references names, 0 for null, into local 30
abbrev pub slot_line : Reg → Line
slot_line a = lines.Let 30 (values.Over (Local (local_of a)) (Number 2))

-- a load of a root
abbrev pub root_block : Reg → ℕ → List Line
root_block d x = lines.Load (local_of d) (places.Root x (Number 0)) ∷ []

-- a load of one of so many roots from one on, by a number
abbrev pub pick_block : Reg → ℕ → ℕ → Reg → List Line
pick_block d x count a = lines.Let 31 (values.Rest (Local (local_of a)) (Number count)) ∷ lines.Load (local_of d) (places.Root x (Local 31)) ∷ []

-- a load of the field at a place of a kind's node
abbrev pub load_block : Reg → Reg → ℕ → ℕ → List Line
load_block d a kind g = slot_line a ∷ lines.Load (local_of d) (places.Field kind (Local 30) g) ∷ []

-- a store to it
abbrev pub put_block : Reg → ℕ → ℕ → Reg → List Line
put_block a kind g b = slot_line a ∷ lines.Store (places.Field kind (Local 30) g) (Local (local_of b)) ∷ []

-- a check; where a caller goes on that was warned
abbrev pub check_block : ℕ → List Line
check_block warned = lines.Load 29 (places.Warning (Of Own)) ∷ lines.If (tests.Differ (Local 29) (Local 20)) warned ∷ []

-- a guard
abbrev pub guard_block : Reg → List Line
guard_block r =
    slot_line r
    ∷ lines.Store (places.Hazard (Of Own) (Number (register_number r))) (Local 30)
    ∷ lines.Let (21 + register_number r) (values.Is (Local 30))
    ∷ []

-- the clear of a register's hazard, at a line
abbrev pub clear_line : ℕ → ℕ → List Line
clear_line base r =
    lines.If (tests.Equal (Local (21 + r)) (Number 0)) (base + 3)
    ∷ lines.Store (places.Hazard (Of Own) (Number r)) (Number 0)
    ∷ lines.Let (21 + r) (values.Is (Number 0))
    ∷ []

-- a clear of so many registers' hazards from one on, at a line, but for those that are spared
abbrev pub clear_lines : List Bool → ℕ → ℕ → ℕ → List Line
clear_lines spared base r zero = []
clear_lines spared base r (suc n) =
    if is_spared spared r then clear_lines spared base (r + 1) n else (clear_line base r ++ clear_lines spared (base + 3) (r + 1) n)

-- how many lines a clear has
abbrev pub clear_size : List Bool → ℕ → ℕ → ℕ
clear_size spared r zero = 0
clear_size spared r (suc n) = if is_spared spared r then clear_size spared (r + 1) n else 3 + clear_size spared (r + 1) n

-- so many locals from one on become those from another on
abbrev pub copy_lines : ℕ → ℕ → ℕ → List Line
copy_lines to from zero = []
copy_lines to from (suc n) = lines.Let to (values.Is (Local from)) ∷ copy_lines (to + 1) (from + 1) n

-- so many locals from one on become 0
abbrev pub zero_lines : ℕ → ℕ → List Line
zero_lines to zero = []
zero_lines to (suc n) = lines.Let to (values.Is (Number 0)) ∷ zero_lines (to + 1) n
