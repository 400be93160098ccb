-- The first scheme of compiling: what an instruction has put into a register that others may recycle is checked at once.
use Rattle.std.specs.Prelude.{false, List, map}
use Rattle.norm_lang.specs.declared.text.Instr.{Instr}
use Rattle.norm_lang.specs.declared.text.Text.{Text}
use Rattle.target_code.specs.declared.target.Target.{Target}
use Rattle.target_code.specs.Flaws.{fetches}
use Rattle.target_code.specs.Blocks.{Marked, scheme}

-- a check stands after each load and each `new`, and none before any instruction but those after guards
abbrev pub first_mark : Instr → Marked
first_mark i = record { instr = i; before = false; after = fetches i }

abbrev pub first_marks : List Instr → List Marked
first_marks code = map first_mark code

-- a text compiled
abbrev pub first_scheme : Text → Target
first_scheme = scheme first_marks
