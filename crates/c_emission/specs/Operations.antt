-- All lines of an operation: the generator with its start and its restart, and the wrap-up with its own.
use Rattle.std.specs.Prelude.{ℕ, ◌+◌, Bool, List, [], ◌∷◌, ◌++◌, length, Some}
use Rattle.target_code.specs.declared.target.TargetOp.{TargetOp}
use Rattle.target_code.specs.declared.target.Target.{Target}
use Rattle.caller_parts.specs.Spared.{none_spared, kept_by}
use Rattle.c_language.specs.declared.lines.Parameter.TheVariants.{Own}
use Rattle.c_language.specs.declared.lines.Operand.TheVariants.{Local, Of}
use Rattle.c_language.specs.declared.lines.Value.TheVariants as values
use Rattle.c_language.specs.declared.lines.Place.TheVariants as places
use Rattle.c_language.specs.declared.lines.Line.{Line}
use Rattle.c_language.specs.declared.lines.Line.TheVariants as lines
use Rattle.c_emission.specs.Blocks.{clear_lines, clear_size, copy_lines, zero_lines}
use Rattle.c_emission.specs.Layout.{Method, method_lines, method_size}

-- the own warning is loaded into `seen`
abbrev pub seen_lines : List Line
seen_lines = lines.Load 20 (places.Warning (Of Own)) ∷ []

-- the registers with which a generator starts: the arguments in n0 and up, every other register 0 or null
abbrev pub first_lines : List Line
first_lines = copy_lines 0 16 4 ++ zero_lines 4 12

-- the line of a generator's start after its load
abbrev pub generator_line : ℕ
generator_line = 1

-- and that of its first block
abbrev pub first_block_line : ℕ
first_block_line = 17

-- after a check that failed, from a line on: what was found is `seen` now, the hazards are cleared but for those that are spared, and the method
-- begins again at a line
abbrev pub warned_lines : ℕ → List Bool → ℕ → List Line
warned_lines base spared again = lines.Let 20 (values.Is (Local 29)) ∷ (clear_lines spared (base + 1) 0 8 ++ lines.Goto again ∷ [])

abbrev pub warned_size : List Bool → ℕ
warned_size spared = 2 + clear_size spared 0 8

-- the start of a wrap-up, from a line on: n7 is how many exchanges succeeded, the registers are kept for a restart, and the hazards are cleared but for
-- those that the wrap-up keeps. The restart is the last part
abbrev pub wrap_up_lines : ℕ → List Bool → List Line
wrap_up_lines base spared =
    lines.Let 7 (values.Is (Local 32)) ∷ (copy_lines 33 0 16 ++ (clear_lines spared (base + 17) 0 8 ++ (seen_lines ++ copy_lines 0 33 16)))

-- the line of the restart, counted from the first of them
abbrev pub restart_offset : List Bool → ℕ
restart_offset spared = 18 + clear_size spared 0 8

abbrev pub wrap_up_size : List Bool → ℕ
wrap_up_size spared = 34 + clear_size spared 0 8

-- ---- the lines where an operation's parts begin

abbrev pub generator_of : Target → TargetOp → ℕ → ℕ → Method
generator_of target op warned wrap_up =
    record { kinds = length target.kinds; fields = target.fields; code = op.generator; first = first_block_line; warned = warned; wrap_up = wrap_up }

-- where a generator goes on that was warned: behind its last block. Sizes don't depend on lines
abbrev pub generator_warned : Target → TargetOp → ℕ
generator_warned target op = first_block_line + method_size (generator_of target op 0 0)

abbrev pub wrap_up_line : Target → TargetOp → ℕ
wrap_up_line target op = generator_warned target op + warned_size none_spared

-- where the wrap-up goes on after a restart
abbrev pub restart_line : Target → TargetOp → ℕ
restart_line target op = wrap_up_line target op + restart_offset (kept_by (Some op))

abbrev pub wrap_up_first : Target → TargetOp → ℕ
wrap_up_first target op = wrap_up_line target op + wrap_up_size (kept_by (Some op))

abbrev pub wrap_up_of : Target → TargetOp → ℕ → Method
wrap_up_of target op warned =
    record {
      kinds = length target.kinds;
      fields = target.fields;
      code = op.wrapup;
      first = wrap_up_first target op;
      warned = warned;
      wrap_up = wrap_up_line target op;
    }

abbrev pub wrap_up_warned : Target → TargetOp → ℕ
wrap_up_warned target op = wrap_up_first target op + method_size (wrap_up_of target op 0)

-- ---- the parts

-- the generator of an operation
abbrev pub generator : Target → TargetOp → Method
generator target op = generator_of target op (generator_warned target op) (wrap_up_line target op)

-- its wrap-up
abbrev pub wrap_up : Target → TargetOp → Method
wrap_up target op = wrap_up_of target op (wrap_up_warned target op)

abbrev pub generator_part : Target → TargetOp → List Line
generator_part target op =
    seen_lines ++ (first_lines ++ (method_lines (generator target op) ++ warned_lines (generator_warned target op) none_spared generator_line))

abbrev pub wrap_up_part : Target → TargetOp → List Line
wrap_up_part target op =
    wrap_up_lines (wrap_up_line target op) (kept_by (Some op))
    ++ (method_lines (wrap_up target op) ++ warned_lines (wrap_up_warned target op) (kept_by (Some op)) (restart_line target op))

-- the lines of an operation of a target
abbrev pub operation_lines : Target → TargetOp → List Line
operation_lines target op = generator_part target op ++ wrap_up_part target op
