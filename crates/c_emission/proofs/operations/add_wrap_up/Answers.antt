use Rattle.std.proofs.Common.{◌+◌, ◌++◌, [], ◌∷◌}
use Rattle.c_language.specs.declared.lines.Operand.TheVariants.{Local}
use Rattle.c_language.specs.declared.lines.Value.TheVariants as values
use Rattle.c_language.specs.declared.lines.Line.TheVariants as lines
use Rattle.c_emission.specs.Blocks.{copy_lines, clear_lines}
use Rattle.c_emission.specs.Operations.{seen_lines}
use Rattle.c_emission.proofs.Steps.{two_added, four_added}
use Rattle.c_emission.proofs.operations.add_wrap_up.Goals as goal

pub returns : goal.returns
returns c =
    two_added c.args.lines.now.items c.extend_from_slice.new.self.items c.add_copies-2.new.lines.items (lines.Let 7 (values.Is (Local 32)) ∷ [])
    (copy_lines 33 0 16 ++ (clear_lines c.args.kept (c.args.base + 17) 0 8 ++ (seen_lines ++ copy_lines 0 33 16)))
    c.in_ok-extend_from_slice.ensures.items
    (four_added c.extend_from_slice.new.self.items c.add_copies.new.lines.items c.add_clear.new.lines.items c.add_seen.new.lines.items
    c.add_copies-2.new.lines.items (copy_lines 33 0 16) (clear_lines c.args.kept (c.args.base + 17) 0 8) seen_lines (copy_lines 0 33 16)
    c.in_ok-add_copies.ensures c.in_ok-add_clear.ensures c.in_ok-add_seen.ensures c.in_ok-add_copies-2.ensures)
