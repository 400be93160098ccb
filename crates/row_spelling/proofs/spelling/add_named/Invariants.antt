use Rattle.std.proofs.Common.{◌≡◌, drop}
use Rattle.row_spelling.specs.Spelling.{lines_named}
use Rattle.row_spelling.proofs.spelling.add_named.Given as goal

-- nothing is added yet, and the lines with the name are among those that are left
abbrev pub invariant-loop-lines : goal.invariant-loop-lines
invariant-loop-lines l =
    (l.out.items ≡ l.fn.out.items) × (lines_named (drop l.lines-index l.named) l.name ≡ lines_named l.named l.name)
