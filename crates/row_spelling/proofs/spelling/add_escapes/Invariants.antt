use Rattle.std.proofs.Common.{◌≡◌, drop}
use Rattle.row_spelling.specs.Spelling.{onto, all_spelled, escape_spelled}
use Rattle.row_spelling.proofs.spelling.add_escapes.Given as goal

-- what is left, added to what is there, gives what the whole gives
abbrev pub invariant-loop-part : goal.invariant-loop-part
invariant-loop-part l =
    onto l.out.items (all_spelled (λ part. escape_spelled l.copy part.now) (drop l.part-index l.parts))
    ≡ onto l.fn.out.items (all_spelled (λ part. escape_spelled l.copy part.now) l.parts)
