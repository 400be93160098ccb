use Rattle.std.proofs.Common.{◌≡◌, drop}
use Rattle.row_spelling.specs.Spelling.{onto, all_spelled, count_spelled}
use Rattle.row_spelling.proofs.spelling.add_after_counts.Given as goal

-- what is left, added to what is there, gives what the whole gives
abbrev pub invariant-loop-part : goal.invariant-loop-part
invariant-loop-part l =
    onto l.out.items (all_spelled (λ part. count_spelled l.named part.now) (drop l.part-index l.parts))
    ≡ onto l.fn.out.items (all_spelled (λ part. count_spelled l.named part.now) l.parts)
