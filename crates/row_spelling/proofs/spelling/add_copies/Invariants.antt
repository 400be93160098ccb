use Rattle.std.proofs.Common.{◌≡◌, ◌-◌}
use Rattle.std.specs.List.{range_with_len}
use Rattle.row_spelling.specs.Spelling.{onto, all_spelled, text_spelled, copies_spelled}
use Rattle.row_spelling.proofs.spelling.add_copies.Given as goal

-- what is left, added to what is there, gives what the whole gives
abbrev pub invariant-loop-copy : goal.invariant-loop-copy
invariant-loop-copy l =
    onto l.out.items (all_spelled (λ copy. text_spelled copy l.lines) (range_with_len l.copy (l.count - l.copy)))
    ≡ onto l.fn.out.items (copies_spelled l.count l.lines)
