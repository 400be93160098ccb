use Rattle.std.proofs.Common.{◌≡◌, filter}
use Rattle.oa_text.specs.Lines.{lines_of, numbered}
use Rattle.count_messages.specs.Stray.{is_nodes_above, left_after}
use Rattle.count_messages.proofs.stray.beyond.Given as goal

abbrev pub invariant-loop-line : goal.invariant-loop-line
invariant-loop-line l = left_after l.left (filter (is_nodes_above l.number) l.line-iterator) ≡ left_after l.fn.node (filter (is_nodes_above l.number) (numbered 1 (lines_of l.bytes)))
