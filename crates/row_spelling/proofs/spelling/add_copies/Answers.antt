use Rattle.std.proofs.Common.{sym, ◌∙◌}
use Rattle.row_spelling.specs.Spelling.{text_spelled}
use Rattle.row_spelling.proofs.Adding.{copies_more}
use Rattle.row_spelling.proofs.spelling.add_copies.Goals as goal

pub loop-copy-preserved : goal.loop-copy-preserved
loop-copy-preserved c =
    sym (copies_more (λ copy. text_spelled copy c.args.lines.now) c.loop-copy.copy c.args.count c.loop-copy.out.items c.add_bytes.new.out.items c.loop-copy-test.true c.in_ok-add_bytes.ensures)
    ∙ c.loop-copy.invariant
