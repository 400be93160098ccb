use Rattle.std.proofs.Common.{sym, ◌∙◌, arith}
use Rattle.row_spelling.specs.Spelling.{count_spelled}
use Rattle.row_spelling.proofs.Adding.{all_more}
use Rattle.row_spelling.proofs.spelling.add_after_counts.Goals as goal

pub loop-part-preserved : goal.loop-part-preserved
loop-part-preserved c =
    sym (all_more (λ part. count_spelled c.args.named.now part.now) c.args.parts.now c.loop-part.part-index _ c.loop-part.out.items c.add_after_count.new.out.items
    (omega (arith, c.loop-part-test.true, c.loop-part.auto.part-index-end)) c.in_ok-add_after_count.ensures)
    ∙ c.loop-part.invariant
