use Rattle.proper_judge.specs.Marks.{is_marked}
use Rattle.proper_judge.proofs.Reaching.{mark_more}
use Rattle.proper_judge.proofs.reach.mark_all.Goals as goal

pub loop-name-preserved : goal.loop-name-preserved
loop-name-preserved c =
    mark_more c.args.names.now c.loop-name.name-index _ (is_marked c.args.marks.now) (is_marked c.loop-name.marks) (is_marked c.mark.new.self)
    c.loop-name-test.true c.loop-name.invariant c.in_ok-mark.ensures
