use Rattle.source_histories.proofs.Following.{following_next}
use Rattle.source_histories.proofs.recorder.record_from.Goals as goal

pub loop-at-preserved : goal.loop-at-preserved
loop-at-preserved g c = record {
  follows =
      following_next c.args.normal.now (g.R.Reader.rules c.args.reader.now) c.args.callers c.loop-at.at c.args.events.now _ c.loop-at.state c.follow.new.state c.loop-at.slots c.follow.new.slots c.loop-at.notes c.follow.new.notes
      c.in-Ok.field-0 c.loop-at-test.true c.loop-at.invariant.follows c.loop-at.invariant.many c.in-Ok.ensures.follows c.in-Ok.ensures.written;
  of_run = c.in-Ok.ensures.run;
  many = c.in-Ok.ensures.many;
}
