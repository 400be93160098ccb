use Rattle.std.proofs.Common.{Err, Ok}
use Rattle.std.proofs.lemmas.Result.{err_from_is_err_and}
use Rattle.oa_text.proofs.Writing.{item_more, item_stopped, items_done}
use Rattle.oa_text.proofs.pieces.write_each.Goals as goal

pub returns-in_err-write_to-clause-bytes : goal.returns-in_err-write_to-clause-bytes
returns-in_err-write_to-clause-bytes g c =
    let p = err_from_is_err_and c.from_residual.result c.from_residual.ensures.1 in
    rw p.1 (c.loop-thing.invariant.rest _ (Err c.in_err-write_to.field-0.0) (item_stopped g.T.Spelled.spelling c.args.things.now c.loop-thing.thing-index _ _ _ c.in_err-write_to.field-0.0 c.loop-thing-test.true (rw c.thing-item.is at c.in_err-write_to.ensures.bytes)))

pub loop-thing-preserved : goal.loop-thing-preserved
loop-thing-preserved g c = record {
  rest = λ new r next. c.loop-thing.invariant.rest new r (item_more g.T.Spelled.spelling c.args.things.now c.loop-thing.thing-index _ _ _ new r c.loop-thing-test.true (rw c.thing-item.is at c.in_ok-write_to.ensures.bytes) next);
  kept = cc (c.in_ok-write_to.ensures.cause.kept);
}

pub returns-clause-bytes : goal.returns-clause-bytes
returns-clause-bytes g c = c.loop-thing.invariant.rest _ (Ok tt) (items_done g.T.Spelled.spelling c.args.things.now c.loop-thing.thing-index _ c.loop-thing-test.false)
