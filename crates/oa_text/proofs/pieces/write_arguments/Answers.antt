use Rattle.std.proofs.Common.{Err, Ok}
use Rattle.std.proofs.lemmas.Result.{err_from_is_err_and}
use Rattle.oa_text.specs.Pieces.{argument_bytes}
use Rattle.oa_text.proofs.Writing.{item_more, item_stopped, items_done}
use Rattle.oa_text.proofs.pieces.write_arguments.Goals as goal

pub returns-in_err-write_argument-clause-bytes : goal.returns-in_err-write_argument-clause-bytes
returns-in_err-write_argument-clause-bytes g c =
    let p = err_from_is_err_and c.from_residual.result c.from_residual.ensures.1 in
    rw p.1 (c.loop-n.invariant.rest _ (Err c.in_err-write_argument.field-0.0) (item_stopped argument_bytes c.args.arguments.now c.loop-n.n-index _ _ _ c.in_err-write_argument.field-0.0 c.loop-n-test.true c.in_err-write_argument.ensures.bytes))

pub loop-n-preserved : goal.loop-n-preserved
loop-n-preserved g c = record {
  rest = λ new r next. c.loop-n.invariant.rest new r (item_more argument_bytes c.args.arguments.now c.loop-n.n-index _ _ _ new r c.loop-n-test.true c.in_ok-write_argument.ensures.bytes next);
  kept = cc (c.in_ok-write_argument.ensures.cause.kept);
}

pub returns-clause-bytes : goal.returns-clause-bytes
returns-clause-bytes g c = c.loop-n.invariant.rest _ (Ok tt) (items_done argument_bytes c.args.arguments.now c.loop-n.n-index _ c.loop-n-test.false)
