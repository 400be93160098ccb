use Rattle.oa_text.proofs.Digits.{opened, some_room, digit_more, digit_last}
use Rattle.oa_text.proofs.decimal.digits_into.Goals as goal

pub loop-rest-init : goal.loop-rest-init
loop-rest-init c = opened c.args.buffer.now c.args.n c.told-buffer c.ranges.n.fits

pub overflow_sub-at : goal.overflow_sub-at
overflow_sub-at c = some_room _ _ _ _ c.loop-rest.invariant

pub loop-rest-preserved : goal.loop-rest-preserved
loop-rest-preserved c = digit_more _ _ _ _ c.loop-rest-test.true c.loop-rest.invariant

pub overflow_sub-at-2 : goal.overflow_sub-at-2
overflow_sub-at-2 c = some_room _ _ _ _ c.loop-rest.invariant

pub returns-clause-digits : goal.returns-clause-digits
returns-clause-digits c = digit_last _ _ _ _ c.loop-rest-test.false c.loop-rest.invariant
