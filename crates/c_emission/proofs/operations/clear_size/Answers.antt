use Rattle.std.proofs.Common.{arith}
use Rattle.c_emission.proofs.Steps.{size_goes, three_more}
use Rattle.c_emission.proofs.operations.clear_size.Goals as goal

pub loop-register-preserved : goal.loop-register-preserved
loop-register-preserved c = record {
  same =
      size_goes c.args.spared c.loop-register.register c.loop-register.size c.cleared_size-size.result _ c.is_spared-left_out.result
      (omega (arith, c.loop-register-test.true)) c.is_spared-left_out.ensures c.cleared_size-size.ensures c.loop-register.invariant.same;
  few = three_more c.is_spared-left_out.result c.cleared_size-size.result c.loop-register.size c.loop-register.register c.cleared_size-size.ensures c.loop-register.invariant.few;
}
