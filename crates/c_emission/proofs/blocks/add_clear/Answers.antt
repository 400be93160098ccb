use Rattle.std.proofs.Common.{arith}
use Rattle.c_emission.proofs.Steps.{clear_goes, line_near}
use Rattle.c_emission.proofs.blocks.add_clear.Goals as goal

pub loop-register-preserved : goal.loop-register-preserved
loop-register-preserved c = record {
  same =
      clear_goes c.args.spared c.loop-register.line c.in_ok-line.line c.loop-register.register c.is_spared-left_out.result c.loop-register.lines.items
      c.add_clear_unless.new.lines.items _ (omega (arith, c.loop-register-test.true)) c.is_spared-left_out.ensures c.in_ok-line.ensures.line
      c.in_ok-line.ensures.added c.loop-register.invariant.same;
  near =
      line_near c.is_spared-left_out.result c.args.base c.loop-register.line c.in_ok-line.line c.loop-register.register c.in_ok-line.ensures.line
      c.loop-register.invariant.near;
}
