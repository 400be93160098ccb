use Rattle.std.proofs.Common.{arith}
use Rattle.c_printer.proofs.ClaimsPut.{claim_more}
use Rattle.c_printer.proofs.header.put_claim_texts.Goals as goal

pub loop-kind-preserved : goal.loop-kind-preserved
loop-kind-preserved c =
    claim_more c.args.name.now c.args.kinds c.loop-kind.kind c.loop-kind.out.items c.put_claim_text.new.out.items _ (omega (arith, c.loop-kind-test.true))
    c.in_ok-put_claim_text.ensures c.loop-kind.invariant
