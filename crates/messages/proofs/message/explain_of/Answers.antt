use Rattle.std.proofs.Common.{arith}
use Rattle.oa_text.proofs.Counts.{length-lines_of-le}
use Rattle.messages.proofs.message.explain_of.Goals as goal

pub explain_fault-requires : goal.explain_fault-requires
explain_fault-requires g c = omega (arith, length-lines_of-le c.args.bytes.now, c.requires)

pub explain_refusal-requires : goal.explain_refusal-requires
explain_refusal-requires g c = omega (arith, length-lines_of-le c.args.bytes.now, c.requires)

pub explain_shape-requires : goal.explain_shape-requires
explain_shape-requires g c = omega (arith, length-lines_of-le c.args.bytes.now, c.requires)
