use Rattle.std.proofs.Common.{arith}
use Rattle.oa_text.proofs.Counts.{length-lines_of-le}
use Rattle.messages.proofs.message.named_in.Goals as goal

pub named_for-requires : goal.named_for-requires
named_for-requires c = omega (arith, length-lines_of-le c.args.bytes.now, c.requires)
