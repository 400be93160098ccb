use Rattle.std.proofs.Common.{arith}
use Rattle.oa_text.proofs.Counts.{length-lines_of-le}
use Rattle.oac_cli.proofs.top.judge_bytes.Goals as goal

pub read_document-requires : goal.read_document-requires
read_document-requires c = omega (arith, length-lines_of-le c.args.bytes.now, c.requires)
