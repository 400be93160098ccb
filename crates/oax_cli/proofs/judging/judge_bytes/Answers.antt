use Rattle.std.proofs.Common.{arith, rules}
use Rattle.oa_text.proofs.Counts.{length-lines_of-le}
use Rattle.oax_cli.proofs.judging.judge_bytes.Goals as goal

pub read_certificate-requires : goal.read_certificate-requires
read_certificate-requires c = omega (arith, length-lines_of-le c.args.bytes.now, c.requires)

pub returns-in-Ok : goal.returns-in-Ok
returns-in-Ok c = search rules
