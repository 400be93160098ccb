use Rattle.std.proofs.Common.{refl}
use Rattle.oa_cli.proofs.verdicts.ending.explain_status.Goals as goal

pub returns-clause-bytes : goal.returns-clause-bytes
returns-clause-bytes g c = let said = c.explain_read.ensures.bytes in (_, (said.0, c.turn_for-turn.result, said.1, c.turn_for-turn.ensures, refl), said.2)
