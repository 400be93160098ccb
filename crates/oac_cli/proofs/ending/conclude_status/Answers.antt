use Rattle.std.proofs.Common.{rules, inl, inr}
use Rattle.oac_cli.proofs.ending.conclude_status.Goals as goal

pub returns-in-Err-clause-number : goal.returns-in-Err-clause-number
returns-in-Err-clause-number g c = search rules

pub returns-in-Ok-clause-explained : goal.returns-in-Ok-clause-explained
returns-in-Ok-clause-explained g c = let said = c.in-Ok.ensures.bytes in (said.0, said.1, inl said.2)

pub returns-in-Err-clause-explained : goal.returns-in-Err-clause-explained
returns-in-Err-clause-explained g c = let said = c.in-Err.ensures.bytes in (said.0, said.1, inr (c.in-Err.ensures.cause.failed, said.2))
