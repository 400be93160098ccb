use Rattle.std.proofs.Common.{refl}
use Rattle.oa_cli.specs.declared.verdicts.verdict.Verdict.TheVariants as verdicts
use Rattle.oac_cli.proofs.program.serve_if_had.Goals as goal

pub returns-in-None : goal.returns-in-None
returns-in-None g c = (verdicts.Memory, rw c.in-None.is (refl, record { left = refl; faults = refl }), c.refuse_for_memory.ensures)
