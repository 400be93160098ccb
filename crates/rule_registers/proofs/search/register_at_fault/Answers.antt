use Rattle.rule_registers.proofs.Decides.{no_operation}
use Rattle.rule_registers.proofs.search.register_at_fault.Goals as goal

pub returns-in-None : goal.returns-in-None
returns-in-None c = no_operation c.args.text.now c.args.refusal c.in-None.ensures
