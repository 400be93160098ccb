use Rattle.norm_paths.proofs.Founding.{op_within}
use Rattle.rule_registers.proofs.Decides.{no_instruction}
use Rattle.rule_registers.proofs.search.blamed_in.Goals as goal

pub blamed_at-requires-clause-within : goal.blamed_at-requires-clause-within
blamed_at-requires-clause-within c = op_within c.args.text.now c.args.refusal.op c.args.op.now c.requires.limits c.requires.numbered

pub returns-in-None : goal.returns-in-None
returns-in-None c = no_instruction c.args.text.now c.args.op.now c.args.refusal c.requires.numbered c.in-None.ensures
