use Rattle.std.proofs.Common.{rules}
use Rattle.text_lines.proofs.Wholes.{whole_reads}
use Rattle.text_lines.proofs.steps.read_step.Goals as goal

pub returns-else-says : goal.returns-else-says
returns-else-says c =
    whole_reads c.args.version c.args.kinds.now c.args.fields.now c.args.roots.now c.args.word.now c.args.words c.read_instr.result c.whole.result (search rules) c.read_instr.ensures c.whole.ensures
