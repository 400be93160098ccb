use Rattle.std.proofs.Common.{rules}
use Rattle.norm_parser.proofs.instruction.add_entries.Goals as goal

pub returns-clause-entries : goal.returns-clause-entries
returns-clause-entries c = search rules
