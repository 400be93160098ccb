use Rattle.std.proofs.Common.{rules}
use Rattle.norm_parser.proofs.sections.in_section.Goals as goal

pub returns-in-Fields : goal.returns-in-Fields
returns-in-Fields c = search rules
