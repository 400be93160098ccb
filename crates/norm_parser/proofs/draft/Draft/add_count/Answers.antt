use Rattle.std.proofs.Common.{rules}
use Rattle.norm_parser.proofs.draft.Draft.add_count.Goals as goal

pub returns : goal.returns
returns c = search rules
