use Rattle.std.proofs.Common.{rules}
use Rattle.norm_parser.proofs.draft.Draft.news.Goals as goal

pub returns : goal.returns
returns c = search rules
