use Rattle.std.proofs.Common.{rules}
use Rattle.target_reader.proofs.draft.OpsDraft.has_place.Goals as goal

pub returns : goal.returns
returns c = search rules
