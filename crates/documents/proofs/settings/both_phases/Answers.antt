use Rattle.std.proofs.Common.{rules}
use Rattle.documents.proofs.settings.both_phases.Goals as goal

pub returns : goal.returns
returns c = search rules
