use Rattle.std.proofs.Common.{rules}
use Rattle.replay_steps.proofs.counting.is_of_kind.Goals as goal

pub returns-in_default-matches : goal.returns-in_default-matches
returns-in_default-matches c = search rules
