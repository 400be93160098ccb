use Rattle.std.proofs.Common.{rules}
use Rattle.target_flaws.proofs.guards.states_after.Goals as goal

pub returns-then-same_register : goal.returns-then-same_register
returns-then-same_register c = search rules
