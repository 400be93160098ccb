use Rattle.std.proofs.Common.{rules}
use Rattle.script_driver.proofs.tallies.is_number.Goals as goal

pub returns-in-Replied-Full : goal.returns-in-Replied-Full
returns-in-Replied-Full c = search rules

pub returns-in-Spent : goal.returns-in-Spent
returns-in-Spent c = search rules
