use Rattle.std.proofs.Common.{rules}
use Rattle.histories.proofs.shared.Shared.reply_to.Goals as goal

pub returns-in-Insert : goal.returns-in-Insert
returns-in-Insert c = search rules
