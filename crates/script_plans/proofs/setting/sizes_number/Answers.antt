use Rattle.std.proofs.Common.{rules}
use Rattle.script_plans.proofs.setting.sizes_number.Goals as goal

pub returns-in-Slots : goal.returns-in-Slots
returns-in-Slots c = search rules
