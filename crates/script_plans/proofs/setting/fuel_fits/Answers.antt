use Rattle.std.proofs.Common.{rules}
use Rattle.script_plans.proofs.setting.fuel_fits.Goals as goal

pub returns-then-fuel-ge1 : goal.returns-then-fuel-ge1
returns-then-fuel-ge1 c = search rules
