use Rattle.std.proofs.Common.{rules}
use Rattle.oa_cli.proofs.verdicts.telling.say.Goals as goal

pub returns : goal.returns
returns g c = search rules
