use Rattle.std.proofs.Common.{rules}
use Rattle.oa_cli.proofs.verdicts.telling.method_word.Goals as goal

pub returns-then-wrapup : goal.returns-then-wrapup
returns-then-wrapup c = search rules
