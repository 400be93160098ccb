use Rattle.std.proofs.Common.{rules}
use Rattle.norm_parser.proofs.sections.in_roots.Goals as goal

pub returns-in_err-root : goal.returns-in_err-root
returns-in_err-root c = search rules

pub returns-in_ok-add_root : goal.returns-in_ok-add_root
returns-in_ok-add_root c = search rules
