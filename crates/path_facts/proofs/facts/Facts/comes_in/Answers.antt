use Rattle.std.proofs.Common.{rules}
use Rattle.path_facts.proofs.facts.Facts.comes_in.Goals as goal

pub returns-then-at-marks : goal.returns-then-at-marks
returns-then-at-marks c = search rules
