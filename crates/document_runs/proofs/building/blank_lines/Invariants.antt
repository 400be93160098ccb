use Rattle.std.proofs.Common.{◌≡◌, ◌++◌, drop}
use Rattle.document_runs.specs.Reports.{all_lines}
use Rattle.document_runs.specs.Blanks.{no_answer}
use Rattle.document_runs.proofs.building.blank_lines.Given as goal

-- those that are made and those that are left are all
abbrev pub invariant-loop-caller : goal.invariant-loop-caller
invariant-loop-caller l = l.lines.items ++ all_lines no_answer l.caller (drop l.caller l.scripts) ≡ all_lines no_answer 0 l.scripts
