use Rattle.std.proofs.Common.{◌≡◌, ◌++◌, drop}
use Rattle.document_runs.specs.Reports.{lines_from}
use Rattle.document_runs.specs.Blanks.{nothing}
use Rattle.document_runs.proofs.building.add_lines.Given as goal

-- those that are made and those that are left are all
abbrev pub invariant-loop-index : goal.invariant-loop-index
invariant-loop-index l =
    l.lines.items ++ lines_from nothing l.caller l.index (drop l.index l.script) ≡ l.fn.lines.items ++ lines_from nothing l.caller 0 l.script
