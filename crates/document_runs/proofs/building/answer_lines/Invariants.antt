use Rattle.std.proofs.Common.{◌≡◌, map}
use Rattle.oa_core.specs.Finals.{core_part}
use Rattle.document_runs.specs.Blanks.{answered_by}
use Rattle.document_runs.proofs.Answering.{half_answered}
use Rattle.document_runs.proofs.building.answer_lines.Given as goal

-- what is left to be answered gives the whole
abbrev pub invariant-loop-line : goal.invariant-loop-line
invariant-loop-line l = half_answered (map core_part l.entries) l.line-index l.lines ≡ map (answered_by (map core_part l.entries)) l.fn.lines
