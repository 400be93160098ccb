use Rattle.std.proofs.Common.{◌≡◌, ◌+◌, ◌≤◌, drop}
use Rattle.std.specs.List.{count_by}
use Rattle.document_runs.specs.Texts.{is_answered_line}
use Rattle.document_runs.proofs.printing.count_answered.Given as goal

-- those so far and those that are left are all
abbrev pub invariant-loop-line : goal.invariant-loop-line
invariant-loop-line l = record {
  all : l.count + count_by is_answered_line (drop l.line-index l.lines) ≡ count_by is_answered_line l.lines;
  within : l.count ≤ l.line-index;
}
