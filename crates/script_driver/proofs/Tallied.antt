-- What is written of tallies is the text of their lines.
use Rattle.std.proofs.Common.{◌≡◌, ℕ, ◌++◌, List, Option, Result, subst}
use Rattle.oa_text.specs.Written.{Writes}
use Rattle.oa_text.specs.declared.source.Failed.{Failed}
use Rattle.script_driver.specs.declared.tallies.Tally.{Tally}
use Rattle.script_driver.specs.declared.workload.WorkloadReport.{WorkloadReport}
use Rattle.script_driver.specs.WorkloadTexts.{tally_of, first_line, second_line, workload_text}

pub told : (old new : Option (List ℕ)) (result : Result (Unit {0}) Failed) (report : WorkloadReport) (first second : Tally)
    → first ≡ tally_of report.first.lines → second ≡ tally_of report.second.lines
    → Writes old new (first_line report.callers first ++ second_line second report.second) result → Writes old new (workload_text report) result
told old new result report first second is also writes =
    subst (λ (t : Tally). Writes old new (first_line report.callers t ++ second_line (tally_of report.second.lines) report.second) result) is
    (subst (λ (t : Tally). Writes old new (first_line report.callers first ++ second_line t report.second) result) also writes)
