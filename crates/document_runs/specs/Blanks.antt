-- Lines that are made before a run, and answered after it.
use Rattle.std.specs.Prelude.{ℕ, List}
use Rattle.caller_steps.specs.Entries.{Entry}
use Rattle.document_runs.specs.declared.report.Answer.{Answer}
use Rattle.document_runs.specs.declared.report.Answer.TheVariants as answers
use Rattle.document_runs.specs.declared.report.ReportLine.{ReportLine}
use Rattle.document_runs.specs.Reports.{answer_among}

-- no call was reached yet
abbrev pub nothing : ℕ → Answer
nothing index = answers.Unreached

abbrev pub no_answer : ℕ → ℕ → Answer
no_answer caller = nothing

-- a line with the answer to its call
abbrev pub answered_by : List Entry → ReportLine → ReportLine
answered_by entries line = record line { answer = answer_among entries line.caller line.index }
