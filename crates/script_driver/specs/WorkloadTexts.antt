-- The text of a workload.
use Rattle.std.specs.Prelude.{ℕ, Bool, false, ◌||◌, ◌==◌, List, [], ◌∷◌, ◌++◌, length, codes, decimal}
use Rattle.std.specs.List.{concat, count_by}
use Rattle.norm_lang.specs.declared.reply.SourceReply.TheVariants as replies
use Rattle.document_runs.specs.declared.report.Answer.{Answer}
use Rattle.document_runs.specs.declared.report.Answer.TheVariants as answers
use Rattle.document_runs.specs.declared.report.ReportLine.{ReportLine}
use Rattle.document_runs.specs.declared.report.Report.{Report}
use Rattle.document_runs.specs.Texts.{is_short_line, is_partial}
use Rattle.script_driver.specs.declared.tallies.Tally.{Tally}
use Rattle.script_driver.specs.declared.workload.WorkloadReport.{WorkloadReport}

-- the call replied with this number
abbrev pub is_number : ℕ → Answer → Bool
is_number n (answers.Replied (replies.Number m)) = m == n
is_number n (answers.Replied replies.Nothing) = false
is_number n (answers.Replied replies.Full) = false
is_number n (answers.Replied (replies.Phases p)) = false
is_number n answers.Spent = false
is_number n answers.Unreached = false

abbrev pub is_number_line : ℕ → ReportLine → Bool
is_number_line n line = is_number n line.answer

-- how many calls there are, how many replied with 1 and how many with 0, and how many have no answer
abbrev pub tally_of : List ReportLine → Tally
tally_of lines = record {
  calls = length lines;
  ones = count_by (is_number_line 1) lines;
  zeros = count_by (is_number_line 0) lines;
  short = count_by is_short_line lines;
}

abbrev pub tally_words : Tally → List (List ℕ)
tally_words tally =
    codes " operations " ∷ decimal tally.calls ∷ codes " ones " ∷ decimal tally.ones ∷ codes " zeros " ∷ decimal tally.zeros
    ∷ codes " short " ∷ decimal tally.short ∷ []

abbrev pub first_line : ℕ → Tally → List ℕ
first_line callers tally = concat (codes "part 1 callers " ∷ decimal callers ∷ (tally_words tally ++ codes "\n" ∷ []))

-- with the phase at the end, and the claims and the failed checks, as in a report's last line
abbrev pub second_line : Tally → Report → List ℕ
second_line tally report = concat (
    codes "part 2" ∷ (tally_words tally ++ codes " phase " ∷ decimal report.phase
    ∷ codes " claims " ∷ decimal report.claims ∷ codes " restarts " ∷ decimal report.restarts ∷ codes "\n" ∷ []))

-- a line for each part
abbrev pub workload_text : WorkloadReport → List ℕ
workload_text report = first_line report.callers (tally_of report.first.lines) ++ second_line (tally_of report.second.lines) report.second

-- some call that is counted has no answer
abbrev pub is_short : WorkloadReport → Bool
is_short report = is_partial report.first || is_partial report.second
