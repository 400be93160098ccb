-- The text of a report.
use Rattle.std.specs.Prelude.{ℕ, Bool, true, false, not, List, [], ◌∷◌, ◌++◌, codes, decimal}
use Rattle.std.specs.List.{concat, flat_map, list_any, count_by}
use Rattle.oa_text.specs.Pieces.{argument_bytes}
use Rattle.norm_lang.specs.declared.reply.SourceReply.TheVariants as replies
use Rattle.document_runs.specs.declared.report.Answer.{Answer}
use Rattle.document_runs.specs.declared.report.Answer.TheVariants as answers
use Rattle.document_runs.specs.declared.report.ReportLine.{ReportLine}
use Rattle.document_runs.specs.declared.report.Report.{Report}

-- a call was answered if it returned, with a number or without
abbrev pub is_answered : Answer → Bool
is_answered (answers.Replied (replies.Number n)) = true
is_answered (answers.Replied replies.Nothing) = true
is_answered (answers.Replied replies.Full) = false
is_answered (answers.Replied (replies.Phases p)) = false
is_answered answers.Spent = false
is_answered answers.Unreached = false

abbrev pub is_answered_line : ReportLine → Bool
is_answered_line line = is_answered line.answer

abbrev pub is_short_line : ReportLine → Bool
is_short_line line = not (is_answered line.answer)

-- some answer is none of these
abbrev pub is_partial : Report → Bool
is_partial report = list_any is_short_line report.lines

-- an answer is a word, a number, or `phases` and a number
abbrev pub answer_word : Answer → List ℕ
answer_word (answers.Replied (replies.Number n)) = []
answer_word (answers.Replied replies.Nothing) = codes "none"
answer_word (answers.Replied replies.Full) = codes "full"
answer_word (answers.Replied (replies.Phases p)) = codes "phases "
answer_word answers.Spent = codes "spent"
answer_word answers.Unreached = codes "unreached"

abbrev pub answer_number : Answer → List ℕ
answer_number (answers.Replied (replies.Number n)) = decimal n
answer_number (answers.Replied replies.Nothing) = []
answer_number (answers.Replied replies.Full) = []
answer_number (answers.Replied (replies.Phases p)) = decimal p
answer_number answers.Spent = []
answer_number answers.Unreached = []

-- the caller's number, the call's index, the operation's name, each argument after a space, a colon and the answer
abbrev pub line_text : ReportLine → List ℕ
line_text line = concat (
    decimal line.caller ∷ codes " " ∷ decimal line.index ∷ codes " " ∷ line.name ∷ flat_map argument_bytes line.args ∷ codes ": "
    ∷ answer_word line.answer ∷ answer_number line.answer ∷ codes "\n" ∷ [])

-- the counts of calls that were answered and that weren't, the phase, and the counts of claims and of failed checks
abbrev pub summary_text : ℕ → ℕ → Report → List ℕ
summary_text answered short report = concat (
    codes "replies " ∷ decimal answered ∷ codes " short " ∷ decimal short ∷ codes " phase " ∷ decimal report.phase
    ∷ codes " claims " ∷ decimal report.claims ∷ codes " restarts " ∷ decimal report.restarts ∷ codes "\n" ∷ [])

-- a line for each call, and one that sums up
abbrev pub report_text : Report → List ℕ
report_text report = flat_map line_text report.lines ++ summary_text (count_by is_answered_line report.lines) (count_by is_short_line report.lines) report
