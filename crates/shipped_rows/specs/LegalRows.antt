-- Reports of a set and of a queue that have a legal history, and such as have none.
use Rattle.std.specs.Prelude.{ℕ, List, [], ◌∷◌, codes}
use Rattle.norm_lang.specs.declared.reply.SourceReply.TheVariants as replies
use Rattle.document_runs.specs.declared.report.Answer.{Answer}
use Rattle.document_runs.specs.declared.report.Answer.TheVariants as answers
use Rattle.document_runs.specs.declared.report.ReportLine.{ReportLine}
use Rattle.document_runs.specs.declared.report.Report.{Report}
use Rattle.script_driver.specs.report_laws.Legal.{HasLegalHistory}

abbrev pub key_line : ℕ → ℕ → List ℕ → ℕ → Answer → ReportLine
key_line caller index name key answer = record { caller = caller; index = index; name = name; args = key ∷ []; answer = answer }

abbrev pub number : ℕ → Answer
number n = answers.Replied (replies.Number n)

abbrev pub of_lines : List ReportLine → Report
of_lines lines = record { lines = lines; phase = 1; claims = 0; restarts = 0 }

-- caller 0 puts in 5 with an answer, and then finds it or not
abbrev pub put_and_found : Answer → ℕ → Report
put_and_found answer found = of_lines (key_line 0 0 (codes "insert") 5 answer ∷ key_line 0 1 (codes "contains") 5 (number found) ∷ [])

-- caller 0 puts in 5, which caller 1 doesn't find, but took out
abbrev pub shared_by_two : Report
shared_by_two = of_lines (
    key_line 0 0 (codes "insert") 5 (number 1)
    ∷ key_line 1 0 (codes "contains") 5 (number 0)
    ∷ key_line 1 1 (codes "remove") 5 (number 1)
    ∷ [])

abbrev pub dequeue_line : ℕ → Answer → ReportLine
dequeue_line index answer = record { caller = 0; index = index; name = codes "dequeue"; args = []; answer = answer }

-- caller 0 enqueues 9, and takes a value
abbrev pub put_and_taken : Answer → Report
put_and_taken answer = of_lines (key_line 0 0 (codes "enqueue") 9 (number 9) ∷ dequeue_line 1 answer ∷ [])

pub record LegalRows : Type 0 where
  pub found : HasLegalHistory (put_and_found (number 1) 1)
  pub not_found : HasLegalHistory (put_and_found (number 1) 0) → ⊥
  -- a call that gave up, or was never begun, put nothing in; a spent one may have
  pub full : HasLegalHistory (put_and_found (answers.Replied replies.Full) 0)
  pub found_though_full : HasLegalHistory (put_and_found (answers.Replied replies.Full) 1) → ⊥
  pub found_after_phases : HasLegalHistory (put_and_found (answers.Replied (replies.Phases 7)) 1) → ⊥
  pub found_though_unreached : HasLegalHistory (put_and_found answers.Unreached 1) → ⊥
  pub spent_with_effect : HasLegalHistory (put_and_found answers.Spent 1)
  pub spent_without : HasLegalHistory (put_and_found answers.Spent 0)
  -- the calls of two callers go between each other
  pub two_callers : HasLegalHistory shared_by_two
  pub taken : HasLegalHistory (put_and_taken (number 9))
  pub nothing_taken : HasLegalHistory (put_and_taken (answers.Replied replies.Nothing)) → ⊥
  pub another_taken : HasLegalHistory (put_and_taken (number 8)) → ⊥
