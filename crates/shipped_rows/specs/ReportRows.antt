-- A report of two callers, call by call, whose claims together are more than a word holds.
use Rattle.std.specs.Prelude.{◌≡◌, ℕ, ◌-◌, ◌^◌, [], ◌∷◌, codes}
use Rattle.norm_lang.specs.declared.reply.SourceReply.TheVariants as replies
use Rattle.documents.specs.declared.document.ScriptCall.{ScriptCall}
use Rattle.documents.specs.declared.document.Document.{Document}
use Rattle.caller_parts.specs.declared.routine.Routine.TheVariants.{At}
use Rattle.caller_steps.specs.Entries.{Entry, idle_entry}
use Rattle.core_rows.specs.ReplayRows.{add}
use Rattle.document_runs.specs.declared.report.Answer.{Answer}
use Rattle.document_runs.specs.declared.report.Answer.TheVariants as answers
use Rattle.document_runs.specs.declared.report.ReportLine.{ReportLine}
use Rattle.document_runs.specs.declared.report.Report.{Report}
use Rattle.document_runs.specs.Reports.{capped, report_with}
use Rattle.law_rows.specs.CallRuns.{run_with}
use Rattle.shipped_rows.specs.WorkloadRows.{first_document}

abbrev pub call_line : ℕ → ScriptCall
call_line value = record { line = 7; name = codes "add"; args = value ∷ [] }

-- three calls of caller 0, and one of caller 1
abbrev pub added_document : Document
added_document = record first_document { scripts = (call_line 5 ∷ call_line 6 ∷ call_line 7 ∷ []) ∷ (call_line 8 ∷ []) ∷ [] }

-- caller 0 has a reply, and runs its second call still; caller 1 has taken none. Their claims are the greatest word, and 1
abbrev pub running_second : Entry
running_second = record (idle_entry 0) {
  running = run_with (add 6);
  routine = At;
  replies = record { call = add 5; reply = replies.Number 5; steps = 5 } ∷ [];
  counts = record { restarts = 3; claims = 2 ^ 64 - 1 };
}

abbrev pub without_calls : Entry
without_calls = record (idle_entry 1) { counts = record { restarts = 4; claims = 1 } }

abbrev pub report_line : ℕ → ℕ → ℕ → Answer → ReportLine
report_line caller index value answer = record { caller = caller; index = index; name = codes "add"; args = value ∷ []; answer = answer }

abbrev pub told_report : Report
told_report = record {
  lines =
      report_line 0 0 5 (answers.Replied (replies.Number 5))
      ∷ report_line 0 1 6 answers.Spent
      ∷ report_line 0 2 7 answers.Unreached
      ∷ report_line 1 0 8 answers.Unreached
      ∷ [];
  phase = 9;
  claims = 2 ^ 64 - 1;
  restarts = 7;
}

pub record ReportRows : Type 0 where
  pub report : report_with added_document 9 (running_second ∷ without_calls ∷ []) ≡ told_report
  pub few : capped 7 ≡ 7
  pub most : capped (2 ^ 64 - 1) ≡ 2 ^ 64 - 1
  pub more : capped (2 ^ 64) ≡ 2 ^ 64 - 1
