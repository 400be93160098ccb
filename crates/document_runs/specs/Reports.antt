-- The report of a document in a state of the core: the answer to each call, the phase, and what the callers counted.
use Rattle.std.specs.Prelude.{ℕ, ◌+◌, ◌-◌, ◌^◌, min, Bool, true, false, ◌&&◌, not, List, [], ◌∷◌, ◌++◌, map, length, Option, Some, None, ◌==◌, slice_get}
use Rattle.std.specs.List.{sum_by}
use Rattle.norm_lang.specs.declared.reply.SourceReply.{SourceReply}
use Rattle.oa_words.specs.Words.{Phase}
use Rattle.caller_parts.specs.Pairing.{reply_of}
use Rattle.caller_steps.specs.Entries.{Entry, is_idle}
use Rattle.core_runs.specs.Machine.{CoreState, word_at}
use Rattle.documents.specs.declared.document.ScriptCall.{ScriptCall}
use Rattle.documents.specs.declared.document.Document.{Document}
use Rattle.script_plans.specs.Shapes.{setting_of}
use Rattle.document_runs.specs.declared.report.Answer.{Answer}
use Rattle.document_runs.specs.declared.report.Answer.TheVariants as answers
use Rattle.document_runs.specs.declared.report.ReportLine.{ReportLine}
use Rattle.document_runs.specs.declared.report.Report.{Report}

-- ---- the answer to a call

-- a call without a reply is spent if it runs still, and else it was not reached
abbrev pub unanswered : Bool → Answer
unanswered true = answers.Spent
unanswered false = answers.Unreached

abbrev pub answer_from : Option SourceReply → Bool → Answer
answer_from None runs = unanswered runs
answer_from (Some reply) runs = answers.Replied reply

-- by the replies so far and whether a call runs: that is the first one after those that have a reply
abbrev pub answer_at : List SourceReply → Bool → ℕ → Answer
answer_at replies running index = answer_from (slice_get replies index) (running && (index == length replies))

abbrev pub entry_answer : Entry → ℕ → Answer
entry_answer entry index = answer_at (map reply_of entry.replies) (not (is_idle entry.routine)) index

-- none was reached of a caller that isn't there
abbrev pub answer_by : Option Entry → ℕ → Answer
answer_by None index = answers.Unreached
answer_by (Some entry) index = entry_answer entry index

-- the answer to a caller's call at an index
abbrev pub answer_among : List Entry → ℕ → ℕ → Answer
answer_among entries caller index = answer_by (slice_get entries caller) index

abbrev pub answer_in : CoreState → ℕ → ℕ → Answer
answer_in state caller index = answer_among state.entries caller index

-- ---- the lines

abbrev pub line_of : ℕ → ℕ → ScriptCall → Answer → ReportLine
line_of caller index call answer = record { caller = caller; index = index; name = call.name; args = call.args; answer = answer }

-- of a caller's calls, from an index on
abbrev pub lines_from : (ℕ → Answer) → ℕ → ℕ → List ScriptCall → List ReportLine
lines_from answer caller index [] = []
lines_from answer caller index (call ∷ script) = line_of caller index call (answer index) ∷ lines_from answer caller (index + 1) script

-- of all callers, from one on: by caller, and then by place in the script
abbrev pub all_lines : (ℕ → ℕ → Answer) → ℕ → List (List ScriptCall) → List ReportLine
all_lines answer caller [] = []
all_lines answer caller (script ∷ scripts) = lines_from (answer caller) caller 0 script ++ all_lines answer (caller + 1) scripts

-- ---- the whole

-- a count that stays at its type's end
abbrev pub capped : ℕ → ℕ
capped n = min n (2 ^ 64 - 1)

abbrev pub claims_of : Entry → ℕ
claims_of entry = entry.counts.claims

abbrev pub restarts_of : Entry → ℕ
restarts_of entry = entry.counts.restarts

-- with the phase at the end; the counts are the sums over all callers
abbrev pub report_with : Document → ℕ → List Entry → Report
report_with document phase entries = record {
  lines = all_lines (answer_among entries) 0 document.scripts;
  phase = phase;
  claims = capped (sum_by claims_of entries);
  restarts = capped (sum_by restarts_of entries);
}

-- the phase is the word of the phase
abbrev pub report_of : Document → CoreState → Report
report_of document state = report_with document (word_at (setting_of document) state Phase) state.entries
