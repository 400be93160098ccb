-- What is said of a verdict, and its status.
use Rattle.std.specs.Prelude.{◌≡◌, ℕ, Bool, List, [], ◌∷◌, ◌++◌, ◌⊎◌, codes, decimal, Option, if◌then◌else◌}
use Rattle.std.specs.Io.KnownBytes.{Appends}
use Rattle.oa_text.specs.Causes.{Rose}
use Rattle.oa_text.specs.Written.{AppendsPrefix}
use Rattle.line_words.specs.declared.fault.ParseFault.{ParseFault}
use Rattle.document_runs.specs.Texts.{report_text, is_partial}
use Rattle.script_driver.specs.WorkloadTexts.{workload_text, is_short}
use Rattle.statuses.specs.declared.status.Status.{Status}
use Rattle.statuses.specs.declared.status.Status.TheVariants as statuses
use Rattle.oa_cli.specs.verdicts.Refusals.{refusal_line}
use Rattle.oa_cli.specs.declared.verdicts.verdict.Verdict.{Verdict}
use Rattle.oa_cli.specs.declared.verdicts.verdict.Verdict.TheVariants as verdicts

-- no call failed: the count is as it was
abbrev pub NoFault : ℕ → ℕ → Type 0
NoFault before now = now ≡ before

-- the line that tells a fault
abbrev pub fault_line : ParseFault → List ℕ
fault_line fault = codes "line " ++ decimal fault.line ++ codes " fault " ++ decimal fault.number ++ 10 ∷ []

-- the line that tells what is wrong with a document's shape
abbrev pub shape_fault_line : ℕ → ℕ → List ℕ
shape_fault_line number at = codes "shape " ++ decimal number ++ codes " at " ++ decimal at ++ 10 ∷ []

-- the line that tells why a certificate is rejected
abbrev pub rejection_line : ℕ → ℕ → List ℕ
rejection_line number at = codes "rejected " ++ decimal number ++ codes " at " ++ decimal at ++ 10 ∷ []

-- the text of a verdict, each line with its newline
abbrev pub text_for : Verdict → List ℕ
text_for (verdicts.Answered report) = report_text report
text_for (verdicts.Worked report) = workload_text report
text_for verdicts.Accepted = codes "accepted\n"
text_for (verdicts.Shown spelling) = spelling
text_for (verdicts.Compiled spelling) = spelling
text_for (verdicts.Certified spelling partial) = spelling
text_for verdicts.Usage = codes "usage\n"
text_for verdicts.ReadFault = codes "read fault\n"
text_for verdicts.LongInput = codes "long input\n"
text_for (verdicts.BadDocument fault) = fault_line fault
text_for (verdicts.Refused text refusal) = refusal_line text refusal
text_for (verdicts.BadShape number at) = shape_fault_line number at
text_for verdicts.Memory = codes "memory\n"
text_for (verdicts.Rejected number at) = rejection_line number at

-- the status of answers, of which some are short or none is
abbrev pub status_if : Bool → Status
status_if short = if short then statuses.Partial else statuses.Done

-- the status of a verdict
abbrev pub status_for : Verdict → Status
status_for (verdicts.Answered report) = status_if (is_partial report)
status_for (verdicts.Worked report) = status_if (is_short report)
status_for verdicts.Accepted = statuses.Done
status_for (verdicts.Shown spelling) = statuses.Done
status_for (verdicts.Compiled spelling) = statuses.Done
status_for (verdicts.Certified spelling partial) = status_if partial
status_for verdicts.Usage = statuses.Usage
status_for verdicts.ReadFault = statuses.ReadFault
status_for verdicts.LongInput = statuses.LongInput
status_for (verdicts.BadDocument fault) = statuses.BadDocument fault.line fault.number
status_for (verdicts.Refused text refusal) = statuses.Refused refusal
status_for (verdicts.BadShape number at) = statuses.BadShape number at
status_for verdicts.Memory = statuses.Memory
status_for (verdicts.Rejected number at) = statuses.Rejected number at

-- the whole text was written and no write failed, or the sink failed after a prefix of it
abbrev pub IsSaid : Option (List ℕ) → Option (List ℕ) → ℕ → ℕ → List ℕ → Status → Status → Type 0
IsSaid old new before now text status result =
    ((result ≡ status) × NoFault before now × Appends old new text) ⊎ ((result ≡ statuses.WriteFault) × Rose before now × AppendsPrefix old new text)
