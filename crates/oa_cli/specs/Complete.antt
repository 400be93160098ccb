-- That all is answered which nothing refuses.
use Rattle.std.specs.Prelude.{◌≡◌, ℕ, ◌<◌, List, ◌⊎◌, length, Option, Some, None}
use Rattle.oa_text.specs.Causes.{Rose}
use Rattle.norm_lang.specs.NormalForm.{IsNormal}
use Rattle.documents.specs.declared.document.Document.{Document}
use Rattle.documents.specs.DocumentRead.{IsDocument}
use Rattle.script_plans.specs.Plans.{IsRunnable}
use Rattle.document_runs.specs.Runs.{replay_fault}
use Rattle.statuses.specs.declared.status.Status.{Status}
use Rattle.statuses.specs.declared.status.Status.TheVariants as statuses
use Rattle.certificates.specs.declared.certificate.Certificate.{Certificate}
use Rattle.certificates.specs.CertificateRead.{IsCertificate}
use Rattle.event_judge.specs.declared.verdict.Verdict.{Verdict as Judgement}
use Rattle.event_judge.specs.declared.verdict.Verdict.TheVariants as judgements
use Rattle.run_judge.specs.Judged.{verdict_of}
use Rattle.run_judge.specs.Made.{certificate_fault}
use Rattle.statuses.specs.declared.limits.TheConstants.{DOCUMENT_LIMIT, CERTIFICATE_LIMIT}
use Rattle.command_input.specs.declared.command.Command.{Command}
use Rattle.command_input.specs.declared.command.Command.TheVariants as commands
use Rattle.command_input.specs.declared.command.Request.{Request}
use Rattle.command_input.specs.declared.command.Request.TheVariants as requests

-- nothing in a document refuses the command: the rules accept its text, for commands that make its calls its shape has no fault, and for
-- `replay` and `judge make` no turn is refused; `show` and `upgrade` take every text
abbrev pub IsAccepted : Command → Document → Type 0
IsAccepted commands.Run document = IsRunnable document
IsAccepted commands.Epochs document = IsRunnable document
IsAccepted commands.Replay document = IsRunnable document × (replay_fault document ≡ None)
IsAccepted commands.Certify document = IsRunnable document × (certificate_fault document ≡ None)
IsAccepted commands.Check document = IsNormal document.text
IsAccepted commands.Compile document = IsNormal document.text
IsAccepted commands.Show document = Unit {0}
IsAccepted commands.Upgrade document = Unit {0}

-- the source tells its bytes, which are a document and no more than one may have
pub record HasAccepted (command : Command) (left : Option (List ℕ)) : Type 0 where
  pub bytes : List ℕ
  pub told : left ≡ Some bytes
  pub short : length bytes < DOCUMENT_LIMIT
  pub document : Document
  pub spelled : IsDocument bytes document
  pub accepted : IsAccepted command document

-- the source tells its bytes, which are a certificate and no more than one may have, and its document can be run
pub record HasCertificate (left : Option (List ℕ)) : Type 0 where
  pub bytes : List ℕ
  pub told : left ≡ Some bytes
  pub short : length bytes < CERTIFICATE_LIMIT
  pub certificate : Certificate
  pub spelled : IsCertificate bytes certificate
  pub runnable : IsRunnable certificate.document

-- words in the grammar, and for a command on a document or a certificate a source that has one
abbrev pub CanBeAnswered : Option Request → Option (List ℕ) → Type 0
CanBeAnswered None left = ⊥
CanBeAnswered (Some (requests.OfDocument command)) left = HasAccepted command left
CanBeAnswered (Some requests.OfCertificate) left = HasCertificate left
CanBeAnswered (Some (requests.Workload count callers)) left = Unit {0}

-- all was answered, or memory ran out
abbrev pub IsAnsweredStatus : Status → Type 0
IsAnsweredStatus status = (status ≡ statuses.Done) ⊎ (status ≡ statuses.Partial) ⊎ (status ≡ statuses.Memory)

-- the status of what is found of a certificate
abbrev pub status_found : Judgement → Status
status_found judgements.Accepted = statuses.Done
status_found (judgements.Rejected number at) = statuses.Rejected number at

-- all was answered, for a certificate what is found of it, or memory ran out
abbrev pub IsAnswer : (request : Option Request) (left : Option (List ℕ)) → CanBeAnswered request left → Status → Type 0
IsAnswer None left can status = Unit {0}
IsAnswer (Some (requests.OfDocument command)) left can status = IsAnsweredStatus status
IsAnswer (Some requests.OfCertificate) left can status = (status ≡ status_found (verdict_of can.certificate)) ⊎ (status ≡ statuses.Memory)
IsAnswer (Some (requests.Workload count callers)) left can status = IsAnsweredStatus status

-- if nothing refuses it, and no call of the source or the sink fails, all is answered, or memory runs out
abbrev pub IsComplete : Option Request → Option (List ℕ) → ℕ → ℕ → ℕ → ℕ → Status → Type 0
IsComplete request left read_before read_now write_before write_now status =
    (can : CanBeAnswered request left) → ¬ Rose read_before read_now → ¬ Rose write_before write_now → IsAnswer request left can status
