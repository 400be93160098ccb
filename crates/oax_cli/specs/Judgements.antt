-- What is judged, what is found, and that each fault is told.
use Rattle.std.specs.Prelude.{◌≡◌, ℕ, ◌<◌, List, ◌⊎◌, length, Option, Some, None, Result, Ok, Err}
use Rattle.std.specs.Io.KnownBytes.{Consumes}
use Rattle.oa_text.specs.Causes.{Rose}
use Rattle.norm_lang.specs.declared.text.Text.{Text}
use Rattle.norm_check.specs.declared.refusal.Refusal.{Refusal}
use Rattle.norm_check.specs.Refusals.{IsRefused}
use Rattle.norm_parser.specs.FaultShown.{fault_shown}
use Rattle.script_plans.specs.declared.fault.RunFault.{RunFault}
use Rattle.script_plans.specs.declared.fault.RunFault.TheVariants as faults
use Rattle.script_plans.specs.Plans.{IsFaultOf, IsRunnable}
use Rattle.certificates.specs.declared.certificate.Certificate.{Certificate}
use Rattle.certificates.specs.CertificateRead.{certificate_read, IsCertificate}
use Rattle.source_machine.specs.declared.event.SourceEvent.{SourceEvent}
use Rattle.source_machine.specs.Proper.{IsProper}
use Rattle.proper_judge.specs.declared.breach.Breach.{Breach}
use Rattle.proper_judge.specs.declared.judging.SoFar.TheVariants as found
use Rattle.proper_judge.specs.Judging.{Judged}
use Rattle.statuses.specs.declared.limits.TheConstants.{CERTIFICATE_LIMIT}
use Rattle.oax_cli.specs.declared.ending.Ending.{Ending}
use Rattle.oax_cli.specs.declared.ending.Ending.TheVariants as endings
use Rattle.oax_cli.specs.declared.request.Request.{Request}
use Rattle.oax_cli.specs.declared.request.Request.TheVariants as requests
use Rattle.oax_cli.specs.declared.verdict.Verdict.{Verdict}
use Rattle.oax_cli.specs.declared.verdict.Verdict.TheVariants as verdicts
use Rattle.oax_cli.specs.Requests.{request_of}
use Rattle.oax_cli.specs.Readings.{Untouched, IsOfSource}

-- what is found of events of a text, from the start of so many callers
abbrev pub IsShown : Text → ℕ → List SourceEvent → Verdict → Type 0
IsShown text callers events verdicts.Proper = Judged text callers events found.Proper
IsShown text callers events (verdicts.Improper breach at message) = Judged text callers events (found.Improper breach at)
IsShown text callers events (verdicts.NotEnabled at message) = Judged text callers events (found.NotEnabled at)
IsShown text callers events _ = ⊥

abbrev pub IsShownIf : Text → ℕ → List SourceEvent → Result Verdict RunFault → Type 0
IsShownIf text callers events (Ok verdict) = IsShown text callers events verdict
IsShownIf text callers events (Err faults.Memory) = Unit {0}
IsShownIf text callers events (Err _) = ⊥

-- the same of a certificate's events, from the start of as many callers as there are scripts; its document can be run
pub record IsFoundOf (certificate : Certificate) (verdict : Verdict) : Type 0 where
  pub runnable : IsRunnable certificate.document
  pub shown : IsShown certificate.document.text (length certificate.document.scripts) certificate.events verdict

-- what is found of a certificate, or why its document can't be run
abbrev pub IsCertificateJudged : Certificate → Result Verdict RunFault → Type 0
IsCertificateJudged certificate (Ok verdict) = IsFoundOf certificate verdict
IsCertificateJudged certificate (Err fault) = IsFaultOf certificate.document fault

-- the verdict on a certificate that was read
abbrev pub IsOfCertificate : Certificate → Verdict → Type 0
IsOfCertificate certificate (verdicts.Refused text refusal) = (text ≡ certificate.document.text) × IsRefused text refusal
IsOfCertificate certificate (verdicts.BadShape number at) = IsFaultOf certificate.document (faults.Shape number at)
IsOfCertificate certificate verdicts.Memory = Unit {0}
IsOfCertificate certificate verdict = IsFoundOf certificate verdict

-- what is found of a certificate: a verdict, or the first rule that its document's text breaks
abbrev pub IsFoundOfCertificate : Certificate → Result Verdict Refusal → Type 0
IsFoundOfCertificate certificate (Ok verdict) = IsOfCertificate certificate verdict
IsFoundOfCertificate certificate (Err refusal) = IsRefused certificate.document.text refusal

-- the bytes are a certificate, and this is found of it
abbrev pub IsOfRead : List ℕ → Verdict → Type 0
IsOfRead bytes verdict = (certificate : Certificate) × IsCertificate bytes certificate × IsOfCertificate certificate verdict

-- the verdict on the bytes of a certificate's length
abbrev pub IsOfCertificateBytes : List ℕ → Verdict → Type 0
IsOfCertificateBytes bytes (verdicts.BadCertificate fault) = certificate_read bytes ≡ Err (fault_shown fault)
IsOfCertificateBytes bytes verdicts.Memory = Unit {0}
IsOfCertificateBytes bytes verdict = IsOfRead bytes verdict

-- words that ask for no certificate leave the source unread
abbrev pub IsOfRequest : Option Request → Option (List ℕ) → Option (List ℕ) → ℕ → ℕ → Verdict → Type 0
IsOfRequest None old new before now verdict = (verdict ≡ verdicts.Usage) × Untouched old new before now
IsOfRequest (Some requests.Help) old new before now verdict = (verdict ≡ verdicts.Help) × Untouched old new before now
IsOfRequest (Some requests.Version) old new before now verdict = (verdict ≡ verdicts.Version) × Untouched old new before now
IsOfRequest (Some requests.Proper) old new before now verdict = IsOfSource CERTIFICATE_LIMIT IsOfCertificateBytes old new before now verdict

-- the verdict on the words, on the source's faults, and on its bytes
abbrev pub IsJudged : List (List ℕ) → Option (List ℕ) → Option (List ℕ) → ℕ → ℕ → Verdict → Type 0
IsJudged words old new before now verdict = IsOfRequest (request_of words) old new before now verdict

-- if the sink's count rose, a fault of writing is told; if the source's count rose, a fault of reading is, or one of writing, for which the
-- sink's count rose too
pub record FaultsAreTold (read_before read_now write_before write_now : ℕ) (ending : Ending) : Type 0 where
  pub reading : read_before < read_now → (ending ≡ endings.ReadFault) ⊎ ((ending ≡ endings.WriteFault) × Rose write_before write_now)
  pub writing : write_before < write_now → ending ≡ endings.WriteFault

-- the source had a certificate whose text isn't proper
pub record HasImproper (old new : Option (List ℕ)) : Type 0 where
  pub bytes : List ℕ
  pub read : Consumes old new bytes
  pub certificate : Certificate
  pub spelled : IsCertificate bytes certificate
  pub improper : IsProper certificate.document.text → ⊥

-- if the verdict is `improper`, the text of the certificate that was read isn't proper
abbrev pub IsNotProper : Option (List ℕ) → Option (List ℕ) → Verdict → Type 0
IsNotProper old new (verdicts.Improper breach at message) = HasImproper old new
IsNotProper old new _ = Unit {0}
