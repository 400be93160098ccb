-- What is found of a certificate.
use Rattle.std.specs.Prelude.{◌≡◌, Result, Ok, Err}
use Rattle.documents.specs.declared.document.Document.{Document}
use Rattle.script_plans.specs.declared.fault.RunFault.{RunFault}
use Rattle.script_plans.specs.Plans.{IsFaultOf, IsRunnable}
use Rattle.certificates.specs.declared.certificate.Certificate.{Certificate}
use Rattle.event_judge.specs.declared.verdict.Verdict.{Verdict}
use Rattle.event_judge.specs.Judging.{verdict_on}
use Rattle.event_judge.specs.JudgingLaws.{IsSo}

-- what is found of a certificate's events and replies, by its document's text and scripts
abbrev pub verdict_of : Certificate → Verdict
verdict_of certificate = verdict_on certificate.document.text certificate.document.scripts certificate.events certificate.replies

-- the document can be run, and this is found; or why it can't
abbrev pub IsCertificateJudged : Certificate → Result Verdict RunFault → Type 0
IsCertificateJudged certificate (Ok verdict) = IsRunnable certificate.document × (verdict ≡ verdict_of certificate)
IsCertificateJudged certificate (Err fault) = IsFaultOf certificate.document fault

-- what the verdict says is so
abbrev pub IsMeant : Certificate → Verdict → Type 0
IsMeant certificate verdict = IsSo certificate.document.text certificate.document.scripts certificate.events certificate.replies verdict
