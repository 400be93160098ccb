-- What the examples say of bytes that spell a certificate.
use Rattle.std.specs.Prelude.{◌≡◌, ℕ, List, Result, Ok, Err}
use Rattle.norm_parser.specs.FaultShown.{fault_shown}
use Rattle.certificates.specs.declared.certificate.Certificate.{Certificate}
use Rattle.certificates.specs.CertificateRead.{certificate_read}
use Rattle.event_judge.specs.declared.verdict.Verdict.{Verdict}
use Rattle.script_plans.specs.declared.fault.RunFault.{RunFault}
use Rattle.script_plans.specs.Plans.{IsFaultOf}
use Rattle.run_judge.specs.Judged.{IsCertificateJudged, IsMeant}
use Rattle.library_examples.specs.declared.judging.JudgingProblem.{JudgingProblem}
use Rattle.library_examples.specs.declared.judging.JudgingProblem.TheVariants as problems

-- the bytes spell a certificate whose document can be run; this is found of it, and what it says is so
pub record IsVerdictOn (bytes : List ℕ) (verdict : Verdict) : Type 0 where
  pub certificate : Certificate
  pub spelled : certificate_read bytes ≡ Ok certificate
  pub judged : IsCertificateJudged certificate (Ok verdict)
  pub meant : IsMeant certificate verdict

-- the bytes spell a certificate whose document can't be run for this reason
pub record IsNotRun (bytes : List ℕ) (why : RunFault) : Type 0 where
  pub certificate : Certificate
  pub spelled : certificate_read bytes ≡ Ok certificate
  pub refused : IsFaultOf certificate.document why

-- why bytes give no verdict; memory may run out before
abbrev pub IsJudgingProblem : List ℕ → JudgingProblem → Type 0
IsJudgingProblem bytes problems.Memory = Unit {0}
IsJudgingProblem bytes (problems.Fault fault) = certificate_read bytes ≡ Err (fault_shown fault)
IsJudgingProblem bytes (problems.NotRun fault) = IsNotRun bytes fault
