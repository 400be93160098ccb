-- The certificate of a document.
use Rattle.std.specs.Prelude.{◌≡◌, ℕ, List, [], ◌∷◌, length, Option, Some, Result, Ok, Err}
use Rattle.norm_lang.specs.NormalForm.{IsNormal}
use Rattle.norm_check.specs.Refusals.{IsRefused}
use Rattle.source_machine.specs.Proper.{IsProper}
use Rattle.core_runs.specs.Replays.{Replay, Replaying, Refusal, replayed}
use Rattle.oa_simulation.specs.Shadow.{image}
use Rattle.documents.specs.declared.document.Document.{Document}
use Rattle.documents.specs.DocumentRead.{IsDocument}
use Rattle.script_plans.specs.declared.fault.ShapeFault.{ShapeFault}
use Rattle.script_plans.specs.declared.fault.RunFault.{RunFault}
use Rattle.script_plans.specs.declared.fault.RunFault.TheVariants as faults
use Rattle.script_plans.specs.declared.plan.Plan.{Plan}
use Rattle.script_plans.specs.Shapes.{first_of, setting_of, shape_fault}
use Rattle.script_plans.specs.Plans.{target_of, calls_of, IsRunnable}
use Rattle.replay_logs.specs.declared.error.LogError.{LogError}
use Rattle.replay_logs.specs.declared.error.LogError.TheVariants as errors
use Rattle.document_runs.specs.Runs.{IsCompleteRunOf, refusal_fault, replay_given}
use Rattle.certificates.specs.declared.certificate.Certificate.{Certificate}
use Rattle.certificates.specs.CertificateLaws.{IsTold}
use Rattle.event_judge.specs.declared.verdict.Verdict.TheVariants.{Accepted}
use Rattle.certificate_laws.specs.Certified.{replies_in}
use Rattle.run_judge.specs.Judged.{verdict_of}
use Rattle.run_judge.specs.declared.limits.TheConstants.{MOST_STEPS}

-- the most steps of a run that is certified
unfoldable pub certificate_limit : ℕ
certificate_limit = MOST_STEPS

-- what is replayed for a certificate
abbrev pub certificate_replay : Document → Replay
certificate_replay document = record { target = target_of document; setting = setting_of document; scripts = calls_of document; fuel = document.fuel; limit = certificate_limit }

abbrev pub plan_logged : Plan → Replay
plan_logged plan = record { target = plan.barred.target; setting = plan.setting; scripts = plan.scripts; fuel = plan.fuel; limit = certificate_limit }

-- what the turns of the document's schedule give, and then each caller to its end, in at most so many steps
abbrev pub certificate_given : Document → Result Replaying Refusal
certificate_given document = replayed (certificate_replay document) document.schedule

-- a run that isn't written down, as it is told
abbrev pub making_fault_of : LogError → RunFault
making_fault_of errors.Memory = faults.Memory
making_fault_of (errors.StepOfNobody steps) = faults.Shape 10 steps
making_fault_of (errors.LongReplay steps) = faults.Shape 11 steps

-- what is wrong with the shape of a document that is certified: the schedule is judged last
abbrev pub certificate_fault : Document → Option ShapeFault
certificate_fault document = first_of (shape_fault document ∷ refusal_fault (certificate_given document) ∷ [])

abbrev pub IsMakingFaultOf : Document → RunFault → Type 0
IsMakingFaultOf document faults.Memory = Unit {0}
IsMakingFaultOf document (faults.Refused refusal) = IsRefused document.text refusal
IsMakingFaultOf document (faults.Shape number at) = IsNormal document.text × (certificate_fault document ≡ Some (record { number = number; at = at }))

-- a certificate is of its document's replay: its events are the image of the run that the turns give, and its replies those in which that run
-- ends. If the text is proper, the judge accepts it. Of a document that was read, the certificate is read back of its spelling
pub record IsCertificateOf (document : Document) (certificate : Certificate) : Type 0 where
  pub runnable : IsRunnable document
  pub replaying : Replaying
  pub given : certificate_given document ≡ Ok replaying
  pub replayed : replay_given document ≡ Ok replaying
  pub complete : IsCompleteRunOf document replaying.events replaying.state
  pub same : certificate.document ≡ document
  pub events : certificate.events ≡ image (target_of document) document.text (setting_of document) replaying.events
  pub replies : certificate.replies ≡ replies_in replaying.state
  pub lists : length certificate.replies ≡ length document.scripts
  pub told : (bytes : List ℕ) → IsDocument bytes document → IsTold certificate
  pub accepted : IsProper document.text → verdict_of certificate ≡ Accepted

abbrev pub IsMade : Document → Result Certificate RunFault → Type 0
IsMade document (Ok certificate) = IsCertificateOf document certificate
IsMade document (Err fault) = IsMakingFaultOf document fault
