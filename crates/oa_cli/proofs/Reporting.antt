-- What can't be run or replayed, as it is judged.
use Rattle.std.proofs.Common.{refl}
use Rattle.documents.specs.declared.document.Document.{Document}
use Rattle.script_plans.specs.declared.fault.RunFault.{RunFault}
use Rattle.script_plans.specs.declared.fault.RunFault.TheVariants as faults
use Rattle.script_plans.specs.Plans.{IsFaultOf}
use Rattle.document_runs.specs.Runs.{IsReplayFaultOf}
use Rattle.command_input.specs.declared.command.Command.TheVariants as commands
use Rattle.certificates.specs.declared.certificate.Certificate.{Certificate}
use Rattle.run_judge.specs.Made.{IsMakingFaultOf}
use Rattle.oa_cli.specs.Judged.{IsFound, IsFoundOfCertificate, fault_verdict}

pub run_refused : (document : Document) (fault : RunFault) → IsFaultOf document fault → IsFound commands.Run document (fault_verdict fault)
run_refused document faults.Memory is = tt
run_refused document (faults.Refused refusal) is = (refl, is)
run_refused document (faults.Shape number at) is = is

pub replay_refused : (document : Document) (fault : RunFault) → IsReplayFaultOf document fault → IsFound commands.Replay document (fault_verdict fault)
replay_refused document faults.Memory is = tt
replay_refused document (faults.Refused refusal) is = (refl, is)
replay_refused document (faults.Shape number at) is = is

pub epochs_refused : (document : Document) (fault : RunFault) → IsFaultOf document fault → IsFound commands.Epochs document (fault_verdict fault)
epochs_refused document faults.Memory is = tt
epochs_refused document (faults.Refused refusal) is = (refl, is)
epochs_refused document (faults.Shape number at) is = is

pub certify_refused : (document : Document) (fault : RunFault) → IsMakingFaultOf document fault → IsFound commands.Certify document (fault_verdict fault)
certify_refused document faults.Memory is = tt
certify_refused document (faults.Refused refusal) is = (refl, is)
certify_refused document (faults.Shape number at) is = is

pub certificate_refused : (certificate : Certificate) (fault : RunFault) → IsFaultOf certificate.document fault → IsFoundOfCertificate certificate (fault_verdict fault)
certificate_refused certificate faults.Memory is = tt
certificate_refused certificate _ is = is
