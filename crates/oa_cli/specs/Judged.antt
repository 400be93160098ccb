-- What is read and judged, and that each fault is told.
use Rattle.std.specs.Prelude.{◌≡◌, ℕ, ◌<◌, List, ◌⊎◌, length, Option, Some, None, Result, Ok, Err, IsTrue, Bool, true, false}
use Rattle.std.specs.Io.KnownBytes.{Consumes, IsAtEnd}
use Rattle.oa_text.specs.Causes.{Rose}
use Rattle.norm_lang.specs.NormalForm.{IsNormal}
use Rattle.norm_lang.specs.Spelling.{spelling_of}
use Rattle.norm_check.specs.declared.refusal.Refusal.{Refusal}
use Rattle.norm_check.specs.Refusals.{IsRefused}
use Rattle.target_code.specs.TargetSpelling.{target_spelling}
use Rattle.target_code.specs.Barred.{IsBarred}
use Rattle.target_code.specs.SecondScheme.{second_scheme}
use Rattle.norm_parser.specs.FaultShown.{fault_shown}
use Rattle.documents.specs.declared.document.Document.{Document}
use Rattle.documents.specs.DocumentRead.{document_read, IsDocument}
use Rattle.document_spelling.specs.Spelling.{document_spelling}
use Rattle.script_plans.specs.declared.fault.RunFault.{RunFault}
use Rattle.script_plans.specs.declared.fault.RunFault.TheVariants as faults
use Rattle.script_plans.specs.Plans.{IsFaultOf}
use Rattle.document_runs.specs.declared.report.Report.{Report}
use Rattle.document_runs.specs.Runs.{IsReplayFaultOf}
use Rattle.document_runs.specs.Reports.{report_of}
use Rattle.document_runs.specs.Texts.{is_partial}
use Rattle.certificates.specs.declared.certificate.Certificate.{Certificate}
use Rattle.certificates.specs.CertificateRead.{certificate_read, IsCertificate}
use Rattle.certificates.specs.CertificateSpelling.{certificate_spelling}
use Rattle.event_judge.specs.declared.verdict.Verdict.{Verdict as Judgement}
use Rattle.event_judge.specs.declared.verdict.Verdict.TheVariants as judgements
use Rattle.run_judge.specs.Judged.{IsCertificateJudged as IsFoundOf, IsMeant}
use Rattle.run_judge.specs.Made.{IsCertificateOf, IsMakingFaultOf}
use Rattle.script_driver.specs.report_laws.Runs.{IsRunReport, IsReplayReport}
use Rattle.script_driver.specs.report_laws.EpochLines.{IsEpochReport}
use Rattle.script_driver.specs.WorkloadRuns.{IsWorkloadReport}
use Rattle.statuses.specs.declared.limits.TheConstants.{DOCUMENT_LIMIT, CERTIFICATE_LIMIT}
use Rattle.statuses.specs.declared.status.Status.{Status}
use Rattle.statuses.specs.declared.status.Status.TheVariants as statuses
use Rattle.command_input.specs.Commands.{request_of}
use Rattle.command_input.specs.Inputs.{ReadsFewer, ReadsWithin}
use Rattle.oa_cli.specs.verdicts.Telling.{NoFault}
use Rattle.command_input.specs.declared.command.Command.{Command}
use Rattle.command_input.specs.declared.command.Command.TheVariants as commands
use Rattle.command_input.specs.declared.command.Request.{Request}
use Rattle.command_input.specs.declared.command.Request.TheVariants as requests
use Rattle.oa_cli.specs.declared.verdicts.verdict.Verdict.{Verdict}
use Rattle.oa_cli.specs.declared.verdicts.verdict.Verdict.TheVariants as verdicts

-- these bytes were read, fewer than the limit, and none are left
pub record ReadsAll (limit : ℕ) (old new : Option (List ℕ)) (bytes : List ℕ) : Type 0 where
  pub read : Consumes old new bytes
  pub short : length bytes < limit
  pub done : IsAtEnd new

-- nothing was read
pub record Untouched (old new : Option (List ℕ)) (before now : ℕ) : Type 0 where
  pub left : new ≡ old
  pub faults : NoFault before now

-- the answers of a command to the calls of a document: for `run` they tell of a complete run of it, for `replay` of the one that the
-- turns of its schedule give, for `epochs` of a complete run of it under epochs. `TellsOf` and `EpochsTellOf` say what it is to tell of a run
abbrev pub IsAnswered : Command → Document → Report → Type 0
IsAnswered commands.Run document report = IsRunReport document report
IsAnswered commands.Replay document report = IsReplayReport document report
IsAnswered commands.Epochs document report = IsEpochReport document report
IsAnswered _ document report = ⊥

-- a command that makes a document's calls refuses its shape: `replay` and `judge make` also if its turns are refused
abbrev pub IsShapeRefused : Command → Document → RunFault → Type 0
IsShapeRefused commands.Run document fault = IsFaultOf document fault
IsShapeRefused commands.Epochs document fault = IsFaultOf document fault
IsShapeRefused commands.Replay document fault = IsReplayFaultOf document fault
IsShapeRefused commands.Certify document fault = IsMakingFaultOf document fault
IsShapeRefused _ document fault = ⊥

-- what a command writes out: `show` the text, and `upgrade` the whole document
abbrev pub IsShown : Command → Document → List ℕ → Type 0
IsShown commands.Show document spelling = spelling ≡ spelling_of document.text
IsShown commands.Upgrade document spelling = spelling ≡ document_spelling document
IsShown _ document spelling = ⊥

-- a command that judges a document's text by the rules
abbrev pub takes_rules : Command → Bool
takes_rules commands.Run = true
takes_rules commands.Replay = true
takes_rules commands.Epochs = true
takes_rules commands.Check = true
takes_rules commands.Compile = true
takes_rules commands.Certify = true
takes_rules commands.Show = false
takes_rules commands.Upgrade = false

-- the certificate that `judge make` writes: that of the run which the turns of the schedule give. Some call has no reply, or ended without a
-- slot or a phase, exactly if some line that `replay` prints of this run is short
pub record IsCertified (document : Document) (spelling : List ℕ) (short : Bool) : Type 0 where
  pub certificate : Certificate
  pub made : IsCertificateOf document certificate
  pub same : spelling ≡ certificate_spelling certificate
  pub partial : short ≡ is_partial (report_of document made.replaying.state)

-- what a command makes of a document. A text that is accepted, compiled or run is in normal form; `show` and `upgrade`
-- take every text
abbrev pub IsOfDocument : Command → Document → Verdict → Type 0
IsOfDocument command document (verdicts.Answered report) = IsAnswered command document report
IsOfDocument command document verdicts.Accepted = (command ≡ commands.Check) × IsNormal document.text
IsOfDocument command document (verdicts.Shown spelling) = IsShown command document spelling
IsOfDocument command document (verdicts.Compiled spelling) =
    (command ≡ commands.Compile) × IsNormal document.text × IsBarred (second_scheme document.text) document.text
    × (spelling ≡ target_spelling (second_scheme document.text))
IsOfDocument command document (verdicts.Certified spelling short) = (command ≡ commands.Certify) × IsCertified document spelling short
IsOfDocument command document (verdicts.Refused text refusal) = IsTrue (takes_rules command) × (text ≡ document.text) × IsRefused text refusal
IsOfDocument command document (verdicts.BadShape number at) = IsShapeRefused command document (faults.Shape number at)
IsOfDocument command document verdicts.Memory = Unit {0}
IsOfDocument command document _ = ⊥

-- what a command finds of a document that it reads: a verdict, or the first rule that its text breaks
abbrev pub IsFound : Command → Document → Result Verdict Refusal → Type 0
IsFound command document (Ok verdict) = IsOfDocument command document verdict
IsFound command document (Err refusal) = IsTrue (takes_rules command) × IsRefused document.text refusal

-- the bytes are a document, and this is what the command makes of it
abbrev pub IsOfRead : Command → List ℕ → Verdict → Type 0
IsOfRead command bytes verdict = (document : Document) × IsDocument bytes document × IsOfDocument command document verdict

-- the verdict of a command on the bytes of a document's length
abbrev pub IsOfBytes : Command → List ℕ → Verdict → Type 0
IsOfBytes command bytes (verdicts.BadDocument fault) = document_read bytes ≡ Err (fault_shown fault)
IsOfBytes command bytes verdicts.Memory = Unit {0}
IsOfBytes command bytes verdict = IsOfRead command bytes verdict

-- why a document can't be run, as it is found
abbrev pub fault_verdict : RunFault → Result Verdict Refusal
fault_verdict faults.Memory = Ok verdicts.Memory
fault_verdict (faults.Refused refusal) = Err refusal
fault_verdict (faults.Shape number at) = Ok (verdicts.BadShape number at)

-- this is found of a certificate whose document can be run, and what it says is so: at `Accepted` the events are a run of the text that begins
-- the calls of the scripts in order and agrees with the replies (`IsMeant`)
pub record IsJudgedSo (certificate : Certificate) (judgement : Judgement) : Type 0 where
  pub found : IsFoundOf certificate (Ok judgement)
  pub means : IsMeant certificate judgement

-- what is found of a certificate that was read: what the verdict says is so, or why its document can't be run
abbrev pub IsOfCertificate : Certificate → Verdict → Type 0
IsOfCertificate certificate verdicts.Accepted = IsJudgedSo certificate judgements.Accepted
IsOfCertificate certificate (verdicts.Rejected number at) = IsJudgedSo certificate (judgements.Rejected number at)
IsOfCertificate certificate (verdicts.Refused text refusal) = (text ≡ certificate.document.text) × IsRefused text refusal
IsOfCertificate certificate (verdicts.BadShape number at) = IsFaultOf certificate.document (faults.Shape number at)
IsOfCertificate certificate verdicts.Memory = Unit {0}
IsOfCertificate certificate _ = ⊥

-- what is found of a certificate: a verdict, or the first rule that its document's text breaks
abbrev pub IsFoundOfCertificate : Certificate → Result Verdict Refusal → Type 0
IsFoundOfCertificate certificate (Ok verdict) = IsOfCertificate certificate verdict
IsFoundOfCertificate certificate (Err refusal) = IsRefused certificate.document.text refusal

-- the bytes are a certificate, and this is found of it
abbrev pub IsOfCertificateRead : List ℕ → Verdict → Type 0
IsOfCertificateRead bytes verdict = (certificate : Certificate) × IsCertificate bytes certificate × IsOfCertificate certificate verdict

-- the verdict on the bytes of a certificate's length
abbrev pub IsOfCertificateBytes : List ℕ → Verdict → Type 0
IsOfCertificateBytes bytes (verdicts.BadDocument fault) = certificate_read bytes ≡ Err (fault_shown fault)
IsOfCertificateBytes bytes verdicts.Memory = Unit {0}
IsOfCertificateBytes bytes verdict = IsOfCertificateRead bytes verdict

-- a source was not read to its end: at `ReadFault` a read failed, and fewer bytes than the limit were read; at `LongInput` as many as the
-- limit were read; at `Memory` memory ran out, and no more than the limit were read
abbrev pub IsUnread : ℕ → Option (List ℕ) → Option (List ℕ) → ℕ → ℕ → Verdict → Type 0
IsUnread limit old new before now verdicts.ReadFault = Rose before now × ReadsFewer limit old new
IsUnread limit old new before now verdicts.LongInput = NoFault before now × (bytes : List ℕ) × Consumes old new bytes × (length bytes ≡ limit)
IsUnread limit old new before now verdicts.Memory = NoFault before now × ReadsWithin limit old new
IsUnread limit old new before now _ = ⊥

-- all bytes of a source, fewer than the limit, or why it was not read to its end
abbrev pub IsReadTo : ℕ → Option (List ℕ) → Option (List ℕ) → ℕ → ℕ → Result (List ℕ) Verdict → Type 0
IsReadTo limit old new before now (Ok bytes) = NoFault before now × ReadsAll limit old new bytes
IsReadTo limit old new before now (Err verdict) = IsUnread limit old new before now verdict

-- the verdict on all bytes that the source had, of which this is said; no read failed
abbrev pub IsOfInput : ℕ → (List ℕ → Verdict → Type 0) → Option (List ℕ) → Option (List ℕ) → ℕ → ℕ → Verdict → Type 0
IsOfInput limit Says old new before now verdict = NoFault before now × (bytes : List ℕ) × ReadsAll limit old new bytes × Says bytes verdict

-- the verdict on what was read of a source, no more bytes than the limit, if this is said of all its bytes: a read failed at `ReadFault`
-- alone, and at `LongInput` alone there were too many
abbrev pub IsOfSource : ℕ → (List ℕ → Verdict → Type 0) → Option (List ℕ) → Option (List ℕ) → ℕ → ℕ → Verdict → Type 0
IsOfSource limit Says old new before now verdicts.ReadFault = IsUnread limit old new before now verdicts.ReadFault
IsOfSource limit Says old new before now verdicts.LongInput = IsUnread limit old new before now verdicts.LongInput
IsOfSource limit Says old new before now verdicts.Memory = IsUnread limit old new before now verdicts.Memory
IsOfSource limit Says old new before now verdict = IsOfInput limit Says old new before now verdict

-- the verdict on a workload: the reports of both of its documents
abbrev pub IsOfWorkload : ℕ → ℕ → Verdict → Type 0
IsOfWorkload count callers (verdicts.Worked report) = IsWorkloadReport count callers report
IsOfWorkload count callers verdicts.Memory = Unit {0}
IsOfWorkload count callers _ = ⊥

-- words that ask for nothing leave the source unread, and so does a workload
abbrev pub IsOfRequest : Option Request → Option (List ℕ) → Option (List ℕ) → ℕ → ℕ → Verdict → Type 0
IsOfRequest None old new before now verdict = (verdict ≡ verdicts.Usage) × Untouched old new before now
IsOfRequest (Some (requests.OfDocument command)) old new before now verdict = IsOfSource DOCUMENT_LIMIT (IsOfBytes command) old new before now verdict
IsOfRequest (Some requests.OfCertificate) old new before now verdict = IsOfSource CERTIFICATE_LIMIT IsOfCertificateBytes old new before now verdict
IsOfRequest (Some (requests.Workload count callers)) old new before now verdict = IsOfWorkload count callers verdict × Untouched old new before now

-- the verdict on the words, on the source's faults, and on its bytes
abbrev pub IsJudged : List (List ℕ) → Option (List ℕ) → Option (List ℕ) → ℕ → ℕ → Verdict → Type 0
IsJudged words old new before now verdict = IsOfRequest (request_of words) old new before now verdict

-- the same, if the words could be had; if not, memory ran out, and the source stays unread
abbrev pub IsJudgedIfHad : Option (List (List ℕ)) → Option (List ℕ) → Option (List ℕ) → ℕ → ℕ → Verdict → Type 0
IsJudgedIfHad None old new before now verdict = (verdict ≡ verdicts.Memory) × Untouched old new before now
IsJudgedIfHad (Some words) old new before now verdict = IsJudged words old new before now verdict

-- the other way round: if the sink's count rose, a fault of writing is told; if the source's count rose, a fault of reading is,
-- or one of writing, for which the sink's count rose too
pub record FaultsAreTold (read_before read_now write_before write_now : ℕ) (status : Status) : Type 0 where
  pub reading : read_before < read_now → (status ≡ statuses.ReadFault) ⊎ ((status ≡ statuses.WriteFault) × Rose write_before write_now)
  pub writing : write_before < write_now → status ≡ statuses.WriteFault
