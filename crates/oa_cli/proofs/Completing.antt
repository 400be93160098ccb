-- That all is answered which nothing refuses.
use Rattle.std.proofs.Common.{◌≡◌, ℕ, ◌⊎◌, Bool, true, false, List, Option, Some, None, Result, Ok, Err, inl, inr, ⊎_elim, refl, sym, ap, subst, ◌∙◌}
use Rattle.std.proofs.lemmas.Bool.{false≢true}
use Rattle.std.specs.Prelude.{IsTrue, if◌then◌else◌}
use Rattle.oa_text.specs.Causes.{Rose}
use Rattle.norm_lang.specs.declared.text.Text.{Text}
use Rattle.norm_lang.specs.Faults.{LineFault}
use Rattle.norm_lang.specs.NormalForm.{IsNormal}
use Rattle.norm_check.specs.declared.refusal.Refusal.{Refusal}
use Rattle.norm_check.specs.Refusals.{breach_of, IsRefused}
use Rattle.documents.specs.declared.document.Document.{Document}
use Rattle.documents.specs.DocumentRead.{document_read, IsDocument}
use Rattle.script_plans.specs.declared.fault.RunFault.TheVariants as faults
use Rattle.script_plans.specs.declared.fault.ShapeFault.{ShapeFault}
use Rattle.document_runs.specs.Texts.{is_partial}
use Rattle.statuses.specs.declared.status.Status.{Status}
use Rattle.statuses.specs.declared.status.Status.TheVariants as statuses
use Rattle.script_driver.specs.WorkloadTexts.{is_short}
use Rattle.command_input.specs.declared.command.Command.{Command}
use Rattle.command_input.specs.declared.command.Command.TheVariants as commands
use Rattle.command_input.specs.declared.command.Request.{Request}
use Rattle.command_input.specs.declared.command.Request.TheVariants as requests
use Rattle.oa_cli.specs.declared.verdicts.verdict.Verdict.{Verdict}
use Rattle.oa_cli.specs.declared.verdicts.verdict.Verdict.TheVariants as verdicts
use Rattle.certificates.specs.declared.certificate.Certificate.{Certificate}
use Rattle.certificates.specs.CertificateRead.{certificate_read, IsCertificate}
use Rattle.run_judge.specs.Judged.{verdict_of}
use Rattle.script_plans.specs.Plans.{IsRunnable}
use Rattle.oa_cli.specs.Complete.{IsAccepted, HasAccepted, HasCertificate, CanBeAnswered, IsAnsweredStatus, status_found, IsAnswer, IsComplete}
use Rattle.statuses.specs.declared.limits.TheConstants.{DOCUMENT_LIMIT, CERTIFICATE_LIMIT}
use Rattle.oa_cli.specs.Judged.{takes_rules, IsShapeRefused, IsOfBytes, IsOfCertificate, IsOfCertificateRead, IsOfCertificateBytes, IsOfSource, IsOfWorkload, IsOfRequest}
use Rattle.oa_cli.proofs.Sources.{told}
use Rattle.oa_cli.specs.verdicts.Telling.{IsSaid, text_for, status_for}

done_or_partial : (short : Bool) → IsAnsweredStatus (if short then statuses.Partial else statuses.Done)
done_or_partial true = inr (inl refl)
done_or_partial false = inl refl

-- ---- an accepted document isn't refused

pub not_faulty : (bytes : List ℕ) (document : Document) (fault : LineFault) → document_read bytes ≡ Ok document → document_read bytes ≡ Err fault → ⊥
not_faulty bytes document fault is not = clash (sym is ∙ not)
  where
    clash : Ok document ≡ Err fault → ⊥
    clash same = cc

abbrev document_in : Document → Result Document LineFault → Document
document_in document (Ok other) = other
document_in document (Err fault) = document

pub one_document : (bytes : List ℕ) (document other : Document) → document_read bytes ≡ Ok document → document_read bytes ≡ Ok other → other ≡ document
one_document bytes document other is also = ap (document_in document) (sym also ∙ is)

pub not_refused : (text : Text) (refusal : Refusal) → IsNormal text → IsRefused text refusal → ⊥
not_refused text refusal normal refused = normal (breach_of refusal) refused.first.0

pub accepted_is_normal : (command : Command) (document : Document) → IsTrue (takes_rules command) → IsAccepted command document → IsNormal document.text
accepted_is_normal commands.Run document takes accepted = accepted.normal
accepted_is_normal commands.Replay document takes accepted = accepted.0.normal
accepted_is_normal commands.Epochs document takes accepted = accepted.normal
accepted_is_normal commands.Certify document takes accepted = accepted.0.normal
accepted_is_normal commands.Check document takes accepted = accepted
accepted_is_normal commands.Compile document takes accepted = accepted
accepted_is_normal commands.Show document takes accepted = absurd (false≢true takes)
accepted_is_normal commands.Upgrade document takes accepted = absurd (false≢true takes)

none_is_some : (fault : ShapeFault) → None ≡ Some fault → ⊥
none_is_some fault same = cc

pub has_shape : (command : Command) (document : Document) (number at : ℕ) → IsAccepted command document → IsShapeRefused command document (faults.Shape number at) → ⊥
has_shape commands.Run document number at accepted refused = none_is_some (record { number = number; at = at }) (sym accepted.shape ∙ refused.1)
has_shape commands.Replay document number at accepted refused = none_is_some (record { number = number; at = at }) (sym accepted.1 ∙ refused.1)
has_shape commands.Epochs document number at accepted refused = none_is_some (record { number = number; at = at }) (sym accepted.shape ∙ refused.1)
has_shape commands.Certify document number at accepted refused = none_is_some (record { number = number; at = at }) (sym accepted.1 ∙ refused.1)
has_shape _ document number at accepted refused = absurd refused

-- ---- the verdict on an accepted document

bytes_answered : (command : Command) (bytes : List ℕ) (document : Document) (verdict : Verdict) → IsDocument bytes document → IsAccepted command document
    → IsOfBytes command bytes verdict → IsAnsweredStatus (status_for verdict)
bytes_answered command bytes document (verdicts.Answered report) is accepted judged = done_or_partial (is_partial report)
bytes_answered command bytes document verdicts.Accepted is accepted judged = inl refl
bytes_answered command bytes document (verdicts.Shown spelling) is accepted judged = inl refl
bytes_answered command bytes document (verdicts.Compiled spelling) is accepted judged = inl refl
bytes_answered command bytes document (verdicts.Certified spelling partial) is accepted judged = done_or_partial partial
bytes_answered command bytes document (verdicts.BadDocument fault) is accepted judged = absurd (not_faulty bytes document _ is judged)
bytes_answered command bytes document (verdicts.Refused text refusal) is accepted judged =
    let same : judged.0 ≡ document = one_document bytes document judged.0 is judged.1 in
    let normal : IsNormal document.text = accepted_is_normal command document judged.2.0 accepted in
    absurd (not_refused text refusal (subst IsNormal (sym (judged.2.1 ∙ ap (λ (d : Document). d.text) same)) normal) judged.2.2)
bytes_answered command bytes document (verdicts.BadShape number at) is accepted (other, also, refused) =
    absurd (has_shape command document number at accepted (subst (λ (d : Document). IsShapeRefused command d (faults.Shape number at)) (one_document bytes document other is also) refused))
bytes_answered command bytes document verdicts.Memory is accepted judged = inr (inr refl)
bytes_answered command bytes document _ is accepted judged = absurd judged.2

source_answered : (command : Command) (old new : Option (List ℕ)) (before now : ℕ) (verdict : Verdict) → HasAccepted command old → ¬ Rose before now
    → IsOfSource DOCUMENT_LIMIT (IsOfBytes command) old new before now verdict → IsAnsweredStatus (status_for verdict)
source_answered command old new before now verdict has kept judged =
    ⊎_elim
    (λ memory. inr (inr memory))
    (λ says. bytes_answered command has.bytes has.document verdict has.spelled has.accepted says)
    (told DOCUMENT_LIMIT (IsOfBytes command) old new before now has.bytes verdict has.told has.short kept judged)

workload_answered : (count callers : ℕ) (verdict : Verdict) → IsOfWorkload count callers verdict → IsAnsweredStatus (status_for verdict)
workload_answered count callers (verdicts.Worked report) judged = done_or_partial (is_short report)
workload_answered count callers verdicts.Memory judged = inr (inr refl)
workload_answered count callers _ judged = absurd judged

-- ---- the verdict on a certificate of a document that can be run

abbrev IsFoundStatus : Certificate → Status → Type 0
IsFoundStatus certificate status = (status ≡ status_found (verdict_of certificate)) ⊎ (status ≡ statuses.Memory)

not_certified : (bytes : List ℕ) (certificate : Certificate) (fault : LineFault) → certificate_read bytes ≡ Ok certificate → certificate_read bytes ≡ Err fault → ⊥
not_certified bytes certificate fault is not = clash (sym is ∙ not)
  where
    clash : Ok certificate ≡ Err fault → ⊥
    clash same = cc

abbrev certificate_in : Certificate → Result Certificate LineFault → Certificate
certificate_in certificate (Ok other) = other
certificate_in certificate (Err fault) = certificate

one_certificate : (bytes : List ℕ) (certificate other : Certificate) → certificate_read bytes ≡ Ok certificate → certificate_read bytes ≡ Ok other → other ≡ certificate
one_certificate bytes certificate other is also = ap (certificate_in certificate) (sym also ∙ is)

certificate_found : (certificate : Certificate) (verdict : Verdict) → IsRunnable certificate.document → IsOfCertificate certificate verdict → IsFoundStatus certificate (status_for verdict)
certificate_found certificate verdicts.Accepted runnable judged = inl (ap status_found judged.found.1)
certificate_found certificate (verdicts.Refused text refusal) runnable judged = absurd (not_refused text refusal (subst IsNormal (sym judged.0) runnable.normal) judged.1)
certificate_found certificate (verdicts.BadShape number at) runnable judged = absurd (none_is_some (record { number = number; at = at }) (sym runnable.shape ∙ judged.1))
certificate_found certificate verdicts.Memory runnable judged = inr refl
certificate_found certificate (verdicts.Rejected number at) runnable judged = inl (ap status_found judged.found.1)
certificate_found certificate _ runnable judged = absurd judged

-- the certificate that was judged is the one that the bytes spell
read_found : (bytes : List ℕ) (certificate : Certificate) (verdict : Verdict) → IsCertificate bytes certificate → IsRunnable certificate.document
    → IsOfCertificateRead bytes verdict → IsFoundStatus certificate (status_for verdict)
read_found bytes certificate verdict is runnable (other, also, found) =
    certificate_found certificate verdict runnable (subst (λ (c : Certificate). IsOfCertificate c verdict) (one_certificate bytes certificate other is also) found)

bytes_found : (bytes : List ℕ) (certificate : Certificate) (verdict : Verdict) → IsCertificate bytes certificate → IsRunnable certificate.document
    → IsOfCertificateBytes bytes verdict → IsFoundStatus certificate (status_for verdict)
bytes_found bytes certificate (verdicts.BadDocument fault) is runnable judged = absurd (not_certified bytes certificate _ is judged)
bytes_found bytes certificate verdicts.Memory is runnable judged = inr refl
bytes_found bytes certificate verdict is runnable judged = read_found bytes certificate verdict is runnable judged

certificate_answered : (old new : Option (List ℕ)) (before now : ℕ) (verdict : Verdict) → (has : HasCertificate old) → ¬ Rose before now
    → IsOfSource CERTIFICATE_LIMIT IsOfCertificateBytes old new before now verdict → IsFoundStatus has.certificate (status_for verdict)
certificate_answered old new before now verdict has kept judged =
    ⊎_elim
    (λ memory. inr memory)
    (λ says. bytes_found has.bytes has.certificate verdict has.spelled has.runnable says)
    (told CERTIFICATE_LIMIT IsOfCertificateBytes old new before now has.bytes verdict has.told has.short kept judged)

-- ---- the whole

request_answered : (request : Option Request) (old new : Option (List ℕ)) (before now : ℕ) (verdict : Verdict) → (can : CanBeAnswered request old) → ¬ Rose before now
    → IsOfRequest request old new before now verdict → IsAnswer request old can (status_for verdict)
request_answered None old new before now verdict can kept judged = tt
request_answered (Some (requests.OfDocument command)) old new before now verdict can kept judged = source_answered command old new before now verdict can kept judged
request_answered (Some requests.OfCertificate) old new before now verdict can kept judged = certificate_answered old new before now verdict can kept judged
request_answered (Some (requests.Workload count callers)) old new before now verdict can kept judged = workload_answered count callers verdict judged.0

pub complete : (request : Option Request) (old new : Option (List ℕ)) (before now : ℕ) (verdict : Verdict) (held holds : Option (List ℕ)) (earlier later : ℕ) (result : Status)
    → IsOfRequest request old new before now verdict → IsSaid held holds earlier later (text_for verdict) (status_for verdict) result
    → IsComplete request old before now earlier later result
complete request old new before now verdict held holds earlier later result judged said can read_kept write_kept =
    ⊎_elim
    (λ done. subst (IsAnswer request old can) (sym done.0) (request_answered request old new before now verdict can read_kept judged))
    (λ stopped. absurd (write_kept stopped.1))
    said
