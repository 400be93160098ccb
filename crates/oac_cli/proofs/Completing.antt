-- That the header of a document which nothing refuses is written.
use Rattle.std.proofs.Common.{◌≡◌, ℕ, ◌⊎◌, List, [], ◌∷◌, Option, Some, None, inl, inr, ⊎_elim, refl, sym, ap, subst, ◌∙◌}
use Rattle.std.specs.Io.KnownBytes.{Appends}
use Rattle.oa_text.specs.Causes.{Rose}
use Rattle.norm_lang.specs.NormalForm.{IsNormal}
use Rattle.documents.specs.declared.document.Document.{Document}
use Rattle.documents.specs.DocumentRead.{IsDocument}
use Rattle.statuses.specs.declared.limits.TheConstants.{DOCUMENT_LIMIT}
use Rattle.statuses.specs.declared.status.Status.{Status}
use Rattle.statuses.specs.declared.status.Status.TheVariants as statuses
use Rattle.oa_cli.specs.verdicts.Telling.{IsSaid, text_for, status_for}
use Rattle.oa_cli.specs.declared.verdicts.verdict.Verdict.{Verdict}
use Rattle.oa_cli.specs.declared.verdicts.verdict.Verdict.TheVariants as verdicts
use Rattle.oa_cli.proofs.Completing.{not_faulty, one_document, not_refused}
use Rattle.oa_cli.proofs.Sources.{told}
use Rattle.oac_cli.specs.declared.command.Request.{Request}
use Rattle.oac_cli.specs.declared.command.Request.TheVariants as requests
use Rattle.oac_cli.specs.Commands.{request_of}
use Rattle.oac_cli.specs.Emitted.{emitted}
use Rattle.oac_cli.specs.Judged.{IsOfBytes, IsOfRequest, IsJudged, HasAccepted, IsComplete}

-- the verdict is a header, or that memory ran out
abbrev IsHeader : List ℕ → Document → Verdict → Type 0
IsHeader name document verdict = (verdict ≡ verdicts.Compiled (emitted name document.text)) ⊎ (status_for verdict ≡ statuses.Memory)

bytes_emitted : (name bytes : List ℕ) (document : Document) (verdict : Verdict) → IsDocument bytes document → IsNormal document.text
    → IsOfBytes name bytes verdict → IsHeader name document verdict
bytes_emitted name bytes document (verdicts.Compiled spelling) is normal (other, also, found) =
    let same : other ≡ document = one_document bytes document other is also in
    inl (ap verdicts.Compiled (found.1 ∙ ap (λ (d : Document). emitted name d.text) same))
bytes_emitted name bytes document (verdicts.Refused text refusal) is normal (other, also, found) =
    let same : other ≡ document = one_document bytes document other is also in
    absurd (not_refused text refusal (subst IsNormal (sym (found.0 ∙ ap (λ (d : Document). d.text) same)) normal) found.1)
bytes_emitted name bytes document (verdicts.BadDocument fault) is normal judged = absurd (not_faulty bytes document _ is judged)
bytes_emitted name bytes document verdicts.Memory is normal judged = inr refl
bytes_emitted name bytes document _ is normal judged = absurd judged.2

request_emitted : (request : Option Request) (word : List ℕ) (old new : Option (List ℕ)) (before now : ℕ) (verdict : Verdict) (words : List (List ℕ)) (has : HasAccepted words old)
    → request ≡ Some requests.Header → word ≡ has.name → ¬ Rose before now → IsOfRequest request word old new before now verdict → IsHeader has.name has.document verdict
request_emitted None word old new before now verdict words has asks same kept judged = let f : ⊥ = cc in absurd f
request_emitted (Some requests.Help) word old new before now verdict words has asks same kept judged = let f : ⊥ = cc in absurd f
request_emitted (Some requests.Version) word old new before now verdict words has asks same kept judged = let f : ⊥ = cc in absurd f
request_emitted (Some requests.Header) word old new before now verdict words has asks same kept judged =
    ⊎_elim inr (λ says. bytes_emitted has.name has.bytes has.document verdict has.spelled has.accepted (subst (λ (n : List ℕ). IsOfBytes n has.bytes verdict) same says))
    (told DOCUMENT_LIMIT (IsOfBytes word) old new before now has.bytes verdict has.told has.short kept judged)

judged_emitted : (words : List (List ℕ)) (old new : Option (List ℕ)) (before now : ℕ) (verdict : Verdict) (has : HasAccepted words old)
    → ¬ Rose before now → IsJudged words old new before now verdict → IsHeader has.name has.document verdict
judged_emitted [] old new before now verdict has kept judged = let e : [] ≡ has.name ∷ [] = has.word in let f : ⊥ = cc in absurd f
judged_emitted (word ∷ []) old new before now verdict has kept judged =
    let e : word ∷ [] ≡ has.name ∷ [] = has.word in
    let same : word ≡ has.name = cc in
    request_emitted (request_of word) word old new before now verdict (word ∷ []) has (ap request_of same ∙ has.asks) same kept judged
judged_emitted (word ∷ (other ∷ words)) old new before now verdict has kept judged = let e : word ∷ (other ∷ words) ≡ has.name ∷ [] = has.word in let f : ⊥ = cc in absurd f

-- what was said of a header, if no write failed
said_header : (name : List ℕ) (document : Document) (verdict : Verdict) (held holds : Option (List ℕ)) (earlier later : ℕ) (result : Status)
    → IsHeader name document verdict → ¬ Rose earlier later → IsSaid held holds earlier later (text_for verdict) (status_for verdict) result
    → ((result ≡ statuses.Done) × Appends held holds (emitted name document.text)) ⊎ (result ≡ statuses.Memory)
said_header name document verdict held holds earlier later result is kept said =
    ⊎_elim
    (λ done. ⊎_elim
    (λ same. inl (done.0 ∙ ap status_for same, subst (λ (v : Verdict). Appends held holds (text_for v)) same done.2))
    (λ memory. inr (done.0 ∙ memory))
    is)
    (λ stopped. absurd (kept stopped.1))
    said

pub complete : (words : List (List ℕ)) (old new : Option (List ℕ)) (before now : ℕ) (verdict : Verdict) (held holds : Option (List ℕ)) (earlier later : ℕ)
    (result : Status) → IsJudged words old new before now verdict
    → IsSaid held holds earlier later (text_for verdict) (status_for verdict) result → IsComplete words old held holds before now earlier later result
complete words old new before now verdict held holds earlier later result judged said has unread unwritten =
    said_header has.name has.document verdict held holds earlier later result (judged_emitted words old new before now verdict has unread judged) unwritten said
