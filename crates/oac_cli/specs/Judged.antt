-- What is read, judged and emitted.
use Rattle.std.specs.Prelude.{◌≡◌, ℕ, ◌<◌, List, [], ◌∷◌, ◌⊎◌, length, Option, Some, None, Result, Ok, Err}
use Rattle.std.specs.Io.KnownBytes.{Appends}
use Rattle.oa_text.specs.Causes.{Rose}
use Rattle.norm_lang.specs.NormalForm.{IsNormal}
use Rattle.norm_check.specs.declared.refusal.Refusal.{Refusal}
use Rattle.norm_check.specs.Refusals.{IsRefused}
use Rattle.norm_parser.specs.FaultShown.{fault_shown}
use Rattle.documents.specs.declared.document.Document.{Document}
use Rattle.documents.specs.DocumentRead.{document_read, IsDocument}
use Rattle.statuses.specs.declared.limits.TheConstants.{DOCUMENT_LIMIT}
use Rattle.statuses.specs.declared.status.Status.{Status}
use Rattle.statuses.specs.declared.status.Status.TheVariants as statuses
use Rattle.oa_cli.specs.declared.verdicts.verdict.Verdict.{Verdict}
use Rattle.oa_cli.specs.declared.verdicts.verdict.Verdict.TheVariants as verdicts
use Rattle.oa_cli.specs.Judged.{IsOfSource, Untouched}
use Rattle.oac_cli.specs.declared.command.Request.{Request}
use Rattle.oac_cli.specs.declared.command.Request.TheVariants as requests
use Rattle.oac_cli.specs.declared.texts.TheConstants.{HELP, VERSION}
use Rattle.oac_cli.specs.Commands.{request_of}
use Rattle.oac_cli.specs.Emitted.{emitted}

-- what becomes of a document: the header of a text that is in normal form, or why there is none
abbrev pub IsOfDocument : List ℕ → Document → Verdict → Type 0
IsOfDocument name document (verdicts.Compiled spelling) = IsNormal document.text × (spelling ≡ emitted name document.text)
IsOfDocument name document (verdicts.Refused text refusal) = (text ≡ document.text) × IsRefused text refusal
IsOfDocument name document verdicts.Memory = Unit {0}
IsOfDocument name document _ = ⊥

-- what is found of a document: a verdict, or the first rule that its text breaks
abbrev pub IsFound : List ℕ → Document → Result Verdict Refusal → Type 0
IsFound name document (Ok verdict) = IsOfDocument name document verdict
IsFound name document (Err refusal) = IsRefused document.text refusal

-- the bytes are a document, and this becomes of it
abbrev pub IsOfRead : List ℕ → List ℕ → Verdict → Type 0
IsOfRead name bytes verdict = (document : Document) × IsDocument bytes document × IsOfDocument name document verdict

-- the verdict on the bytes of a document's length
abbrev pub IsOfBytes : List ℕ → List ℕ → Verdict → Type 0
IsOfBytes name bytes (verdicts.BadDocument fault) = document_read bytes ≡ Err (fault_shown fault)
IsOfBytes name bytes verdicts.Memory = Unit {0}
IsOfBytes name bytes verdict = IsOfRead name bytes verdict

-- a text of the program's own is told, or memory ran out
abbrev pub IsTold : List ℕ → Verdict → Type 0
IsTold text verdict = (verdict ≡ verdicts.Shown text) ⊎ (verdict ≡ verdicts.Memory)

-- a word that asks for no header leaves the source unread
abbrev pub IsOfRequest : Option Request → List ℕ → Option (List ℕ) → Option (List ℕ) → ℕ → ℕ → Verdict → Type 0
IsOfRequest None word old new before now verdict = (verdict ≡ verdicts.Usage) × Untouched old new before now
IsOfRequest (Some requests.Help) word old new before now verdict = IsTold HELP.now verdict × Untouched old new before now
IsOfRequest (Some requests.Version) word old new before now verdict = IsTold VERSION.now verdict × Untouched old new before now
IsOfRequest (Some requests.Header) word old new before now verdict = IsOfSource DOCUMENT_LIMIT (IsOfBytes word) old new before now verdict

abbrev pub IsOfWord : List ℕ → Option (List ℕ) → Option (List ℕ) → ℕ → ℕ → Verdict → Type 0
IsOfWord word old new before now verdict = IsOfRequest (request_of word) word old new before now verdict

-- the verdict on the words, of which there must be one
abbrev pub IsJudged : List (List ℕ) → Option (List ℕ) → Option (List ℕ) → ℕ → ℕ → Verdict → Type 0
IsJudged (word ∷ []) old new before now verdict = IsOfWord word old new before now verdict
IsJudged _ old new before now verdict = (verdict ≡ verdicts.Usage) × Untouched old new before now

-- the same, if the words could be had; if not, memory ran out, and the source stays unread
abbrev pub IsJudgedIfHad : Option (List (List ℕ)) → Option (List ℕ) → Option (List ℕ) → ℕ → ℕ → Verdict → Type 0
IsJudgedIfHad None old new before now verdict = (verdict ≡ verdicts.Memory) × Untouched old new before now
IsJudgedIfHad (Some words) old new before now verdict = IsJudged words old new before now verdict

-- the word is a name, and the source tells its bytes, which are a document whose text is in normal form, and no more than one may have
pub record HasAccepted (words : List (List ℕ)) (left : Option (List ℕ)) : Type 0 where
  pub name : List ℕ
  pub word : words ≡ name ∷ []
  pub asks : request_of name ≡ Some requests.Header
  pub bytes : List ℕ
  pub told : left ≡ Some bytes
  pub short : length bytes < DOCUMENT_LIMIT
  pub document : Document
  pub spelled : IsDocument bytes document
  pub accepted : IsNormal document.text

-- if no call of the source or the sink fails, the header is written, and the status says so, or memory runs out
abbrev pub IsComplete : List (List ℕ) → Option (List ℕ) → Option (List ℕ) → Option (List ℕ) → ℕ → ℕ → ℕ → ℕ → Status → Type 0
IsComplete words left held holds read_before read_now write_before write_now status =
    (has : HasAccepted words left) → ¬ Rose read_before read_now → ¬ Rose write_before write_now
    → ((status ≡ statuses.Done) × Appends held holds (emitted has.name has.document.text)) ⊎ (status ≡ statuses.Memory)
