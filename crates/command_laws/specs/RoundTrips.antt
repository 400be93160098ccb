-- What one command writes is taken by another.
use Rattle.std.specs.Prelude.{◌≡◌, ℕ, ◌≤◌, ◌<◌, Bool, List, length, Some}
use Rattle.documents.specs.declared.document.Document.{Document}
use Rattle.documents.specs.DocumentLimits.{most_calls}
use Rattle.documents.specs.DocumentRead.{IsDocument}
use Rattle.document_spelling.specs.Spelling.{document_spelling}
use Rattle.document_spelling.specs.SpellingLaws.{AreAlike}
use Rattle.event_judge.specs.declared.verdict.Verdict.TheVariants.{Accepted}
use Rattle.oa_words.specs.declared.limits.TheConstants.{MOST_CALLERS}
use Rattle.run_judge.specs.Judged.{verdict_of}
use Rattle.script_driver.specs.AlikeLaws.{AreReplayedAlike}
use Rattle.script_driver.specs.Workload.{workload_document}
use Rattle.statuses.specs.declared.limits.TheConstants.{CERTIFICATE_LIMIT}
use Rattle.command_input.specs.declared.command.Command.TheVariants as commands
use Rattle.oa_cli.specs.declared.verdicts.verdict.Verdict.TheVariants as verdicts
use Rattle.oa_cli.specs.Complete.{HasCertificate}
use Rattle.oa_cli.specs.Headline.{IsTakenForProper}
use Rattle.oa_cli.specs.Judged.{IsOfBytes}

-- ---- `judge make`, then `judge check`

-- a source with these bytes has a certificate whose document can be run, and it is accepted: by the clause `complete` of `oa_main` the status
-- of `judge check` is Done or Memory, if no call of the source or the sink fails
pub record IsAcceptedByCheck (bytes : List ℕ) : Type 0 where
  pub has : HasCertificate (Some bytes)
  pub accepted : verdict_of has.certificate ≡ Accepted

-- what `judge make` writes of the bytes of a document is such a certificate, if the text is proper or a `use` line names it, and if what
-- was written is no longer than a certificate may be
abbrev pub MadeIsAccepted : Type 0
MadeIsAccepted =
    (bytes written : List ℕ) (short : Bool) (made : IsOfBytes commands.Certify bytes (verdicts.Certified written short)) → IsTakenForProper made.0.text
    → length written < CERTIFICATE_LIMIT → IsAcceptedByCheck written

-- ---- `upgrade`, then `replay`

-- bytes stand for the document, but for the lines of its calls
abbrev pub IsStood : Document → Type 0
IsStood document = (bytes : List ℕ) × (read : Document) × IsDocument bytes read × AreAlike document read

-- the bytes are a document that is the same but for the lines of its calls, and replayed alike: both can be run or neither, their turns
-- give the same run or are refused alike, and the reports of a state are the same
pub record IsReplayedAlike (document : Document) (bytes : List ℕ) : Type 0 where
  pub read : Document
  pub spelled : IsDocument bytes read
  pub alike : AreAlike read document
  pub replayed : AreReplayedAlike read document

-- so is the canonical spelling
abbrev pub SpelledIsReplayedAlike : Type 0
SpelledIsReplayedAlike = (document : Document) → IsStood document → IsReplayedAlike document (document_spelling document)

-- and what `upgrade` writes of the bytes of a document
abbrev pub UpgradedIsReplayedAlike : Type 0
UpgradedIsReplayedAlike =
    (bytes written : List ℕ) (shown : IsOfBytes commands.Upgrade bytes (verdicts.Shown written)) → IsReplayedAlike shown.0 written

-- the documents of a workload, which are made and not read, are such
abbrev pub WorkloadsAreStood : Type 0
WorkloadsAreStood = (part count callers : ℕ) → 1 ≤ callers → callers ≤ MOST_CALLERS → count ≤ most_calls → IsStood (workload_document part count callers)
