-- What one command writes is taken by another.
use Rattle.std.proofs.Common.{◌<◌, ◌∙◌, ℕ, Bool, false, List, length, refl, sym, subst, ⊎_elim, arith}
use Rattle.norm_lang.specs.declared.text.Text.{Text}
use Rattle.norm_lang.specs.Shipped.{set_text, queue_text}
use Rattle.source_machine.specs.Proper.{IsProper, IsProperForAny}
use Rattle.text_laws.specs.StandsFor.{ShippedText, TheList, TheSet, TheQueue, IsShipped, shipped_text}
use Rattle.documents.specs.declared.document.Document.{Document}
use Rattle.documents.specs.DocumentRead.{IsDocument}
use Rattle.document_spelling.specs.SpellingLaws.{AreAlike, SpellingsAreRead}
use Rattle.certificates.specs.declared.certificate.Certificate.{Certificate}
use Rattle.certificates.specs.CertificateRead.{IsCertificate}
use Rattle.certificates.specs.CertificateLaws.{CertificatesAreRead, AreLike, IsTold}
use Rattle.script_plans.specs.Plans.{IsRunnable}
use Rattle.script_driver.specs.AlikeLaws.{AlikeDocumentsAreReplayedAlike}
use Rattle.script_driver.specs.report_laws.Sources.{IsNamed}
use Rattle.statuses.specs.declared.limits.TheConstants.{CERTIFICATE_LIMIT}
use Rattle.oa_cli.specs.Headline.{IsTakenForProper}
use Rattle.oa_cli.specs.Judged.{IsCertified}
use Rattle.command_laws.specs.RoundTrips.{IsAcceptedByCheck, MadeIsAccepted, IsReplayedAlike, SpelledIsReplayedAlike, UpgradedIsReplayedAlike}
use Rattle.command_laws.proofs.Blind.{verdict_same, spelling_same, turned, joined}

-- ---- proper texts

abbrev SetsAreProper : Type 0
SetsAreProper = (buckets : ℕ) → 0 < buckets → IsProperForAny (set_text buckets)

shipped_is_proper : SetsAreProper → IsProperForAny queue_text → (shipped : ShippedText) → IsShipped shipped → IsProper (shipped_text shipped)
shipped_is_proper sets queue TheList may = sets 1 (omega arith) 8
shipped_is_proper sets queue (TheSet buckets) may = let some = may.0 in sets buckets (omega (arith, some)) 8
shipped_is_proper sets queue TheQueue may = queue 8

taken_is_proper : SetsAreProper → IsProperForAny queue_text → (text : Text) → IsTakenForProper text → IsProper text
taken_is_proper sets queue text taken = ⊎_elim
    (λ (proper : IsProper text). proper)
    (λ (t : (words : List (List ℕ)) × IsNamed words text). subst IsProper (sym t.1.same) (shipped_is_proper sets queue t.1.shipped t.1.may_be))
    taken

-- ---- `judge make`, then `judge check`

module _ (certificates : CertificatesAreRead) (alike : AlikeDocumentsAreReplayedAlike) (sets : SetsAreProper) (queue : IsProperForAny queue_text) where
  accepted : (bytes written : List ℕ) (short : Bool) (document : Document) → IsDocument bytes document → IsCertified document written short → IsTakenForProper document.text → length written < CERTIFICATE_LIMIT
      → IsAcceptedByCheck written
  accepted bytes written short document is certified taken few =
      let own : Certificate = certified.certificate in
      let told : IsTold own = certified.made.told bytes is in
      let back = certificates own told in
      let like : AreLike back.0 own = back.2 in
      record {
        has = record {
          bytes = written;
          told = refl;
          short = few;
          certificate = back.0;
          spelled = subst (λ (l : List ℕ). IsCertificate l back.0) (sym certified.same) back.1;
          runnable = (alike back.0.document own.document like.document).runnable.1 (subst IsRunnable (sym certified.made.same) certified.made.runnable);
        };
        accepted = verdict_same back.0 own like ∙ certified.made.accepted (taken_is_proper sets queue document.text taken);
      }

  pub made_is_accepted : MadeIsAccepted
  made_is_accepted bytes written short made taken few = accepted bytes written short made.0 made.1 made.2.1 taken few

-- ---- `upgrade`, then `replay`

module _ (spellings : SpellingsAreRead) (alike : AlikeDocumentsAreReplayedAlike) where
  pub spelled_alike : SpelledIsReplayedAlike
  spelled_alike document stood =
      let of : Document = stood.1 in
      let back = spellings false stood.0 of stood.2 in
      let same : AreAlike back.0 document = joined back.0 of document back.2 (turned document of stood.3) in
      record {
        read = back.0;
        spelled = subst (λ (l : List ℕ). IsDocument l back.0) (sym (spelling_same false document of stood.3)) back.1;
        alike = same;
        replayed = alike back.0 document same;
      }

  itself : (document : Document) → AreAlike document document
  itself document = record { text = refl; slots = refl; first = refl; last = refl; fuel = refl; scripts = refl; schedule = refl }

  pub upgraded_alike : UpgradedIsReplayedAlike
  upgraded_alike bytes written shown =
      subst (IsReplayedAlike shown.0) (sym shown.2) (spelled_alike shown.0 (bytes, shown.0, shown.1, itself shown.0))
