-- That each fault is told.
use Rattle.std.proofs.Common.{◌≡◌, ℕ, ◌<◌, ◌≤◌, true, false, List, length, take, Option, Some, None, inl, inr, ⊎_elim, refl, sym, ap, subst, ◌∙◌, arith}
use Rattle.std.proofs.lemmas.List.{take_all}
use Rattle.std.specs.Io.KnownBytes.{Appends, Keeps}
use Rattle.oa_text.specs.Causes.{one_more}
use Rattle.statuses.specs.declared.limits.TheConstants.{CERTIFICATE_LIMIT}
use Rattle.oax_cli.specs.declared.ending.Ending.{Ending}
use Rattle.oax_cli.specs.declared.ending.Ending.TheVariants as endings
use Rattle.oax_cli.specs.declared.request.Request.{Request}
use Rattle.oax_cli.specs.declared.request.Request.TheVariants as requests
use Rattle.oax_cli.specs.declared.verdict.Verdict.{Verdict}
use Rattle.oax_cli.specs.declared.verdict.Verdict.TheVariants as verdicts
use Rattle.oax_cli.specs.Endings.{is_write_fault, IsFinished}
use Rattle.oax_cli.specs.Judgements.{IsOfCertificateBytes, IsOfRequest, IsJudged, FaultsAreTold}
use Rattle.oax_cli.specs.Readings.{IsOfSource}
use Rattle.oax_cli.specs.Requests.{request_of}
use Rattle.oax_cli.specs.Telling.{IsSaid, text_for, ending_for}

appends_kept : (old mid new : Option (List ℕ)) (text : List ℕ) → Appends old mid text → Keeps mid new → Appends old new text
appends_kept None mid new text added keeps = tt
appends_kept (Some p) None new text added keeps = absurd added
appends_kept (Some p) (Some q) None text added keeps = absurd keeps
appends_kept (Some p) (Some q) (Some r) text added keeps = keeps ∙ added

whole : (text : List ℕ) → text ≡ take (length text) text
whole text = let le : length text ≤ length text = omega arith in sym (take_all (length text) text le)

-- after a fault of writing nothing more is tried
tried_once : (ending : Ending) → ending ≡ endings.WriteFault → is_write_fault ending ≡ false → ⊥
tried_once ending same none = let e : true ≡ false = ap is_write_fault (sym same) ∙ none in cc

-- what was said, and then handed on
pub said_finished : (old mid new : Option (List ℕ)) (before middle now : ℕ) (text : List ℕ) (ending first result : Ending)
    → IsSaid old mid before middle text ending first → Keeps mid new → IsFinished middle now first result
    → IsSaid old new before now text ending result
said_finished old mid new before middle now text ending first result said keeps finished =
    ⊎_elim
    (λ done. ⊎_elim
    (λ fine. inl (fine.0 ∙ done.0, fine.1 ∙ done.1, appends_kept old mid new text done.2 keeps))
    (λ failed. inr (failed.1, failed.2 ∙ ap one_more done.1, (length text, subst (Appends old new) (whole text) (appends_kept old mid new text done.2 keeps))))
    finished)
    (λ stopped. ⊎_elim
    (λ fine. inr (fine.0 ∙ stopped.0, fine.1 ∙ stopped.1, (stopped.2.0, appends_kept old mid new (take stopped.2.0 text) stopped.2.1 keeps)))
    (λ failed. absurd (tried_once first stopped.0 failed.0))
    finished)
    said

none_rose : (before now : ℕ) → now ≡ before → before < now → ⊥
none_rose before now same rose = omega arith

-- a verdict other than that of a fault of reading leaves the source's count
source_told : (limit : ℕ) (Says : List ℕ → Verdict → Type 0) (old new : Option (List ℕ)) (before now : ℕ) (verdict : Verdict)
    → IsOfSource limit Says old new before now verdict → before < now → ending_for verdict ≡ endings.ReadFault
source_told limit Says old new before now verdicts.ReadFault judged rose = refl
source_told limit Says old new before now verdicts.Memory judged rose = absurd (none_rose before now judged.0 rose)
source_told limit Says old new before now _ judged rose = absurd (none_rose before now judged.0 rose)

read_told : (request : Option Request) (old new : Option (List ℕ)) (before now : ℕ) (verdict : Verdict)
    → IsOfRequest request old new before now verdict → before < now → ending_for verdict ≡ endings.ReadFault
read_told None old new before now verdict judged rose = absurd (none_rose before now judged.1.faults rose)
read_told (Some requests.Help) old new before now verdict judged rose = absurd (none_rose before now judged.1.faults rose)
read_told (Some requests.Version) old new before now verdict judged rose = absurd (none_rose before now judged.1.faults rose)
read_told (Some requests.Proper) old new before now verdict judged rose = source_told CERTIFICATE_LIMIT IsOfCertificateBytes old new before now verdict judged rose

-- each fault is told, if a fault of reading is the verdict
told_by : (before now : ℕ) (verdict : Verdict) (held holds : Option (List ℕ)) (earlier later : ℕ) (result : Ending)
    → (before < now → ending_for verdict ≡ endings.ReadFault)
    → IsSaid held holds earlier later (text_for verdict) (ending_for verdict) result → FaultsAreTold before now earlier later result
told_by before now verdict held holds earlier later result read said = record {
  reading = λ rose. ⊎_elim (λ done. inl (done.0 ∙ read rose)) (λ stopped. inr (stopped.0, stopped.1)) said;
  writing = λ rose. ⊎_elim (λ done. absurd (none_rose earlier later done.1 rose)) (λ stopped. stopped.0) said;
}

-- each fault is told
pub told : (words : List (List ℕ)) (old new : Option (List ℕ)) (before now : ℕ) (verdict : Verdict) (held holds : Option (List ℕ)) (earlier later : ℕ)
    (result : Ending) → IsJudged words old new before now verdict
    → IsSaid held holds earlier later (text_for verdict) (ending_for verdict) result → FaultsAreTold before now earlier later result
told words old new before now verdict held holds earlier later result judged said =
    told_by before now verdict held holds earlier later result (read_told (request_of words) old new before now verdict judged) said

-- the same, if the source stays unread
pub told_unread : (faults : ℕ) (verdict : Verdict) (held holds : Option (List ℕ)) (earlier later : ℕ) (result : Ending)
    → IsSaid held holds earlier later (text_for verdict) (ending_for verdict) result → FaultsAreTold faults faults earlier later result
told_unread faults verdict held holds earlier later result said =
    told_by faults faults verdict held holds earlier later result (λ rose. let no : ⊥ = omega (arith, rose) in absurd no) said
