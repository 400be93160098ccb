-- A document that can be run has 1 to 8 scripts; and what the verdict `improper` shows.
use Rattle.std.proofs.Common.{arith, ℕ, ◌≤◌, ◌≡◌, ◌∙◌, Bool, true, false, List, length, Option, Some, None, sym, refl, subst}
use Rattle.std.specs.Prelude.{nat_le, Result, Ok, Err}
use Rattle.std.specs.Option.{option_or}
use Rattle.std.proofs.lemmas.Bool.{and_parts, leb-true}
use Rattle.oa_words.specs.Within.{is_count}
use Rattle.documents.specs.declared.document.Document.{Document}
use Rattle.script_plans.specs.declared.fault.RunFault.{RunFault}
use Rattle.script_plans.specs.declared.fault.RunFault.TheVariants as faults
use Rattle.script_plans.specs.declared.fault.ShapeFault.{ShapeFault}
use Rattle.script_plans.specs.Plans.{IsRunnable}
use Rattle.script_plans.specs.Shapes.{fault_unless}
use Rattle.certificates.specs.declared.certificate.Certificate.{Certificate}
use Rattle.proper_judge.specs.declared.breach.Breach.{Breach}
use Rattle.proper_judge.specs.Judging.{ImproperIsImproper}
use Rattle.oax_cli.specs.declared.request.Request.{Request}
use Rattle.oax_cli.specs.declared.request.Request.TheVariants as requests
use Rattle.oax_cli.specs.declared.verdict.Verdict.{Verdict}
use Rattle.oax_cli.specs.declared.verdict.Verdict.TheVariants as verdicts
use Rattle.oax_cli.specs.Judgements.{IsShown, IsFoundOf, IsCertificateJudged, IsOfRequest, IsNotProper}

none_first : (a b : Option ShapeFault) → option_or a b ≡ None → a ≡ None
none_first None b e = refl
none_first (Some fault) b e = absurd (let f : ⊥ = (let z : Some fault ≡ None = e in cc) in f)

passed : (number : ℕ) (test : Bool) → fault_unless number test ≡ None → test ≡ true
passed number true e = refl
passed number false e = absurd (let f : ⊥ = cc in f)

counted : (document : Document) → IsRunnable document → is_count 8 (length document.scripts) ≡ true
counted document is =
    passed 1 (is_count 8 (length document.scripts)) (none_first _ _ (none_first _ _ (none_first _ _ is.shape)))

pub some_scripts : (document : Document) → IsRunnable document → 1 ≤ length document.scripts
some_scripts document is = leb-true 1 (length document.scripts) (and_parts (nat_le 1 (length document.scripts)) (nat_le (length document.scripts) 8) (counted document is)).0

pub few_scripts : (document : Document) → IsRunnable document → length document.scripts ≤ 8
few_scripts document is = leb-true (length document.scripts) 8 (and_parts (nat_le 1 (length document.scripts)) (nat_le (length document.scripts) 8) (counted document is)).1

-- the verdict `improper` is of a text that isn't proper
not_proper_of : ImproperIsImproper → (request : Option Request) (old new : Option (List ℕ)) (before now : ℕ) (verdict : Verdict) → IsOfRequest request old new before now verdict
    → IsNotProper old new verdict
not_proper_of law None old new before now (verdicts.Improper breach at message) judged = absurd (let f : ⊥ = (let z : verdicts.Improper breach at message ≡ verdicts.Usage = judged.0 in cc) in f)
not_proper_of law (Some requests.Help) old new before now (verdicts.Improper breach at message) judged = absurd (let f : ⊥ = (let z : verdicts.Improper breach at message ≡ verdicts.Help = judged.0 in cc) in f)
not_proper_of law (Some requests.Version) old new before now (verdicts.Improper breach at message) judged = absurd (let f : ⊥ = (let z : verdicts.Improper breach at message ≡ verdicts.Version = judged.0 in cc) in f)
not_proper_of law (Some requests.Proper) old new before now (verdicts.Improper breach at message) (same, bytes, all, (certificate, spelled, found)) = record {
  bytes = bytes;
  read = all.read;
  certificate = certificate;
  spelled = spelled;
  improper = λ proper. law certificate.document.text (length certificate.document.scripts) at certificate.events breach found.shown
      (λ callers events state le run. proper callers events state (let few = few_scripts certificate.document found.runnable in omega (arith, le, few)) run);
}
not_proper_of law request old new before now _ judged = tt

pub not_proper : ImproperIsImproper → (request : Option Request) (old new : Option (List ℕ)) (before now : ℕ) (verdict : Verdict) → IsOfRequest request old new before now verdict
    → IsNotProper old new verdict
not_proper = not_proper_of
