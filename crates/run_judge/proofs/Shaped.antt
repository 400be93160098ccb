-- A document that can be run has 1 to 8 scripts, and so its verdicts mean what they say.
use Rattle.std.proofs.Common.{ℕ, ◌≤◌, ◌≡◌, Bool, true, false, length, Option, Some, None, sym, refl}
use Rattle.std.specs.Prelude.{nat_le}
use Rattle.std.specs.Option.{option_or}
use Rattle.std.proofs.lemmas.Bool.{and_parts, leb-true}
use Rattle.oa_words.specs.Within.{is_count}
use Rattle.documents.specs.declared.document.Document.{Document}
use Rattle.script_plans.specs.declared.fault.ShapeFault.{ShapeFault}
use Rattle.script_plans.specs.Plans.{IsRunnable}
use Rattle.script_plans.specs.Shapes.{fault_unless}
use Rattle.certificates.specs.declared.certificate.Certificate.{Certificate}
use Rattle.event_judge.specs.declared.verdict.Verdict.{Verdict}
use Rattle.event_judge.proofs.Rejections.{verdicts_are_right}
use Rattle.run_judge.specs.Judged.{verdict_of, IsMeant}

none_first : (a b : Option ShapeFault) → option_or a b ≡ None → a ≡ None
none_first None b e = refl
none_first (Some fault) b e = absurd (let f : ⊥ = (let z : Some fault ≡ None = e in cc) in f)

passed : (number : ℕ) (test : Bool) → fault_unless number test ≡ None → test ≡ true
passed number true e = refl
passed number false e = absurd (let f : ⊥ = cc in f)

counted : (document : Document) → IsRunnable document → is_count 8 (length document.scripts) ≡ true
counted document is =
    passed 1 (is_count 8 (length document.scripts)) (none_first _ _ (none_first _ _ (none_first _ _ is.shape)))

pub some_scripts : (document : Document) → IsRunnable document → 1 ≤ length document.scripts
some_scripts document is = leb-true 1 (length document.scripts) (and_parts (nat_le 1 (length document.scripts)) (nat_le (length document.scripts) 8) (counted document is)).0

pub few_scripts : (document : Document) → IsRunnable document → length document.scripts ≤ 8
few_scripts document is = leb-true (length document.scripts) 8 (and_parts (nat_le 1 (length document.scripts)) (nat_le (length document.scripts) 8) (counted document is)).1

pub means : (certificate : Certificate) (verdict : Verdict) → IsRunnable certificate.document → length certificate.replies ≡ length certificate.document.scripts
    → verdict ≡ verdict_of certificate → IsMeant certificate verdict
means certificate verdict is same e =
    (verdicts_are_right certificate.document.text certificate.document.scripts certificate.events certificate.replies verdict
    (some_scripts certificate.document is) same).0 (sym e)
