use Rattle.std.proofs.Common.{ℕ, List, subst}
use Rattle.statuses.specs.declared.limits.TheConstants.{CERTIFICATE_LIMIT}
use Rattle.oa_cli.specs.Judged.{IsOfCertificateBytes}
use Rattle.oa_cli.proofs.Sources.{read, unread}
use Rattle.oa_cli.proofs.certifying.judge_certificate.Goals as goal

pub returns-in-Ok : goal.returns-in-Ok
returns-in-Ok g c =
    read CERTIFICATE_LIMIT IsOfCertificateBytes _ _ _ _ _ c.judge_certificate_bytes.result (λ none. none.2) (λ none. none.2) c.in-Ok.ensures.0 c.in-Ok.ensures.1
    (subst (λ (l : List ℕ). IsOfCertificateBytes l c.judge_certificate_bytes.result) c.items.ensures c.judge_certificate_bytes.ensures)

pub returns-in-Err : goal.returns-in-Err
returns-in-Err g c = unread CERTIFICATE_LIMIT IsOfCertificateBytes _ _ _ _ c.in-Err.verdict c.in-Err.ensures
