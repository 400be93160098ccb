use Rattle.std.proofs.Common.{ℕ, List, subst}
use Rattle.statuses.specs.declared.limits.TheConstants.{CERTIFICATE_LIMIT}
use Rattle.oax_cli.specs.Judgements.{IsOfCertificateBytes}
use Rattle.oax_cli.proofs.Sources.{read, unread}
use Rattle.oax_cli.proofs.judging.judge_source.Goals as goal

pub returns-in-Ok : goal.returns-in-Ok
returns-in-Ok g c =
    read CERTIFICATE_LIMIT IsOfCertificateBytes _ _ _ _ _ c.judge_bytes.result (λ none. none.2.shown) (λ none. none.2.shown) c.in-Ok.ensures.0 c.in-Ok.ensures.1
    (subst (λ (l : List ℕ). IsOfCertificateBytes l c.judge_bytes.result) c.items.ensures c.judge_bytes.ensures)

pub returns-in-Err : goal.returns-in-Err
returns-in-Err g c = unread CERTIFICATE_LIMIT IsOfCertificateBytes _ _ _ _ c.in-Err.verdict c.in-Err.ensures
