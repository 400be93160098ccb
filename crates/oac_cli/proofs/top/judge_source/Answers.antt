use Rattle.std.proofs.Common.{ℕ, List, subst}
use Rattle.statuses.specs.declared.limits.TheConstants.{DOCUMENT_LIMIT}
use Rattle.oa_cli.proofs.Sources.{read, unread}
use Rattle.oac_cli.specs.Judged.{IsOfBytes}
use Rattle.oac_cli.proofs.top.judge_source.Goals as goal

pub returns-in-Ok : goal.returns-in-Ok
returns-in-Ok g c =
    read DOCUMENT_LIMIT (IsOfBytes c.args.name.now) _ _ _ _ _ c.judge_bytes.result (λ none. none.2) (λ none. none.2) c.in-Ok.ensures.0 c.in-Ok.ensures.1
    (subst (λ (l : List ℕ). IsOfBytes c.args.name.now l c.judge_bytes.result) c.items.ensures c.judge_bytes.ensures)

pub returns-in-Err : goal.returns-in-Err
returns-in-Err g c = unread DOCUMENT_LIMIT (IsOfBytes c.args.name.now) _ _ _ _ c.in-Err.verdict c.in-Err.ensures
