use Rattle.std.proofs.lemmas.Result.{err_from_is_err_and}
use Rattle.oa_text.proofs.Writing.{writes_more, writes_stopped}
use Rattle.document_runs.proofs.printing.write_report.Goals as goal

pub returns-in_err-write_each-clause-bytes :
    goal.returns-in_err-write_each-clause-bytes
returns-in_err-write_each-clause-bytes g c =
    let p = err_from_is_err_and c.from_residual.result c.from_residual.ensures.1 in
    rw p.1 (writes_stopped _ _ _ _ c.in_err-write_each.field-0.0 c.in_err-write_each.ensures.bytes)

pub returns-clause-bytes : goal.returns-clause-bytes
returns-clause-bytes g c =
    rw (← c.count_answered-answered.ensures.count, ← c.count_short-short.ensures) (writes_more _ _ _ _ _ c.write_summary.result c.in_ok-write_each.ensures.bytes c.write_summary.ensures.bytes)
