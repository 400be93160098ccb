use Rattle.std.proofs.lemmas.Result.{err_from_is_err_and}
use Rattle.oa_text.proofs.Writing.{writes_more, writes_stopped}
use Rattle.script_driver.proofs.tallies.write_lines.Goals as goal

pub returns-in_err-write_first-clause-bytes :
    goal.returns-in_err-write_first-clause-bytes
returns-in_err-write_first-clause-bytes g c =
    let p = err_from_is_err_and c.from_residual.result c.from_residual.ensures.1 in
    rw p.1 (writes_stopped _ _ _ _ c.in_err-write_first.field-0.0 c.in_err-write_first.ensures.bytes)

pub returns-clause-bytes : goal.returns-clause-bytes
returns-clause-bytes g c = writes_more _ _ _ _ _ c.write_second.result c.in_ok-write_first.ensures.bytes c.write_second.ensures.bytes
