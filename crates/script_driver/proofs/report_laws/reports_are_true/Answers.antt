use Rattle.script_driver.proofs.report_laws.Truth.{reports_true}
use Rattle.script_driver.proofs.report_laws.reports_are_true.Goals as goal

pub returns : goal.returns
returns c = reports_true c.second_scheme_is_barred.ensures c.second_scheme_is_within.ensures c.set_is_proper.ensures c.queue_is_proper.ensures c.set_runs_are_legal.ensures c.queue_runs_are_legal.ensures
