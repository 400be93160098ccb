use Rattle.script_driver.proofs.report_laws.EpochTruth.{reports_true}
use Rattle.script_driver.proofs.report_laws.epoch_reports_are_true.Goals as goal

pub returns : goal.returns
returns c = reports_true c.bare_texts_are_runnable.ensures c.restarts_are_counted.ensures c.runs_follow_source.ensures c.set_is_proper.ensures c.queue_is_proper.ensures c.set_runs_are_legal.ensures c.queue_runs_are_legal.ensures
