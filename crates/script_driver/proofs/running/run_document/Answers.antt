use Rattle.script_driver.proofs.Telling.{run_told}
use Rattle.script_driver.proofs.running.run_document.Goals as goal

pub returns : goal.returns
returns g c = run_told c.args.document.now c.run_document.result c.reports_are_true.ensures c.requires c.run_document.ensures
