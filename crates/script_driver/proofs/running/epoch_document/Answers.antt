use Rattle.script_driver.proofs.Telling.{epoch_told}
use Rattle.script_driver.proofs.running.epoch_document.Goals as goal

pub returns : goal.returns
returns g c = epoch_told c.args.document.now c.epoch_document.result c.epoch_reports_are_true.ensures c.requires c.epoch_document.ensures
