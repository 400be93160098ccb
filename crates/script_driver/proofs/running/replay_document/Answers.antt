use Rattle.script_driver.proofs.Telling.{replay_told}
use Rattle.script_driver.proofs.running.replay_document.Goals as goal

pub returns : goal.returns
returns c = replay_told c.args.document.now c.replay_document.result c.reports_are_true.ensures c.requires c.replay_document.ensures
