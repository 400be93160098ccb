use Rattle.std.proofs.Common.{rules}
use Rattle.oa_cli.proofs.top.find_verdict.Goals as goal

pub returns-in-Run : goal.returns-in-Run
returns-in-Run g c = search rules

pub returns-in-Replay : goal.returns-in-Replay
returns-in-Replay g c = search rules

pub returns-in-Epochs : goal.returns-in-Epochs
returns-in-Epochs g c = search rules

pub returns-in-Check : goal.returns-in-Check
returns-in-Check g c = search rules

pub returns-in-Show : goal.returns-in-Show
returns-in-Show g c = search rules

pub returns-in-Compile : goal.returns-in-Compile
returns-in-Compile g c = search rules
