use Rattle.std.proofs.Common.{rules}
use Rattle.command_input.proofs.input.Reading.read_more.Goals as goal

pub returns-in-Err-clause-open : goal.returns-in-Err-clause-open
returns-in-Err-clause-open g c = search rules

pub returns-in-Err-clause-less : goal.returns-in-Err-clause-less
returns-in-Err-clause-less g c = search rules

pub returns-in-Err-clause-room : goal.returns-in-Err-clause-room
returns-in-Err-clause-room g c = search rules

pub returns-in-Err-clause-bytes : goal.returns-in-Err-clause-bytes
returns-in-Err-clause-bytes g c = search rules

pub returns-in-Err-clause-kept : goal.returns-in-Err-clause-kept
returns-in-Err-clause-kept g c = search rules

pub returns-in-Err-clause-none_failed : goal.returns-in-Err-clause-none_failed
returns-in-Err-clause-none_failed g c = search rules

pub returns-in-Ok-eq0-clause-open : goal.returns-in-Ok-eq0-clause-open
returns-in-Ok-eq0-clause-open g c = search rules

pub returns-in-Ok-eq0-clause-less : goal.returns-in-Ok-eq0-clause-less
returns-in-Ok-eq0-clause-less g c = search rules

pub returns-in-Ok-eq0-clause-failed : goal.returns-in-Ok-eq0-clause-failed
returns-in-Ok-eq0-clause-failed g c = search rules
