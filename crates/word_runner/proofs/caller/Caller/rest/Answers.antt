use Rattle.std.proofs.Common.{rules}
use Rattle.word_runner.proofs.caller.Caller.rest.Goals as goal

pub over-requires : goal.over-requires
over-requires c = search rules

pub returns : goal.returns
returns c = search rules
