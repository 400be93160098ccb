use Rattle.std.proofs.Common.{rules}
use Rattle.word_runner.proofs.arena.Arena.step.Goals as goal

pub access-word-requires-clause-step : goal.access-word-requires-clause-step
access-word-requires-clause-step g c = search rules

pub accept_on-requires-clause-lawful : goal.accept_on-requires-clause-lawful
accept_on-requires-clause-lawful g c = search rules

pub returns-in-Some-clause-went : goal.returns-in-Some-clause-went
returns-in-Some-clause-went g c = search rules
