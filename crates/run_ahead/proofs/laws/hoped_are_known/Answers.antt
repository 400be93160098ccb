use Rattle.run_ahead.proofs.Names.{starts_get_nothing, hoped_are_known, kept_guards_stay}
use Rattle.run_ahead.proofs.laws.hoped_are_known.Goals as goal

pub returns-clause-starts : goal.returns-clause-starts
returns-clause-starts c = starts_get_nothing

pub returns-clause-known : goal.returns-clause-known
returns-clause-known c = hoped_are_known

pub returns-clause-guards : goal.returns-clause-guards
returns-clause-guards c = kept_guards_stay
