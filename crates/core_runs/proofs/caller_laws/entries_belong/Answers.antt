use Rattle.core_runs.proofs.caller_laws.Together.{belong, safe, fits_code, puts, cradles}
use Rattle.core_runs.proofs.caller_laws.entries_belong.Goals as goal

pub returns-clause-belong : goal.returns-clause-belong
returns-clause-belong c = belong

pub returns-clause-safe : goal.returns-clause-safe
returns-clause-safe c = safe

pub returns-clause-code : goal.returns-clause-code
returns-clause-code c = fits_code

pub returns-clause-puts : goal.returns-clause-puts
returns-clause-puts c = puts

pub returns-clause-cradles : goal.returns-clause-cradles
returns-clause-cradles c = cradles
