use Rattle.target_laws.proofs.TargetSettled.{target_code_settles, target_settles_at_one, target_settles_inside, target_paths_lead_on}
use Rattle.target_laws.proofs.local_code.target_code_settles.Goals as goal

pub returns-clause-settles : goal.returns-clause-settles
returns-clause-settles c = target_code_settles

pub returns-clause-once : goal.returns-clause-once
returns-clause-once c = target_settles_at_one

pub returns-clause-inside : goal.returns-clause-inside
returns-clause-inside c = target_settles_inside

pub returns-clause-further : goal.returns-clause-further
returns-clause-further c = target_paths_lead_on
