use Rattle.target_laws.proofs.InText.{paths_are_in_text, paths_lead_inside, targets_stay_inside, cycles_are_in_text}
use Rattle.target_laws.proofs.places.paths_are_in_text.Goals as goal

pub returns-clause-paths : goal.returns-clause-paths
returns-clause-paths c = paths_are_in_text

pub returns-clause-inside : goal.returns-clause-inside
returns-clause-inside c = paths_lead_inside

pub returns-clause-stays : goal.returns-clause-stays
returns-clause-stays c = targets_stay_inside

pub returns-clause-cycles : goal.returns-clause-cycles
returns-clause-cycles c = cycles_are_in_text
