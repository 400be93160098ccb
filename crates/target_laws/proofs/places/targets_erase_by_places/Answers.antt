use Rattle.target_laws.proofs.ErasedPlaces.{targets_erase_by_places, sources_are_inside}
use Rattle.target_laws.proofs.places.targets_erase_by_places.Goals as goal

pub returns-clause-places : goal.returns-clause-places
returns-clause-places c = targets_erase_by_places

pub returns-clause-inside : goal.returns-clause-inside
returns-clause-inside c = sources_are_inside
