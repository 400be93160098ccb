use Rattle.epoch_relation.proofs.Announcing.{safe_is_resident, registers_are_resident}
use Rattle.epoch_relation.proofs.laws.what_is_held_is_resident.Goals as goal

pub returns-clause-safe : goal.returns-clause-safe
returns-clause-safe c = safe_is_resident

pub returns-clause-registers : goal.returns-clause-registers
returns-clause-registers c = registers_are_resident
